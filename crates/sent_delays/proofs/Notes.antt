-- What a record notes of the commands to an input: its delay, when the last SetDelay went, when the last SetInput; and what commands make of it. Assumes nothing.
use Rattle.std.specs.Prelude.{Option, Some}
use Prim.Native.Nat.{ℕ}
use mathlib.Core.Path.{◌≡◌, refl, ap, ◌∙◌}
use mathlib.Core.List.{List, [], ◌++◌}
use Rattle.base.specs.Lists.{padded}
use Rattle.rules_record.specs.declared.Slot.{Slot}
use Rattle.rules_record.specs.Commands.{set_input, clear_input, set_delay}
use Rattle.sent_delays.specs.Last.{last_delay}
use Rattle.sent_delays.specs.Times.{input_kind, delay_kind, last_time}
use Rattle.sent_delays.proofs.Words.{WholeCommands, last_append, last_padded, last_set_input, last_clear_input, last_other, last_own, time_append, set_padded, input_padded, set_of_set_input, set_of_clear_input, input_of_clear_input, input_of_set_delay, set_other, input_other, set_own, input_own}

pub record Notes : Type 0 where
  pub delay : ℕ
  pub set : Option ℕ
  pub input : Option ℕ

abbrev pub notes_of : Slot → Notes
notes_of slot = record { delay = slot.delay; set = slot.last_set; input = slot.last_input }

-- after these commands, sent at this time
abbrev pub notes_after : (i time : ℕ) (before : Notes) (words : List ℕ) → Notes
notes_after i time before words =
    record {
      delay = last_delay i before.delay words;
      set = last_time delay_kind i time before.set words;
      input = last_time input_kind i time before.input words;
    }

-- with a SetInput, with a SetDelay
abbrev pub opened : (time : ℕ) (before : Notes) → Notes
opened time before = record { delay = before.delay; set = before.set; input = Some time }

abbrev pub delayed : (delay time : ℕ) (before : Notes) → Notes
delayed delay time before = record { delay = delay; set = Some time; input = before.input }

module _ (i time : ℕ) (before : Notes) where
  pub notes_none : notes_after i time before [] ≡ before
  unfolding last_delay last_time
  notes_none = refl

  pub notes_append : (a b : List ℕ) → WholeCommands a → notes_after i time before (a ++ b) ≡ notes_after i time (notes_after i time before a) b
  notes_append a b w =
      λ t.
      record {
        delay = last_append i before.delay a b w t;
        set = time_append delay_kind i time before.set a b w t;
        input = time_append input_kind i time before.input a b w t;
      }

  pub notes_padded : (n : ℕ) (words : List ℕ) → WholeCommands words → notes_after i time before (padded n words) ≡ notes_after i time before words
  notes_padded n words w =
      λ t.
      record {
        delay = last_padded i before.delay n words w t;
        set = set_padded i time before.set n words w t;
        input = input_padded i time before.input n words w t;
      }

  -- ---- each kind of command
  pub notes_clear_input : (input forget : ℕ) → notes_after i time before (clear_input input forget) ≡ before
  notes_clear_input input forget =
      λ t.
      record {
        delay = last_clear_input i before.delay input forget t;
        set = set_of_clear_input i time before.set input forget t;
        input = input_of_clear_input i time before.input input forget t;
      }

  -- to this input
  pub notes_set_input : (channels : ℕ) → notes_after i time before (set_input i channels) ≡ opened time before
  notes_set_input channels =
      λ t.
      record {
        delay = last_set_input i before.delay i channels t;
        set = set_of_set_input i time before.set i channels t;
        input = input_own i time before.input i channels refl t;
      }

  pub notes_set_delay : (delay : ℕ) → notes_after i time before (set_delay i delay) ≡ delayed delay time before
  notes_set_delay delay =
      λ t.
      record {
        delay = last_own i before.delay i delay refl t;
        set = set_own i time before.set i delay refl t;
        input = input_of_set_delay i time before.input i delay t;
      }

  -- to another
  module _ (input : ℕ) (apart : i ≡ input → ⊥) where
    pub notes_set_input_other : (channels : ℕ) → notes_after i time before (set_input input channels) ≡ before
    notes_set_input_other channels =
        λ t.
        record {
          delay = last_set_input i before.delay input channels t;
          set = set_of_set_input i time before.set input channels t;
          input = input_other i time before.input input channels apart t;
        }

    pub notes_set_delay_other : (delay : ℕ) → notes_after i time before (set_delay input delay) ≡ before
    notes_set_delay_other delay =
        λ t.
        record {
          delay = last_other i before.delay input delay apart t;
          set = set_other i time before.set input delay apart t;
          input = input_of_set_delay i time before.input input delay t;
        }

-- ---- a SetInput, and then a SetDelay
pub notes_start : (i time : ℕ) (before : Notes) (channels delay : ℕ) → notes_after i time before (set_input i channels ++ set_delay i delay) ≡ delayed delay time (opened time before)
notes_start i time before channels delay =
    notes_append i time before (set_input i channels) (set_delay i delay) tt
    ∙ ap (λ (n : Notes). notes_after i time n (set_delay i delay)) (notes_set_input i time before channels)
    ∙ notes_set_delay i time (opened time before) delay

pub notes_start_other : (i time : ℕ) (before : Notes) (input : ℕ) → (i ≡ input → ⊥) → (channels delay : ℕ) → notes_after i time before (set_input input channels ++ set_delay input delay) ≡ before
notes_start_other i time before input apart channels delay =
    notes_append i time before (set_input input channels) (set_delay input delay) tt
    ∙ ap (λ (n : Notes). notes_after i time n (set_delay input delay)) (notes_set_input_other i time before input apart channels)
    ∙ notes_set_delay_other i time before input apart delay
