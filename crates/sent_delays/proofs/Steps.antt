-- A step at a time tells what it did: an input's delay in the record that it leaves is the samples of the last SetDelay that it sent, and the
-- two times are its own where it sent a SetDelay or a SetInput; else they are those of before. One step after another tells it; so does each
-- step on one input. Assumes nothing.
use Rattle.std.specs.Prelude.{Option}
use Prim.Native.Nat.{ℕ, ◌<◌}
use mathlib.Core.Path.{◌≡◌, refl, sym, ap, subst, ◌∙◌}
use mathlib.Core.List.{List, [], ◌++◌}
use lib.Dec.{eqb}
use borrow.Author.Tests.{eqb-true, eqb-false}
use Rattle.base.proofs.Choices.{by_bool}
use Rattle.rules_record.specs.declared.Slot.{Slot}
use Rattle.rules_record.specs.declared.Inputs.{Inputs}
use Rattle.rules_record.specs.declared.State.TheVariants.{Stalled}
use Rattle.rules_record.specs.Slots.{with_state}
use Rattle.rules_record.specs.Inputs.{slot_at, put_slot}
use Rattle.rules_record.proofs.SlotFrame.{slot_same, slot_other}
use Rattle.rules_record.proofs.Sized.{sized_put}
use Rattle.rules_record.specs.Sized.{Sized}
use Rattle.rules_record.specs.Commands.{Done, set_input, clear_input, set_delay, quiet, send_first}
use Rattle.rules_routing.specs.SetDelay.{set_delay_of}
use Rattle.rules_routing.proofs.SetDelayStored.{stored_same, stored_other, stored_sized}
use Rattle.rules_routing.specs.declared.World.{World}
use Rattle.rules_routing.specs.TryOpen.{opened_slot, try_open_of}
use Rattle.rules_routing.proofs.TryOpenFrame.{open_leaves}
use Rattle.rules_routing.proofs.TryOpenOutcomes.{open_outcomes}
use Rattle.rules_routing.specs.Watch.{lost_slot, moved_slot, watch_of}
use Rattle.rules_routing.proofs.WatchFrame.{watch_leaves}
use Rattle.rules_routing.proofs.WatchOutcomes.{watch_outcomes}
use Rattle.rules_routing.proofs.TryOpenKeeps.{opened_delay}
use Rattle.rules_routing.proofs.Answers.{opening_stores_its_time, opening_leaves_the_delays_time, head_leaves_the_opening, head_leaves_the_delays_time}
use Rattle.rules_routing.proofs.WatchKeeps.{moved_delay}
use Rattle.rules_record.specs.Lent.{Lists}
use Rattle.rules_record.specs.Effects.{Effect, followed_by}
use Rattle.sent_delays.proofs.Words.{WholeCommands, whole_append}
use Rattle.sent_delays.proofs.Notes.{Notes, notes_of, notes_after, opened, delayed, notes_none, notes_append, notes_clear_input, notes_set_input, notes_set_delay, notes_set_input_other, notes_set_delay_other, notes_start, notes_start_other}

-- the record z that a step at this time leaves of s, and the words that it sends
pub record Tells (time : ℕ) (s z : Inputs) (words : List ℕ) : Type 0 where
  pub sized : Sized z
  pub whole : WholeCommands words
  pub notes : (j : ℕ) → j < 16 → notes_of (slot_at z j) ≡ notes_after j time (notes_of (slot_at s j)) words

-- of a step on the record alone, and of one on the record and the lists
abbrev pub TellsDone : ℕ → Inputs → Done → Type 0
TellsDone time s done = Tells time s done.inputs done.words

abbrev pub TellsEffect : ℕ → Inputs → Effect → Type 0
TellsEffect time s effect = Tells time s effect.inputs effect.words

module _ {time : ℕ} where
  -- ---- one step after another
  pub tells_then : {s m z : Inputs} {a b : List ℕ} → Tells time s m a → Tells time m z b → Tells time s z (a ++ b)
  tells_then {s} {m} {z} {a} {b} f g = record {
    sized = g.sized;
    whole = whole_append a b f.whole g.whole;
    notes = λ j l. g.notes j l ∙ ap (λ (n : Notes). notes_after j time n b) (f.notes j l) ∙ sym (notes_append j time (notes_of (slot_at s j)) a b f.whole);
  }

  pub tells_followed : (s : Inputs) (effect : Effect) (next : Inputs → Lists → Effect) → TellsEffect time s effect → TellsEffect time effect.inputs (next effect.inputs effect.lists)
      → TellsEffect time s (followed_by effect next)
  unfolding followed_by
  tells_followed s effect next f g = tells_then f g

  -- the words are sent first, then what follows
  pub tells_first : {s m : Inputs} (words : List ℕ) (done : Done) → Tells time s m words → TellsDone time m done → TellsDone time s (send_first words done)
  unfolding send_first
  tells_first words done f g = tells_then f g

  -- the record changes once more, with nothing sent
  pub tells_changed : {s m z : Inputs} {words : List ℕ} → Tells time s m words → Tells time m z [] → Tells time s z words
  tells_changed f g = record { sized = g.sized; whole = f.whole; notes = λ j l. g.notes j l ∙ notes_none j time _ ∙ f.notes j l }

  -- ---- a step without words that leaves every slot as it was
  pub tells_same : {s z : Inputs} → Sized z → ((j : ℕ) → slot_at z j ≡ slot_at s j) → Tells time s z []
  tells_same h same = record { sized = h; whole = tt; notes = λ j l. ap notes_of (same j) ∙ sym (notes_none j time _) }

  pub tells_none : {s : Inputs} → Sized s → Tells time s s []
  tells_none h = tells_same h (λ j. refl)

  pub tells_quiet : {s : Inputs} → Sized s → TellsDone time s (quiet s)
  unfolding quiet
  tells_quiet h = tells_none h

-- ---- a step on one input
-- What the words of a step on input i tell: to it what is noted in the slot that the step leaves, where `before` was noted, and nothing to another.
record Own (i time : ℕ) (before : Notes) (slot : Slot) (words : List ℕ) : Type 0 where
  whole : WholeCommands words
  own : notes_of slot ≡ notes_after i time before words
  others : (j : ℕ) (n : Notes) → (j ≡ i → ⊥) → notes_after j time n words ≡ n

tells_own : (i time : ℕ) {s z : Inputs} {words : List ℕ} → Sized z → ((j : ℕ) → (j ≡ i → ⊥) → slot_at z j ≡ slot_at s j) → Own i time (notes_of (slot_at s i)) (slot_at z i) words → Tells time s z words
tells_own i time {s} {z} {words} h others f = record {
  sized = h;
  whole = f.whole;
  notes = λ j l.
      by_bool (eqb j i)
      (λ e. subst (λ (k : ℕ). notes_of (slot_at z k) ≡ notes_after k time (notes_of (slot_at s k)) words) (sym (eqb-true j i e)) f.own)
      (λ e. ap notes_of (others j (eqb-false j i e)) ∙ sym (f.others j (notes_of (slot_at s j)) (eqb-false j i e)));
}

module _ (i time : ℕ) (before : Notes) (slot : Slot) where
  module _ (same : notes_of slot ≡ before) where
    own_silent : Own i time before slot []
    own_silent = record { whole = tt; own = same ∙ sym (notes_none i time before); others = λ j n apart. notes_none j time n }

    own_cleared : (forget : ℕ) → Own i time before slot (clear_input i forget)
    own_cleared forget = record { whole = tt; own = same ∙ sym (notes_clear_input i time before i forget); others = λ j n apart. notes_clear_input j time n i forget }

  own_opened : notes_of slot ≡ opened time before → (channels : ℕ) → Own i time before slot (set_input i channels)
  own_opened is channels = record { whole = tt; own = is ∙ sym (notes_set_input i time before channels); others = λ j n apart. notes_set_input_other j time n i apart channels }

  own_set : (delay : ℕ) → notes_of slot ≡ delayed delay time before → Own i time before slot (set_delay i delay)
  own_set delay is = record { whole = tt; own = is ∙ sym (notes_set_delay i time before delay); others = λ j n apart. notes_set_delay_other j time n i apart delay }

  own_started : (delay : ℕ) → notes_of slot ≡ delayed delay time (opened time before) → (channels : ℕ) → Own i time before slot (set_input i channels ++ set_delay i delay)
  own_started delay is channels = record { whole = tt; own = is ∙ sym (notes_start i time before channels delay); others = λ j n apart. notes_start_other j time n i apart channels delay }

-- ---- slots that an opening, a flow that is gone and a head that moves leave
opened_notes : (slot : Slot) (inode head time : ℕ) → notes_of (opened_slot slot inode head time) ≡ opened time (notes_of slot)
opened_notes slot inode head time =
    λ t.
    record {
      delay = opened_delay slot inode head time t;
      set = opening_leaves_the_delays_time slot inode head time t;
      input = opening_stores_its_time slot inode head time t;
    }

lost_notes : (slot : Slot) → notes_of (lost_slot slot) ≡ notes_of slot
unfolding lost_slot
lost_notes slot = refl

moved_notes : (slot : Slot) (head time : ℕ) → notes_of (moved_slot slot head time) ≡ notes_of slot
moved_notes slot head time =
    λ t.
    record {
      delay = moved_delay slot head time t;
      set = head_leaves_the_delays_time slot head time t;
      input = head_leaves_the_opening slot head time t;
    }

module _ (i : ℕ) (input : i < 16) (s : Inputs) (sized : Sized s) (time : ℕ) where
  -- the slot of input i is written, and these words are sent
  put_own : (slot : Slot) {words : List ℕ} → Own i time (notes_of (slot_at s i)) slot words → Tells time s (put_slot s i slot) words
  put_own slot {words} f =
      tells_own i time (sized_put s i slot sized) (slot_other s i slot)
      (subst (λ (x : Slot). Own i time (notes_of (slot_at s i)) x words) (sym (slot_same s i slot input sized.slots)) f)

  -- .. with what is noted as it was, and without words
  pub tells_put : (slot : Slot) → notes_of slot ≡ notes_of (slot_at s i) → Tells time s (put_slot s i slot) []
  tells_put slot same = put_own slot (own_silent i time (notes_of (slot_at s i)) slot same)

  -- .. with this delay, and its SetDelay
  pub tells_put_delay : (slot : Slot) (delay : ℕ) → notes_of slot ≡ delayed delay time (notes_of (slot_at s i)) → Tells time s (put_slot s i slot) (set_delay i delay)
  tells_put_delay slot delay is = put_own slot (own_set i time (notes_of (slot_at s i)) slot delay is)

  -- ClearInput tells nothing
  pub tells_clear_input : (forget : ℕ) → Tells time s s (clear_input i forget)
  tells_clear_input forget = tells_own i time sized (λ j apart. refl) (own_cleared i time (notes_of (slot_at s i)) (slot_at s i) refl forget)

  -- "`set_delay` stores, .., sends SetDelay."
  pub tells_set : (delay : ℕ) → TellsDone time s (set_delay_of s i delay time)
  unfolding set_delay_of send_first quiet
  tells_set delay =
      tells_own i time (stored_sized s i delay time sized) (stored_other s i delay time)
      (own_set i time (notes_of (slot_at s i)) _ delay (ap notes_of (stored_same s i delay time input sized)))

  -- opening a reader stores its time, and leaves the delay or sets the one that the flow had last
  pub tells_open : (world : World) → TellsDone time s (try_open_of s i time world)
  tells_open world =
      let f = open_leaves i s time world in
      tells_own i time (f.sized sized) f.others
      (open_outcomes i input s time world sized (Own i time (notes_of (slot_at s i)))
      (own_silent i time _ (slot_at s i) refl)
      (λ inode channels of to. own_opened i time _ _ (opened_notes (slot_at s i) inode world.head time) channels)
      (λ inode channels delay of to anew most. own_started i time _ _ delay (ap (delayed delay time) (opened_notes (slot_at s i) inode world.head time)) channels))

  pub tells_watch : (seen : Option ℕ) (world : World) → TellsDone time s (watch_of s i time seen world)
  tells_watch seen world =
      let f = watch_leaves i s time seen world in
      tells_own i time (f.sized sized) f.others
      (watch_outcomes i input s sized time world (Own i time (notes_of (slot_at s i)))
      (own_silent i time _ (slot_at s i) refl)
      (own_cleared i time _ _ (lost_notes (slot_at s i)) 0)
      (own_silent i time _ _ (moved_notes (slot_at s i) world.head time))
      (λ inode channels of to. own_opened i time _ _ (opened_notes (slot_at s i) inode world.head time) channels)
      (λ inode channels delay of to anew most. own_started i time _ _ delay (ap (delayed delay time) (opened_notes (slot_at s i) inode world.head time)) channels)
      (λ stalls. own_silent i time _ (with_state (slot_at s i) Stalled) refl)
      (λ inode channels stalls of to. own_opened i time _ _ (opened_notes (with_state (slot_at s i) Stalled) inode world.head time) channels) seen)
