-- What lists of whole commands tell: one list after another, zeros, and each kind of command. Assumes nothing.
use Rattle.std.specs.Prelude.{Option, Some}
use Prim.Native.Nat.{ℕ, zero, suc, ◌-◌}
use mathlib.Core.Path.{◌≡◌, refl, sym, ◌∙◌}
use mathlib.Core.List.{List, [], ◌∷◌, ◌++◌}
use lib.ListN.{length, replicate}
use borrow.Author.Tests.{eq-eqb, ne_eqb}
use Rattle.base.specs.Choice.{both}
use Rattle.base.specs.Lists.{padded}
use Rattle.base.proofs.Choices.{yes_pick, no_pick}
use Rattle.rules_record.specs.Commands.{set_input, clear_input, set_delay}
use Rattle.sent_delays.specs.Last.{delay_told, last_delay}
use Rattle.sent_delays.specs.Times.{input_kind, delay_kind, time_told, last_time}

-- "three u32 words a command": no command lacks a word
abbrev pub WholeCommands : List ℕ → Type 0
WholeCommands [] = Unit {0}
WholeCommands (kind ∷ []) = ⊥
WholeCommands (kind ∷ (input ∷ [])) = ⊥
WholeCommands (kind ∷ (input ∷ (word ∷ words))) = WholeCommands words

pub whole_append : (a b : List ℕ) → WholeCommands a → WholeCommands b → WholeCommands (a ++ b)
whole_append [] b w v = v
whole_append (kind ∷ []) b w v = absurd w
whole_append (kind ∷ (input ∷ [])) b w v = absurd w
whole_append (kind ∷ (input ∷ (word ∷ a))) b w v = whole_append a b w v

-- ---- one list after another
pub last_append : (i before : ℕ) (a b : List ℕ) → WholeCommands a → last_delay i before (a ++ b) ≡ last_delay i (last_delay i before a) b
unfolding last_delay
last_append i before [] b w = refl
last_append i before (kind ∷ []) b w = absurd w
last_append i before (kind ∷ (input ∷ [])) b w = absurd w
last_append i before (kind ∷ (input ∷ (word ∷ a))) b w = last_append i (delay_told i before kind input word) a b w

-- ---- "words of an unused place are 0 and tell nothing"
pub last_zeros : (i before n : ℕ) → last_delay i before (replicate n 0) ≡ before
unfolding last_delay delay_told both
last_zeros i before zero = refl
last_zeros i before (suc zero) = refl
last_zeros i before (suc (suc zero)) = refl
last_zeros i before (suc (suc (suc n))) = last_zeros i before n

-- so a lent list tells what was sent, whatever its length
pub last_padded : (i before n : ℕ) (words : List ℕ) → WholeCommands words → last_delay i before (padded n words) ≡ last_delay i before words
unfolding padded
last_padded i before n words w = last_append i before words (replicate (n - length words) 0) w ∙ last_zeros i (last_delay i before words) (n - length words)

-- ---- each kind of command
module _ (i before input word : ℕ) where
  pub last_set_input : last_delay i before (set_input input word) ≡ before
  unfolding last_delay delay_told both
  last_set_input = refl

  pub last_clear_input : last_delay i before (clear_input input word) ≡ before
  unfolding last_delay delay_told both
  last_clear_input = refl

  -- SetDelay tells nothing to another input
  pub last_other : (i ≡ input → ⊥) → last_delay i before (set_delay input word) ≡ before
  unfolding last_delay delay_told both
  last_other apart = no_pick _ _ (ne_eqb _ _ (λ e. apart (sym e)))

  -- .. and its samples to its own
  pub last_own : i ≡ input → last_delay i before (set_delay input word) ≡ word
  unfolding last_delay delay_told both
  last_own e = yes_pick _ _ (eq-eqb _ _ (sym e))

-- ---- the times: the same of each
module _ (wanted i time : ℕ) where
  pub time_append : (before : Option ℕ) (a b : List ℕ) → WholeCommands a → last_time wanted i time before (a ++ b) ≡ last_time wanted i time (last_time wanted i time before a) b
  unfolding last_time
  time_append before [] b w = refl
  time_append before (kind ∷ []) b w = absurd w
  time_append before (kind ∷ (input ∷ [])) b w = absurd w
  time_append before (kind ∷ (input ∷ (word ∷ a))) b w = time_append (time_told wanted i time before kind input) a b w

-- of SetInput and SetDelay; no kind is 0
module _ (i time : ℕ) where
  set_zeros : (before : Option ℕ) (n : ℕ) → last_time delay_kind i time before (replicate n 0) ≡ before
  unfolding last_time time_told both
  set_zeros before zero = refl
  set_zeros before (suc zero) = refl
  set_zeros before (suc (suc zero)) = refl
  set_zeros before (suc (suc (suc n))) = set_zeros before n

  input_zeros : (before : Option ℕ) (n : ℕ) → last_time input_kind i time before (replicate n 0) ≡ before
  unfolding last_time time_told both
  input_zeros before zero = refl
  input_zeros before (suc zero) = refl
  input_zeros before (suc (suc zero)) = refl
  input_zeros before (suc (suc (suc n))) = input_zeros before n

  pub set_padded : (before : Option ℕ) (n : ℕ) (words : List ℕ) → WholeCommands words → last_time delay_kind i time before (padded n words) ≡ last_time delay_kind i time before words
  unfolding padded
  set_padded before n words w = time_append delay_kind i time before words (replicate (n - length words) 0) w ∙ set_zeros (last_time delay_kind i time before words) (n - length words)

  pub input_padded : (before : Option ℕ) (n : ℕ) (words : List ℕ) → WholeCommands words → last_time input_kind i time before (padded n words) ≡ last_time input_kind i time before words
  unfolding padded
  input_padded before n words w = time_append input_kind i time before words (replicate (n - length words) 0) w ∙ input_zeros (last_time input_kind i time before words) (n - length words)

  module _ (before : Option ℕ) (input word : ℕ) where
    -- SetDelay has no time of a SetInput, SetInput none of a SetDelay, ClearInput none of either
    pub set_of_set_input : last_time delay_kind i time before (set_input input word) ≡ before
    unfolding last_time time_told both
    set_of_set_input = refl

    pub set_of_clear_input : last_time delay_kind i time before (clear_input input word) ≡ before
    unfolding last_time time_told both
    set_of_clear_input = refl

    pub input_of_clear_input : last_time input_kind i time before (clear_input input word) ≡ before
    unfolding last_time time_told both
    input_of_clear_input = refl

    pub input_of_set_delay : last_time input_kind i time before (set_delay input word) ≡ before
    unfolding last_time time_told both
    input_of_set_delay = refl

    -- a command to another input tells nothing
    pub set_other : (i ≡ input → ⊥) → last_time delay_kind i time before (set_delay input word) ≡ before
    unfolding last_time time_told both
    set_other apart = no_pick _ _ (ne_eqb _ _ (λ e. apart (sym e)))

    pub input_other : (i ≡ input → ⊥) → last_time input_kind i time before (set_input input word) ≡ before
    unfolding last_time time_told both
    input_other apart = no_pick _ _ (ne_eqb _ _ (λ e. apart (sym e)))

    -- .. and one to its own its time
    pub set_own : i ≡ input → last_time delay_kind i time before (set_delay input word) ≡ Some time
    unfolding last_time time_told both
    set_own e = yes_pick _ _ (eq-eqb _ _ (sym e))

    pub input_own : i ≡ input → last_time input_kind i time before (set_input input word) ≡ Some time
    unfolding last_time time_told both
    input_own e = yes_pick _ _ (eq-eqb _ _ (sym e))
