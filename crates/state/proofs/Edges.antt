-- Document 01's sentences about `Coalesce`, each at its edge, computed on the definitions. Assumes nothing.
use Rattle.std.specs.Prelude.{None, Some}
use Prim.Native.Nat.{ℕ}
use mathlib.Core.Bool.{true, false}
use mathlib.Core.Path.{◌≡◌, refl}
use mathlib.Core.List.{[], ◌∷◌}
use Rattle.base.specs.Choice.{ask}
use Rattle.base.specs.Limits.{call_number}
use Rattle.state.specs.Coalesce.{fresh_coalesce, whole_due, whole_coalesce, due_after_change, changed_number, is_set, record_number, pending_of, is_due, take_due_of, take_of}
use Rattle.state.specs.declared.Coalesce.{Coalesce}

-- a record that is due then
abbrev due_at : ℕ → Coalesce
due_at time = record { due = Some time }

-- "`changed` sets due to now + delay where none is set"
pub first_change_sets_due : due_after_change None 7 5 ∷ due_after_change (Some 3) 7 5 ∷ [] ≡ Some 12 ∷ Some 3 ∷ []
unfolding due_after_change
first_change_sets_due = refl

-- "A delay above 600 s gets number 3", before 6 and 8
pub long_delay_gets_3 :
    changed_number fresh_coalesce 0 600_000_000_000
    ∷ changed_number fresh_coalesce 0 600_000_000_001
    ∷ changed_number (due_at 4_000_000_600_000_000_001) 4_000_000_000_000_000_001 600_000_000_001
    ∷ changed_number (due_at 4_000_000_600_000_000_001) 4_000_000_000_000_000_001 0
    ∷ changed_number fresh_coalesce 4_000_000_000_000_000_001 0
    ∷ []
    ≡ 0 ∷ 3 ∷ 3 ∷ 6 ∷ 8 ∷ []
unfolding ask call_number whole_due whole_coalesce changed_number
long_delay_gets_3 = refl

-- "`pending` tells if one is"
pub pending_where_one_is_set :
    pending_of fresh_coalesce ∷ pending_of (due_at 7) ∷ pending_of (due_at 4_000_000_600_000_000_001) ∷ []
    ≡ record { number = 0; value = false } ∷ record { number = 0; value = true } ∷ record { number = 6; value = false } ∷ []
unfolding ask whole_due whole_coalesce is_set record_number pending_of
pending_where_one_is_set = refl

-- "`take_due` is yes from due on and clears it": not 1 ns before
pub due_from_due_on :
    take_due_of (due_at 7) 6 ∷ take_due_of (due_at 7) 7 ∷ take_due_of fresh_coalesce 7 ∷ []
    ≡ record { number = 0; value = false; coalesce = due_at 7 }
    ∷ record { number = 0; value = true; coalesce = fresh_coalesce }
    ∷ record { number = 0; value = false; coalesce = fresh_coalesce }
    ∷ []
unfolding ask call_number whole_due whole_coalesce is_due take_due_of
due_from_due_on = refl

-- "`take` clears it and tells if one was set"
pub take_clears_what_was_set :
    take_of (due_at 7) ∷ take_of fresh_coalesce ∷ []
    ≡ record { number = 0; value = true; coalesce = fresh_coalesce } ∷ record { number = 0; value = false; coalesce = fresh_coalesce } ∷ []
unfolding ask whole_due whole_coalesce is_set record_number take_of
take_clears_what_was_set = refl
