-- The mission's third demand is met. Assumes nothing.
use Prim.Native.Nat.{◌≤◌}
use mathlib.Core.Path.{◌≡◌, refl}
use mathlib.Core.List.{List}
use Rattle.rules_record.specs.Checks.{own_number}
use Rattle.rules_record.proofs.CheckOrder.{own_to_six, own_apart}
use Rattle.third_demand.specs.Calls.{Call, after, Accepted, Night, left_by}
use Rattle.third_demand.specs.Demand as demand
use Rattle.third_demand.proofs.Steps.{laws}
use Rattle.third_demand.proofs.Birth.{born}
use Rattle.third_demand.proofs.Theorem.{met, whole_always}

pub third_demand : demand.ThirdDemand
third_demand = met laws born

-- .. and its first part with confirmation too, and whatever the clock does
pub stays_whole : demand.StaysWholeAlways
stays_whole = whole_always born

-- no number from 1 to 6 refuses, nor 17, nor 18: `beyond_its_own` without the definition of the record's own numbers
module _ (night : Night) (calls : List Call) (whole : demand.Whole night calls) (call : Call) where
  pub at_most_six : (after (left_by night calls) call).number ≤ 6 → Accepted (left_by night calls) call
  at_most_six few = own_to_six (after (left_by night calls) call).number (whole.beyond_its_own call) few

  pub not_17 : (after (left_by night calls) call).number ≡ 17 → ⊥
  unfolding own_number
  not_17 e = own_apart (after (left_by night calls) call).number 17 (whole.beyond_its_own call) refl e

  pub not_18 : (after (left_by night calls) call).number ≡ 18 → ⊥
  unfolding own_number
  not_18 e = own_apart (after (left_by night calls) call).number 18 (whole.beyond_its_own call) refl e
