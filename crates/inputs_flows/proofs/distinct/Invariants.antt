-- `inputs_flows::distinct` meets its contract. Assumes nothing.
use Rattle.std.specs.Prelude.{◌≡◌, true}
use Rattle.base.specs.Lists.{all}
use Rattle.rules_record.specs.Flows.{new_at}
use Rattle.inputs_flows.proofs.distinct.Given as goal

abbrev pub invariant-loop-i : goal.invariant-loop-i
invariant-loop-i l = all (new_at l.fn.inputs) l.i ≡ true
