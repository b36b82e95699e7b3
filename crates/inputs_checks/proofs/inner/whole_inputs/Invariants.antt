-- `inputs_checks::inner::whole_inputs` meets its contract. Assumes nothing.
use Rattle.std.specs.Prelude.{◌≡◌, true}
use Rattle.base.specs.Lists.{all}
use Rattle.rules_record.specs.WholeRecord.{input_fits}
use Rattle.rules_record.specs.Lending.{lists_seen}
use Rattle.inputs_checks.proofs.inner.whole_inputs.Given as goal

abbrev pub invariant-loop-i : goal.invariant-loop-i
invariant-loop-i l = all (input_fits l.inputs (lists_seen l.lists)) l.i ≡ true

abbrev pub invariant-loop-i-2 : goal.invariant-loop-i-2
invariant-loop-i-2 l = all (input_fits l.inputs (lists_seen l.lists)) l.i ≡ true
