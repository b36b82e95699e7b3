-- `text_scan::inner::short_number` meets its contract: the digits that are left give the same number. Assumes nothing.
use native.Mathlib.Omega.{arith}
use Rattle.text_scan.proofs.Scanning.{closed_last, closed_at_most}
use Rattle.text_scan.proofs.inner.short_number.Goals as goal

pub returns-in_default-clause-bound : goal.returns-in_default-clause-bound
returns-in_default-clause-bound c = closed_at_most _ _ _ _ c.close.ensures c.loop-i.invariant.1

pub returns-clause-bound : goal.returns-clause-bound
returns-clause-bound c = closed_at_most _ _ _ _ c.close-2.ensures c.loop-i.invariant.1

pub returns-clause-value : goal.returns-clause-value
returns-clause-value c = closed_last c.args.s.now _ _ c.args.at _ c.loop-i.i (omega arith) c.loop-i.invariant.2 c.loop-i.invariant.0 c.close-2.ensures
