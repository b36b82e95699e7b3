-- `lag_rows::inner::totals_are` meets its contract. Assumes nothing.
use Rattle.std.proofs.Common.{arith}
use Rattle.lag_rows.proofs.Tallies.{totals_none, totals_more, totals_stop, totals_end}
use Rattle.lag_rows.proofs.inner.totals_are.Goals as goal

pub loop-r-init : goal.loop-r-init
loop-r-init c = search totals_none

pub returns-then-from-totals : goal.returns-then-from-totals
returns-then-from-totals c = totals_stop _ _ 11 _ _ (omega arith) c.from.ensures c.if-from-totals.true

pub loop-r-preserved : goal.loop-r-preserved
loop-r-preserved c = search totals_more

pub returns : goal.returns
returns c = totals_end _ _ 11 _ c.loop-r.invariant (omega arith) (omega arith)
