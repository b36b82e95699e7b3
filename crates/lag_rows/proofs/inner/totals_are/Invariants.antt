-- `lag_rows::inner::totals_are` meets its contract. Assumes nothing.
use Rattle.std.proofs.Common.{◌≡◌, true}
use Rattle.lag_rows.specs.Tallies.{totals_are}
use Rattle.lag_rows.proofs.inner.totals_are.Given as goal

abbrev pub invariant-loop-r : goal.invariant-loop-r
invariant-loop-r l = totals_are l.r l.rows l.totals ≡ true
