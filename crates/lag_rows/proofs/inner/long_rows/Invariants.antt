-- `lag_rows::inner::long_rows` meets its contract. Assumes nothing.
use Rattle.std.proofs.Common.{◌≡◌, true}
use Rattle.rules_window.specs.WholeWindow.{summed}
use Rattle.lag_rows.proofs.inner.long_rows.Given as goal

abbrev pub invariant-loop-i : goal.invariant-loop-i
invariant-loop-i l = summed l.i l.buckets l.totals l.counts ≡ true
