-- `lag_rows::inner::long_columns` meets its contract. Assumes nothing.
use Rattle.std.proofs.Common.{◌≡◌, true}
use Rattle.rules_window.proofs.Checking.{columns_to}
use Rattle.lag_rows.proofs.inner.long_columns.Given as goal

abbrev pub invariant-loop-b : goal.invariant-loop-b
invariant-loop-b l = columns_to l.buckets l.counts l.sums l.b ≡ true
