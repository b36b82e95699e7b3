-- `lag_rows::inner::long_column` meets its contract. Assumes nothing.
use Rattle.std.proofs.Common.{◌≡◌, ◌*◌, ◌≤◌}
use Rattle.rules_window.specs.Quantile.{column}
use Rattle.lag_rows.proofs.inner.long_column.Given as goal

abbrev pub invariant-loop-r : goal.invariant-loop-r
invariant-loop-r l = (l.total ≡ column l.buckets l.b l.r l.counts) × (l.total ≤ l.r * 4294967295)
