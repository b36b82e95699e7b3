-- `lag_rows::inner::add_column` meets its contract. Assumes nothing.
use Rattle.std.proofs.Common.{◌≡◌, ◌+◌, ◌%◌}
use Rattle.base.proofs.Toward.{toward}
use Rattle.rules_window.specs.Quantile.{column}
use Rattle.lag_rows.specs.Tallies.{rows_to}
use Rattle.lag_rows.proofs.Tallies.{Passed}
use Rattle.lag_rows.proofs.inner.add_column.Given as goal

abbrev pub invariant-loop-r : goal.invariant-loop-r
invariant-loop-r l = (l.rows ≡ toward (rows_to l.places.buckets (l.b + 1) l.counts) (rows_to l.places.buckets l.b l.counts) l.r) × (l.sum ≡ column l.places.buckets l.b l.r l.counts % 4294967296) × Passed l.places.buckets l.b l.r l.joined l.counts
