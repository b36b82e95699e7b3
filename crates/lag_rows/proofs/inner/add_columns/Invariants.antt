-- `lag_rows::inner::add_columns` meets its contract. Assumes nothing.
use Rattle.std.proofs.Common.{◌≡◌, ◌+◌}
use Rattle.lag_rows.specs.Tallies.{rows_to, Covered, Columns}
use Rattle.lag_rows.proofs.inner.add_columns.Given as goal

abbrev pub invariant-loop-i : goal.invariant-loop-i
invariant-loop-i l = (l.rows ≡ rows_to l.places.buckets (l.from + l.i) l.counts) × Covered l.places.buckets (l.from + l.i) l.joined l.counts × Columns l.places.buckets l.from l.i l.counts l.columns
