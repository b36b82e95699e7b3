-- `lag_rows::inner::sums_right` meets its contract. Assumes nothing.
use Rattle.std.proofs.Common.{◌≡◌, ◌≤◌, eqb, length}
use Rattle.lag_rows.specs.Tallies.{rows_to, Covered, alike_to}
use Rattle.lag_rows.proofs.inner.sums_right.Given as goal

abbrev pub invariant-loop-b : goal.invariant-loop-b
invariant-loop-b l = (l.b ≤ l.buckets) × (length l.rows ≡ 11) × (length l.columns ≡ 512) × (l.rows ≡ rows_to l.buckets l.b l.lists.counts.now) × Covered l.buckets l.b l.bits l.lists.counts.now × (eqb l.wrong 0 ≡ alike_to l.buckets l.b l.lists.counts.now l.lists.sums.now)
