-- `lag_rows::inner::reached` meets its contract. Assumes nothing.
use Rattle.std.proofs.Common.{◌≡◌, ◌-◌, ◌*◌, ◌<◌, ◌≤◌}
use Rattle.rules_window.specs.Quantile.{running, reach}
use Rattle.lag_rows.proofs.inner.reached.Given as goal

abbrev pub invariant-loop-i : goal.invariant-loop-i
invariant-loop-i l = (l.seen ≡ running l.row.limit l.row.width l.row.buckets 1 l.row.sums.now (64 * l.i)) × (1 ≤ 64 * l.i → l.seen < l.target) × (reach l.target l.row.limit l.row.width l.row.buckets 1 l.row.sums.now l.row.buckets 0 ≡ reach l.target l.row.limit l.row.width l.row.buckets 1 l.row.sums.now (l.row.buckets - 64 * l.i) (64 * l.i))
