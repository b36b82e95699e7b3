-- `lag_rows::inner::reached_from` meets its contract. Assumes nothing.
use Rattle.std.proofs.Common.{◌≡◌, ◌-◌, ◌<◌, ◌≤◌}
use Rattle.rules_window.specs.Quantile.{running, reach}
use Rattle.lag_rows.proofs.inner.reached_from.Given as goal

abbrev pub invariant-loop-b : goal.invariant-loop-b
invariant-loop-b l = (l.seen ≡ running l.row.limit l.row.width l.row.buckets 1 l.row.sums.now l.b) × (1 ≤ l.b → l.seen < l.target) × (reach l.target l.row.limit l.row.width l.row.buckets 1 l.row.sums.now (l.row.buckets - l.from) l.from ≡ reach l.target l.row.limit l.row.width l.row.buckets 1 l.row.sums.now (l.row.buckets - l.b) l.b)
