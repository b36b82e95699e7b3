-- `lag_rows::inner::take_row` meets its contract. Assumes nothing.
use Rattle.std.proofs.Common.{◌≡◌}
use Rattle.base.proofs.Toward.{toward}
use Rattle.rules_window.specs.InPlace.{less_row}
use Rattle.lag_rows.proofs.inner.take_row.Given as goal

abbrev pub invariant-loop-b : goal.invariant-loop-b
invariant-loop-b l = l.sums ≡ toward (less_row l.buckets l.r l.counts l.initial.sums) l.initial.sums l.b
