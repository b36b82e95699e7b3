-- `lag_rows::inner::take_rows` meets its contract. Assumes nothing.
use Rattle.std.proofs.Common.{◌≡◌}
use Rattle.rules_window.specs.InPlace.{less_rows}
use Rattle.lag_rows.proofs.inner.take_rows.Given as goal

abbrev pub invariant-loop-r : goal.invariant-loop-r
invariant-loop-r l = l.sums ≡ less_rows l.buckets l.r l.counts l.initial.sums
