-- `lag_window::inner::push_all` meets its contract. Assumes nothing.
use Rattle.std.specs.Prelude.{◌≡◌}
use Rattle.rules_window.proofs.Ticks.{Going}
use Rattle.rules_window.specs.Window.{pushed_all}
use Rattle.rules_window.specs.Lending.{SameWindow}
use Rattle.lag_window.specs.Lent.{window_lent}
use Rattle.rules_window.specs.ColumnSums.{column_sums}
use Rattle.lag_window.proofs.inner.push_all.Given as goal

abbrev pub invariant-loop-lag : goal.invariant-loop-lag
invariant-loop-lag l = Going l.time l.lags (pushed_all l.time l.lags (window_lent l.initial.w l.initial.lists)) l.lag-index (window_lent l.w l.lists) × SameWindow l.initial.lists l.lists × (l.lists.sums.now ≡ column_sums (window_lent l.w l.lists))
