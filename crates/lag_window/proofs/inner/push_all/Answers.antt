-- `lag_window::inner::push_all` meets its contract. Assumes nothing.
use Rattle.rules_window.proofs.Ticks.{going_start, going_asks, going_more, going_end}
use Rattle.rules_window.specs.ColumnSums.{column_sums}
use mathlib.Core.Path.{sym, ap, ◌∙◌}
use Rattle.lag_window.proofs.Lists.{same_none, same_more}
use Rattle.lag_window.proofs.inner.push_all.Goals as goal

pub loop-lag-init : goal.loop-lag-init
loop-lag-init c = (going_start _ _ _ c.requires.sound c.requires.room, same_none _, c.requires.own)

pub push-w-requires : goal.push-w-requires
push-w-requires c = going_asks _ _ _ _ _ c.requires.soon c.loop-lag.invariant.0 _ c.loop-lag.invariant.2 c.loop-lag-test.true

pub loop-lag-preserved : goal.loop-lag-preserved
loop-lag-preserved c = (going_more _ _ _ _ _ c.requires.soon c.loop-lag.invariant.0 _ c.loop-lag-test.true c.push-w.ensures.counts_after, same_more _ _ _ c.loop-lag.invariant.1 c.push-w.ensures.same, c.push-w.ensures.sums_after ∙ ap column_sums (sym c.push-w.ensures.counts_after))

pub returns-clause-counts_after : goal.returns-clause-counts_after
returns-clause-counts_after c = going_end _ _ _ _ _ c.requires.soon c.loop-lag.invariant.0 c.loop-lag-test.false

pub returns-clause-sums_after : goal.returns-clause-sums_after
returns-clause-sums_after c = c.loop-lag.invariant.2 ∙ ap column_sums (going_end _ _ _ _ _ c.requires.soon c.loop-lag.invariant.0 c.loop-lag-test.false)

pub returns-clause-same : goal.returns-clause-same
returns-clause-same c = c.loop-lag.invariant.1
