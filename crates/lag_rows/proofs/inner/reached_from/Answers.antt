-- `lag_rows::inner::reached_from` meets its contract. Assumes nothing.
use Rattle.std.proofs.Common.{refl, arith}
use Rattle.rules_window.proofs.Reaching.{running_more, next_few, reach_more, reach_stop, reach_past}
use Rattle.lag_rows.proofs.inner.reached_from.Goals as goal

pub loop-b-init : goal.loop-b-init
loop-b-init c = (c.requires.before_value, c.requires.from_bound.1, refl)

pub overflow_add-seen : goal.overflow_add-seen
overflow_add-seen c = omega (arith, next_few _ _ _ _ c.args.row.shape.0 _ c.shown-b-end.ensures _ c.args.row.few _ _ _ c.loop-b.invariant.0 refl c.loop-b-test.true)

pub returns-then-target-seen : goal.returns-then-target-seen
returns-then-target-seen c = reach_stop _ _ _ _ c.args.row.shape.0 _ c.shown-b-end.ensures _ _ _ c.loop-b.invariant.2 _ _ c.loop-b.invariant.0 refl c.loop-b-test.true c.if-target-seen.true

pub loop-b-preserved : goal.loop-b-preserved
loop-b-preserved c = (running_more _ _ _ _ c.args.row.shape.0 _ c.shown-b-end.ensures _ _ _ c.loop-b.invariant.0 refl c.loop-b-test.true, (λ h. c.if-target-seen.false), reach_more _ _ _ _ c.args.row.shape.0 _ c.shown-b-end.ensures _ _ _ c.loop-b.invariant.2 _ _ c.loop-b.invariant.0 refl c.loop-b-test.true c.if-target-seen.false)

pub returns : goal.returns
returns c = reach_past _ _ _ _ c.args.row.shape.0 _ c.shown-b-end.ensures _ _ _ c.loop-b.invariant.2 _ c.loop-b.invariant.0 c.loop-b.invariant.1 (omega arith) c.loop-b-test.false
