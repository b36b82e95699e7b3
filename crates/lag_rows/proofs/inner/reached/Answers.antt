-- `lag_rows::inner::reached` meets its contract. Assumes nothing.
use Rattle.std.proofs.Common.{◌≡◌, ◌+◌, ◌*◌, arith}
use native.Mathlib.Nat.{sub-zero}
use Rattle.rules_window.proofs.Reaching.{running_none, running_block, block_few, reach_block}
use Rattle.lag_rows.proofs.BlockSums.{kept_in, kept_at}
use Rattle.lag_rows.proofs.inner.reached.Goals as goal

pub loop-i-init : goal.loop-i-init
loop-i-init c = (search running_none, (λ h. absurd (omega arith)), rw sub-zero)

pub overflow_add-seen : goal.overflow_add-seen
overflow_add-seen c =
    let l = kept_in _ _ _ _ _ c.requires c.shown-whole.ensures c.loop-i-test.true in
    omega (arith, block_few _ _ _ _ c.args.row.shape.0 _ c.shown-whole.ensures _ c.args.row.few _ 64 _ c.loop-i.invariant.0 l, kept_at _ _ _ _ _ c.requires c.shown-whole.ensures c.loop-i-test.true)

pub loop-i-preserved : goal.loop-i-preserved
loop-i-preserved c =
    let l = kept_in _ _ _ _ _ c.requires c.shown-whole.ensures c.loop-i-test.true in
    let more = kept_at _ _ _ _ _ c.requires c.shown-whole.ensures c.loop-i-test.true in
    let e : 64 * (c.loop-i.i + 1) ≡ 64 * c.loop-i.i + 64 = omega arith in
    rw e (running_block _ _ _ _ c.args.row.shape.0 _ c.shown-whole.ensures _ 64 _ _ c.loop-i.invariant.0 more l, (λ h. c.if-target-seen.false), reach_block _ _ _ _ c.args.row.shape.0 _ c.shown-whole.ensures _ _ _ c.loop-i.invariant.2 64 _ _ c.loop-i.invariant.0 more l c.if-target-seen.false)
