-- `lag_rows::inner::add_blocks` meets its contract. Assumes nothing.
use Rattle.std.proofs.Common.{refl, ◌∙◌, arith}
use Rattle.base.proofs.All.{from_none}
use Rattle.lag_rows.proofs.BlockSums.{kept_none, kept_more, kept_end, block_sum, left_sum, block_more, blocks_all, total_few}
use Rattle.lag_rows.proofs.inner.add_blocks.Goals as goal

pub loop-i-init : goal.loop-i-init
loop-i-init c = (search from_none, search kept_none)

pub total-more-requires : goal.total-more-requires
total-more-requires c = omega (arith, block_sum _ _ _ c.loop-i-test.true c.requires.m_in_bounds.0, total_few _ _ 64 c.args.m _ _ c.loop-i.invariant.0 (omega arith) c.requires.sums_bound)

pub overflow_add-all : goal.overflow_add-all
overflow_add-all c = omega (arith, c.total-more.ensures, block_sum _ _ _ c.loop-i-test.true c.requires.m_in_bounds.0, total_few _ _ 64 c.args.m _ _ c.loop-i.invariant.0 (omega arith) c.requires.sums_bound)

pub loop-i-preserved : goal.loop-i-preserved
loop-i-preserved c =
    let more = c.total-more.ensures ∙ block_sum _ _ _ c.loop-i-test.true c.requires.m_in_bounds.0 in
    (block_more _ _ _ _ c.loop-i.invariant.0 more, kept_more _ _ _ _ c.loop-i.invariant.1 (omega arith) more)

pub total-requires : goal.total-requires
total-requires c = omega (arith, left_sum c.args.sums.now c.args.m c.requires.m_in_bounds.0, blocks_all _ _ c.args.m _ _ c.loop-i.invariant.0 c.loop-i.auto.i-end c.loop-i-test.false refl, c.requires.sums_bound)

pub overflow_add-result : goal.overflow_add-result
overflow_add-result c = omega (arith, blocks_all _ _ c.args.m _ _ c.loop-i.invariant.0 c.loop-i.auto.i-end c.loop-i-test.false (c.total.ensures ∙ left_sum c.args.sums.now c.args.m c.requires.m_in_bounds.0), c.requires.sums_bound)

pub returns : goal.returns
returns c =
    record {
      value = blocks_all _ _ c.args.m _ _ c.loop-i.invariant.0 c.loop-i.auto.i-end c.loop-i-test.false (c.total.ensures ∙ left_sum c.args.sums.now c.args.m c.requires.m_in_bounds.0);
      blocks = kept_end _ _ _ _ c.loop-i.invariant.1 c.loop-i-test.false;
    }
