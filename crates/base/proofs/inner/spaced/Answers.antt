-- `base::inner::spaced` meets its contract. Assumes nothing.
use Rattle.std.proofs.Common.{◌∙◌, ap}
use Rattle.std.specs.Slice.Iter.{windows_rest, windows_size}
use Rattle.base.proofs.Pairs.{walk_none, walk_more, walk_stop, walk_end}
use Rattle.base.proofs.inner.spaced.Goals as goal

pub loop-pair-init : goal.loop-pair-init
loop-pair-init c =
    walk_none _ _ (ap windows_rest c.into_iter-pair-iterator.ensures.into_iter_gives ∙ c.windows-pair-items.ensures.rest) (ap windows_size c.into_iter-pair-iterator.ensures.into_iter_gives ∙ c.windows-pair-items.ensures.size)

pub returns-then-saturating_sub-gap : goal.returns-then-saturating_sub-gap
returns-then-saturating_sub-gap c =
    walk_stop c.args.gap c.args.n c.args.times.now c.requires _ _ c.loop-pair.invariant c.in-Some.is c.next.ensures.steps c.saturating_sub.ensures c.if-saturating_sub-gap.true

pub loop-pair-preserved : goal.loop-pair-preserved
loop-pair-preserved c = walk_more _ _ _ _ c.loop-pair.invariant c.in-Some.is c.next.ensures.steps c.saturating_sub.ensures c.if-saturating_sub-gap.false

pub returns : goal.returns
returns c = walk_end c.args.gap c.args.n c.args.times.now c.requires _ _ c.loop-pair.invariant c.in-None.is c.next.ensures.steps
