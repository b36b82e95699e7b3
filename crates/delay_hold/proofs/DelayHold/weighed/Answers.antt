-- `delay_hold::DelayHold::weighed` meets its contract. Assumes nothing.
use Rattle.delay_hold.specs.Steps5To8.{weighed}
use borrow.Author.Tests.{lt-ltb, le-ltb}
use Rattle.delay_hold.proofs.DelayHold.weighed.Goals as goal

pub returns-then-raised : goal.returns-then-raised
unfolding weighed
returns-then-raised c = simp (c.changed.ensures, ← c.raised.ensures, c.if-raised.true)

pub returns-then-terms-need : goal.returns-then-terms-need
unfolding weighed
returns-then-terms-need c = simp (c.idle.ensures, ← c.raised.ensures, c.if-raised.false, lt-ltb _ _ c.if-terms-need.true)

pub returns : goal.returns
unfolding weighed
returns c = simp (c.lowered.ensures, ← c.raised.ensures, c.if-raised.false, le-ltb _ _ c.if-terms-need.false)
