-- `delay_hold::DelayHold::decided_for` meets its contract. Assumes nothing.
use borrow.Author.Tests.{leb-true}
use Rattle.delay_hold.proofs.DelayHold.decided_for.Goals as goal

pub returns-in_default : goal.returns-in_default
returns-in_default c = rw c.in_default.is

pub decided_at-requires : goal.decided_at-requires
decided_at-requires c =
    (leb-true _ _ (rw c.in-Some.is at c.requires.0), c.requires.1)

pub returns : goal.returns
returns c = simp (c.in-Some.is, c.decided_at.ensures)
