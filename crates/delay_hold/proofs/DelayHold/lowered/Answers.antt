-- `delay_hold::DelayHold::lowered` meets its contract. Assumes nothing.
use Rattle.delay_hold.specs.Steps5To8.{lowering}
use Rattle.delay_hold.proofs.DelayHold.lowered.Goals as goal

pub returns-then-due : goal.returns-then-due
unfolding lowering
returns-then-due c =
    simp (c.changed.ensures, ← c.timer_met-timer.ensures, ← c.due.ensures, c.if-due.true)

pub returns : goal.returns
unfolding lowering
returns c =
    simp (c.with_lower.ensures, ← c.timer_met-timer.ensures, ← c.due.ensures, c.if-due.false)
