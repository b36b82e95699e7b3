-- `delay_hold::DelayHold::decided` meets its contract. Assumes nothing.
use Rattle.delay_hold.proofs.Bounds.{larger_up}
use Rattle.delay_hold.specs.Steps5To8.{decide}
use Rattle.delay_hold.specs.Whole.{peak_limit}
use Rattle.delay_hold.proofs.DelayHold.decided.Goals as goal

pub returns-then-unknown : goal.returns-then-unknown
unfolding decide
returns-then-unknown c = simp (← c.unknown.ensures, c.if-unknown.true)

pub decided_for-requires : goal.decided_for-requires
decided_for-requires c =
    (rw c.larger_lag.ensures (larger_up c.args.p999 c.args.peak peak_limit c.requires.0 c.requires.1), c.requires.2)

pub returns : goal.returns
unfolding decide
returns c = simp (c.decided_for.ensures, c.larger_lag.ensures, ← c.unknown.ensures, c.if-unknown.false)
