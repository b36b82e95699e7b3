-- `delay_hold::DelayHold::decided_at` meets its contract. Assumes nothing.
use Rattle.delay_hold.specs.Steps5To8.{decide_at}
use Rattle.policy.proofs.Laws.{need_at_most}
use native.Mathlib.Omega.{arith}
use Rattle.delay_hold.proofs.DelayHold.decided_at.Goals as goal

pub weighed-requires : goal.weighed-requires
weighed-requires c =
    omega (arith, c.max-high.ensures, c.floor_of.ensures, c.need.ensures, need_at_most c.args.terms.policy c.args.worst, c.args.terms.sound.maximum, c.requires.1)

pub returns : goal.returns
unfolding decide_at
returns c =
    simp (c.weighed.ensures, c.max-high.ensures, c.floor_of.ensures, c.need.ensures, c.urgent.ensures)
