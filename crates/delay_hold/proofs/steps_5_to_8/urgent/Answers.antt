-- `delay_hold::steps_5_to_8::urgent` meets its contract. Assumes nothing.
use Rattle.policy.proofs.Laws.{need_at_most}
use native.Mathlib.Omega.{arith}
use Rattle.delay_hold.proofs.steps_5_to_8.urgent.Goals as goal

pub overflow_add-need : goal.overflow_add-need
overflow_add-need c =
    omega (arith, c.need.ensures, need_at_most c.args.terms.policy c.args.worst, c.args.terms.sound.offset, c.args.terms.sound.maximum)

pub returns : goal.returns
returns c =
    simp (c.if-late.false, c.saturating_sub-half.ensures, c.need.ensures)
