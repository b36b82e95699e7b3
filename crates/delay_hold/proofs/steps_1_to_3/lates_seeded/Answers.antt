-- `delay_hold::steps_1_to_3::lates_seeded` meets its contract. Assumes nothing.
use Rattle.policy.proofs.Laws.{need_at_most}
use native.Mathlib.Omega.{arith}
use borrow.Author.Tests.{le-leb, lt-leb}
use Rattle.delay_hold.proofs.steps_1_to_3.lates_seeded.Goals as goal

pub overflow_add-need : goal.overflow_add-need
overflow_add-need c =
    omega (arith, c.need.ensures, need_at_most c.args.terms.policy c.in-Some.l, c.args.terms.sound.maximum, c.args.terms.millisecond_most)

pub returns-then-last-need : goal.returns-then-last-need
returns-then-last-need c =
    simp (c.in-Some.is, c.in-Some-seed.is, ← c.need.ensures, le-leb _ _ c.if-last-need.true)

pub returns : goal.returns
returns c =
    simp (c.in-Some.is, c.in-Some-seed.is, ← c.need.ensures, lt-leb _ _ c.if-last-need.false)
