-- `delay_hold::DelayHold::noted` meets its contract. Assumes nothing.
use Rattle.delay_hold.specs.Steps1To3.{noted}
use Rattle.delay_hold.proofs.DelayHold.noted.Goals as goal

pub returns : goal.returns
unfolding noted
returns c =
    simp (c.started_at.ensures, c.seed_left-seeded.ensures, c.lates_next-n.ensures, c.lates_seeded.ensures)
