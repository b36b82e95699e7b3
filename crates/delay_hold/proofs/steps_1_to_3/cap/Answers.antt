-- `delay_hold::steps_1_to_3::cap` meets its contract. Assumes nothing.
use Rattle.delay_hold.proofs.steps_1_to_3.cap.Goals as goal

pub returns-then-startup : goal.returns-then-startup
returns-then-startup c = simp (c.if-startup.true, c.min.ensures)
