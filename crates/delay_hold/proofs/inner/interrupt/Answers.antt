-- `delay_hold::inner::interrupt` meets its contract. Assumes nothing.
use Rattle.delay_hold.proofs.inner.interrupt.Goals as goal

pub returns : goal.returns
returns c = c.with_lower.ensures
