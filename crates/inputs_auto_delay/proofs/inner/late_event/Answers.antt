-- `inputs_auto_delay::inner::late_event` meets its contract. Assumes nothing.
use Rattle.rules_tick.proofs.LateCases.{late_by}
use Rattle.inputs_auto_delay.proofs.inner.late_event.Goals as goal

pub returns : goal.returns
returns c = late_by _ _ _ _ c.late_now-late.ensures c.late_events.ensures
