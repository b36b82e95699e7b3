-- `inputs_auto_delay::steps::late_events` meets its contract. Assumes nothing.
use Rattle.rules_tick.proofs.LateCases.{events_none, events_same, events_more}
use Rattle.inputs_auto_delay.proofs.steps.late_events.Goals as goal

pub returns-then-not-late : goal.returns-then-not-late
returns-then-not-late c = events_none _ _ (c.if-not-late.true)

pub returns-then-slot : goal.returns-then-slot
returns-then-slot c = events_same _ _ (c.if-not-late.false) c.if-slot.true

pub returns : goal.returns
returns c = events_more _ _ (c.if-not-late.false) c.if-slot.false
