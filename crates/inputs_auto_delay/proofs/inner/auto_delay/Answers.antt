-- `inputs_auto_delay::inner::auto_delay` meets its contract. Assumes nothing.
use Rattle.rules_record.proofs.Derived.{state_same, state_other, state_not_same, state_not_other}
use Rattle.rules_record.specs.declared.State.TheVariants.{Running, Stalled}
use mathlib.Core.Path.{refl}
use Rattle.inputs_commands.proofs.Steps.{affects_by, affects_silent, affects_done}
use Rattle.rules_tick.proofs.AutoDelayCases.{stalled_by, idle_by, manual_by, decides_by}
use Rattle.inputs_auto_delay.proofs.inner.auto_delay.Goals as goal

pub returns-then-eq : goal.returns-then-eq
returns-then-eq c = λ totals counts own. affects_by (stalled_by _ _ _ _ _ c.slot_at-slot.ensures refl (state_same c.slot_at-slot.result.state Stalled c.eq.ensures c.if-eq.true) c.interrupted.ensures) (affects_silent refl refl)

pub returns-then-ne : goal.returns-then-ne
returns-then-ne c = λ totals counts own. affects_by (idle_by _ _ _ _ _ c.slot_at-slot.ensures refl (state_other c.slot_at-slot.result.state Stalled c.eq.ensures c.if-eq.false) (state_not_same c.slot_at-slot.result.state Running c.ne.ensures c.if-ne.true)) (affects_silent refl refl)

pub returns-then-not-automatic : goal.returns-then-not-automatic
returns-then-not-automatic c = λ totals counts own. affects_by (manual_by _ _ _ _ _ c.slot_at-slot.ensures refl (state_other c.slot_at-slot.result.state Stalled c.eq.ensures c.if-eq.false) (state_not_other c.slot_at-slot.result.state Running c.ne.ensures c.if-ne.false) c.automatic.ensures (c.if-not-automatic.true)) (affects_silent refl refl)

pub returns : goal.returns
returns c = λ totals counts own. affects_by (decides_by _ _ _ _ _ c.slot_at-slot.ensures refl (state_other c.slot_at-slot.result.state Stalled c.eq.ensures c.if-eq.false) (state_not_other c.slot_at-slot.result.state Running c.ne.ensures c.if-ne.false) c.automatic.ensures (c.if-not-automatic.false) (c.next_for-next.ensures totals counts own)) (affects_done c.answer.ensures refl)
