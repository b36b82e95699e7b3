-- `inputs_tick_input::inner::stays` meets its contract. Assumes nothing.
use mathlib.Core.Path.{refl}
use Rattle.base.proofs.Tests.{not_both}
use Rattle.inputs_tick_input.proofs.Resting.{stays_by}
use Rattle.inputs_tick_input.proofs.inner.stays.Goals as goal

pub returns-then-look-ne0 : goal.returns-then-look-ne0
returns-then-look-ne0 c = λ e. absurd (not_both e refl)

pub returns-then-slot : goal.returns-then-slot
returns-then-slot c = λ e. absurd (not_both e refl)

pub returns : goal.returns
returns c = λ e. stays_by _ _ c.if-look-ne0.false c.if-slot.false (c.rests.ensures e)
