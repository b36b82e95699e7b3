-- Document 01, "Supervision": what `confirm_delay` does to an input. Assumes nothing.
use Rattle.std.specs.Prelude.{ℕ, ◌+◌, None, Option, Some}
use Rattle.rules_record.specs.declared.Slot.{Slot}
use Rattle.rules_record.specs.declared.Inputs.{Inputs}
use Rattle.rules_record.specs.Slots.{with_proposed, with_delay_changes}
use Rattle.rules_record.specs.Inputs.{slot_at}
use Rattle.rules_record.specs.Lent.{Lists}
use Rattle.rules_record.specs.Effects.{Effect, silent, beside}
use Rattle.rules_calls.specs.Update.{delay_set}

-- "the proposal is taken, delay changes + 1"
abbrev pub taken : Slot → Slot
taken slot = with_delay_changes (with_proposed slot None) (slot.delay_changes + 1)

-- "`confirm_delay`: the proposal is taken, delay changes + 1, `set_delay`."; without a proposal it is refused
abbrev pub confirmed_by : Option ℕ → (i time : ℕ) (s : Inputs) (l : Lists) → Effect
confirmed_by None i time s l = silent s l
confirmed_by (Some delay) i time s l = beside l (delay_set i (taken (slot_at s i)) delay time s)

unfoldable pub confirmed : (i time : ℕ) (s : Inputs) (l : Lists) → Effect
confirmed i time s l = confirmed_by (slot_at s i).proposed i time s l
