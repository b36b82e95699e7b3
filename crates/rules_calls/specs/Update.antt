-- Document 01, "Supervision", and document 02, §6: what `update` does to an input. Assumes nothing.
use Rattle.std.specs.Prelude.{ℕ, None}
use Rattle.doubles.specs.Doubles.{samples_of}
use Rattle.rules_record.specs.declared.ExtraDelay.{ExtraDelay}
use Rattle.rules_record.specs.declared.ExtraDelay.TheVariants.{Auto, Ms}
use Rattle.rules_record.specs.declared.Slot.{Slot}
use Rattle.rules_record.specs.declared.Inputs.{Inputs}
use Rattle.rules_record.specs.Slots.{with_config, with_proposed}
use Rattle.rules_record.specs.Inputs.{slot_at, put_slot}
use Rattle.rules_record.specs.Commands.{Done}
use Rattle.rules_routing.specs.SetDelay.{set_delay_of}
use Rattle.rules_record.specs.Lent.{Lists}
use Rattle.rules_record.specs.Effects.{Effect, beside}
use Rattle.rules_routing.specs.Clear.{cleared}
use Rattle.rules_calls.specs.declared.DelaySetting.{DelaySetting}
use Rattle.rules_calls.specs.declared.DelaySetting.TheVariants.{Auto as set-auto, Ms as set-ms, Desk}

-- "Each `update` with Ms says which of the two sends it; record and status do not keep this": the kind that is stored
abbrev pub kind_of : DelaySetting → ExtraDelay
kind_of (set-auto tag) = Auto tag
kind_of (set-ms delay) = Ms delay
kind_of (Desk delay) = Ms delay

-- "the kind is stored, the proposal goes"
abbrev pub kind_stored : (slot : Slot) (kind : ExtraDelay) → Slot
kind_stored slot kind = with_proposed (with_config slot (record { extra_delay = kind })) None

-- input i has this slot, and then `set_delay`
unfoldable pub delay_set : (i : ℕ) (slot : Slot) (delay time : ℕ) (s : Inputs) → Done
delay_set i slot delay time s = set_delay_of (put_slot s i slot) i delay time

-- "`update` with Ms: the kind is stored, the proposal goes, `set_delay` of `samples`. With Auto: the kind is stored, the proposal goes,
-- window and hold are cleared, the delay stays."
unfoldable pub updated : (i : ℕ) → ExtraDelay → (time : ℕ) (s : Inputs) (l : Lists) → Effect
updated i (Ms delay) time s l = beside l (delay_set i (kind_stored (slot_at s i) (Ms delay)) (samples_of delay) time s)
updated i (Auto tag) time s l = cleared i (kind_stored (slot_at s i) (Auto tag)) s l
