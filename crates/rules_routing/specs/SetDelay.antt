-- `set_delay` over the whole record. Assumes nothing.
use Rattle.std.specs.Prelude.{ℕ}
use Rattle.rules_record.specs.declared.Inputs.{Inputs}
use Rattle.rules_record.specs.Slots.{with_delay}
use Rattle.rules_record.specs.Inputs.{slot_at, put_slot}
use Rattle.rules_record.specs.Commands.{Done, set_delay, quiet, send_first}
use Rattle.rules_record.specs.Flows.{remembered_for}

-- "`set_delay` stores, remembers the delay for the flow if routed and automatic (marking the table unsaved if it differs), sends SetDelay."
unfoldable pub delay_stored : (s : Inputs) (i delay time : ℕ) → Inputs
delay_stored s i delay time = remembered_for (put_slot s i (with_delay (slot_at s i) delay time)) (slot_at s i) delay

unfoldable pub set_delay_of : (s : Inputs) (i delay time : ℕ) → Done
set_delay_of s i delay time = send_first (set_delay i delay) (quiet (delay_stored s i delay time))
