-- Document 01, "Supervision", the start of an input's tick: "a late event when Running before `watch` ..". Assumes nothing.
use Rattle.std.specs.Prelude.{ℕ, ◌+◌, Bool, not, Option}
use Rattle.base.specs.Choice.{pick, both}
use Rattle.policy.specs.declared.DelayPolicy.{DelayPolicy}
use Rattle.delay_hold.specs.Steps1To3.{late_of}
use Rattle.rules_record.specs.declared.Slot.{Slot}
use Rattle.rules_record.specs.declared.Inputs.{Inputs}
use Rattle.rules_record.specs.Slots.{with_late}
use Rattle.rules_record.specs.States.{is_running}
use Rattle.rules_record.specs.Inputs.{slot_at, put_slot}

-- "when Running before `watch`, largest lag above offset + applied and at most offset + maximum": a lag that `next` would call late,
-- with the applied delay in the place of the current one
unfoldable pub late_now : (policy : DelayPolicy) (slot : Slot) (applied : ℕ) (largest : Option ℕ) → Bool
late_now policy slot applied largest = both (is_running slot.state) (late_of policy largest applied)

-- "a late event .., and not late before"
unfoldable pub late_events_of : (slot : Slot) (late : Bool) → ℕ
late_events_of slot late = pick (both late (not slot.late_before)) (slot.late_events + 1) slot.late_events

-- the same test is "late before" in the next tick
abbrev pub late_slot : (policy : DelayPolicy) (slot : Slot) (applied : ℕ) (largest : Option ℕ) → Slot
late_slot policy slot applied largest = with_late slot (late_events_of slot (late_now policy slot applied largest)) (late_now policy slot applied largest)

unfoldable pub late_event : (i applied : ℕ) (largest : Option ℕ) (s : Inputs) → Inputs
late_event i applied largest s = put_slot s i (late_slot s.policy (slot_at s i) applied largest)
