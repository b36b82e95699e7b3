-- Document 02, §4: settled, of one input. Assumes nothing.
use Rattle.std.specs.Prelude.{ℕ, Bool}
use Rattle.base.specs.Choice.{both}
use Rattle.delay_hold.specs.Steps5To8.{held_since}
use Rattle.rules_record.specs.declared.Slot.{Slot}
use Rattle.rules_record.specs.declared.Inputs.{Inputs}
use Rattle.rules_record.specs.States.{is_running}
use Rattle.rules_record.specs.Inputs.{slot_at}
use Rattle.rules_record.specs.Lent.{Lists}
use Rattle.rules_calls.specs.StatusChecks.{settled_number}
use Rattle.rules_calls.specs.HasChannels.{Answer, answer_by}

-- "Settled is now yes exactly if Running and neither a SetDelay nor a SetInput went to the input within the last hold (the last of each is at least hold old, or none ever went).
-- This replaces the sentence marked Added in document 01."
unfoldable pub settled_slot : (slot : Slot) (hold time : ℕ) → Bool
settled_slot slot hold time = both (is_running slot.state) (both (held_since slot.last_set hold time) (held_since slot.last_input hold time))

unfoldable pub settled_reply : (s : Inputs) (l : Lists) (input time : ℕ) → Answer
settled_reply s l input time = answer_by (settled_number s l input time) (settled_slot (slot_at s input) s.policy.hold time)
