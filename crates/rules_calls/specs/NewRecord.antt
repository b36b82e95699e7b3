-- A record with its settings, before any input has a kind and any delay is loaded; and no record at all. Assumes nothing.
use Rattle.std.specs.Prelude.{Bool, false, ℕ, pos, replicate}
use Rattle.std.specs.Float.{fin}
use Rattle.policy.specs.declared.DelayPolicy.{DelayPolicy}
use Rattle.policy.specs.Settings.{share_of_percent}
use Rattle.rules_record.specs.declared.Inputs.{Inputs}
use Rattle.rules_record.specs.Slots.{empty_slot}
use Rattle.rules_record.specs.Flows.{empty_entry}
use Rattle.rules_record.specs.Instances.{no_key}
use Rattle.rules_calls.specs.declared.Settings.{Settings}

-- "`DelayPolicy` holds its margin share as a double, percent / 100."
unfoldable pub policy_of : Settings → DelayPolicy
policy_of settings = record {
  read_offset = settings.read_offset;
  delay_max = settings.delay_max;
  hold = settings.hold;
  window = settings.window;
  margin = settings.margin;
  margin_share = share_of_percent settings.percent;
}

-- every place of the three tables is unused
unfoldable pub blank : (count : ℕ) (policy : DelayPolicy) (width stall : ℕ) (confirm : Bool) → Inputs
blank count policy width stall confirm = record {
  count = count;
  policy = policy;
  width = width;
  stall = stall;
  confirm = confirm;
  slots = replicate 16 empty_slot;
  flows = replicate 64 empty_entry;
  flow_count = 0;
  unsaved = false;
  instances = replicate 18 no_key;
  instance_count = 0;
}

unfoldable pub blank_for : Settings → Inputs
blank_for settings = blank settings.count (policy_of settings) settings.width settings.stall settings.confirm

-- the zero value of a refusal
unfoldable pub no_policy : DelayPolicy
no_policy = record { read_offset = 0; delay_max = 0; hold = 0; window = 0; margin = 0; margin_share = fin false 0 (pos 0) }

unfoldable pub no_inputs : Inputs
no_inputs = blank 0 no_policy 0 0 false
