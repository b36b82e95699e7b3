-- All inputs: the slot of one, and the record with that slot or its tables changed. Assumes nothing.
use Rattle.std.specs.Prelude.{ℕ, Bool, List, nat_lt, slice_index_or, slice_set}
use Rattle.base.specs.Choice.{pick}
use Rattle.rules_record.specs.declared.Slot.{Slot}
use Rattle.rules_record.specs.declared.FlowEntry.{FlowEntry}
use Rattle.rules_record.specs.declared.Instance.{Instance}
use Rattle.rules_record.specs.declared.Inputs.{Inputs}
use Rattle.rules_record.specs.Slots.{empty_slot}

-- the slot of input i; there are 16 places
unfoldable pub slot_at : (s : Inputs) (i : ℕ) → Slot
slot_at s i = pick (nat_lt i 16) (slice_index_or s.slots i empty_slot) empty_slot

abbrev pub with_slots : (s : Inputs) (slots : List Slot) → Inputs
with_slots s slots = record {
  count = s.count;
  policy = s.policy;
  width = s.width;
  stall = s.stall;
  confirm = s.confirm;
  slots = slots;
  flows = s.flows;
  flow_count = s.flow_count;
  unsaved = s.unsaved;
  instances = s.instances;
  instance_count = s.instance_count;
}

unfoldable pub put_slot : (s : Inputs) (i : ℕ) (slot : Slot) → Inputs
put_slot s i slot = pick (nat_lt i 16) (with_slots s (slice_set s.slots i slot)) s

abbrev pub with_flows : (s : Inputs) (flows : List FlowEntry) (count : ℕ) (unsaved : Bool) → Inputs
with_flows s flows count unsaved = record {
  count = s.count;
  policy = s.policy;
  width = s.width;
  stall = s.stall;
  confirm = s.confirm;
  slots = s.slots;
  flows = flows;
  flow_count = count;
  unsaved = unsaved;
  instances = s.instances;
  instance_count = s.instance_count;
}

abbrev pub with_instances : (s : Inputs) (instances : List Instance) (count : ℕ) → Inputs
with_instances s instances count = record {
  count = s.count;
  policy = s.policy;
  width = s.width;
  stall = s.stall;
  confirm = s.confirm;
  slots = s.slots;
  flows = s.flows;
  flow_count = s.flow_count;
  unsaved = s.unsaved;
  instances = instances;
  instance_count = count;
}
