-- Putting a slot keeps the lengths of the record's tables. Assumes nothing.
use Rattle.std.specs.Prelude.{ℕ}
use mathlib.Core.Path.{◌∙◌}
use Rattle.rules_record.specs.declared.Slot.{Slot}
use Rattle.rules_record.specs.declared.Inputs.{Inputs}
use Rattle.rules_record.specs.Inputs.{put_slot}
use Rattle.rules_record.specs.Sized.{Sized}
use Rattle.rules_record.proofs.SlotFrame.{put_length, put_flows, put_instances}

pub sized_put : (s : Inputs) (i : ℕ) (slot : Slot) → Sized s → Sized (put_slot s i slot)
sized_put s i slot h = record {
  slots = put_length s i slot ∙ h.slots;
  flows = rw (put_flows s i slot) h.flows;
  instances = rw (put_instances s i slot) h.instances;
}
