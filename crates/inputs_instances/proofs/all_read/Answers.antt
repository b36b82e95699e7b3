-- `inputs_instances::all_read` meets its contract. Assumes nothing.
use Rattle.std.proofs.Common.{rules, None}
use mathlib.Core.Path.{ap, ◌∙◌}
use Rattle.rules_record.specs.declared.Slot.{Slot}
use Rattle.rules_record.specs.Slots.{empty_slot}
use Rattle.rules_record.specs.Prune.{uses_key}
use Rattle.rules_record.proofs.SlotFrame.{slot_in}
use Rattle.inputs_instances.proofs.all_read.Goals as goal

pub returns : goal.returns
returns c i key l =
    let told = c.map.ensures.items.at i empty_slot None l in
    search (rules, told.2) ∙ ap (λ (x : Slot). uses_key x key) (slot_in c.args.inputs i l)
