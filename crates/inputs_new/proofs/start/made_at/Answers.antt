-- `inputs_new::start::made_at` meets its contract. Assumes nothing.
use Rattle.rules_calls.proofs.NewLoops.{made_by}
use Rattle.inputs_new.proofs.start.made_at.Goals as goal

pub returns : goal.returns
returns c = made_by _ _ _ _ c.slot_at-slot.ensures c.put_slot.ensures
