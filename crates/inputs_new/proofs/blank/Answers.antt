-- `inputs_new::blank` meets its contract. Assumes nothing.
use Rattle.rules_record.specs.Flows.{empty_entry}
use Rattle.rules_record.specs.Instances.{no_key}
use Rattle.rules_calls.specs.NewRecord.{blank}
use Rattle.inputs_new.proofs.blank.Goals as goal

pub returns : goal.returns
unfolding blank empty_entry no_key
returns c = rw c.empty_slot-slot.ensures
