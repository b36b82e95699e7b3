-- `inputs_new::loading::load_one` meets its contract. Assumes nothing.
use Rattle.rules_calls.proofs.NewLoops.{loaded_by}
use Rattle.inputs_new.proofs.loading.load_one.Goals as goal

pub returns : goal.returns
returns c = loaded_by _ _ _ c.enrol-all.ensures c.find-place.ensures c.keep.ensures
