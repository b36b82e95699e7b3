-- `inputs_new::loading::flow_of` meets its contract. Assumes nothing.
use Rattle.rules_calls.specs.NewLoading.{loaded_flow}
use Rattle.inputs_new.proofs.loading.flow_of.Goals as goal

pub returns : goal.returns
unfolding loaded_flow
returns c = c.flow_from.ensures
