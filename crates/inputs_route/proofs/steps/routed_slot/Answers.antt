-- `inputs_route::steps::routed_slot` meets its contract. Assumes nothing.
use Rattle.rules_calls.proofs.RouteCases.{routed_by}
use Rattle.inputs_route.proofs.steps.routed_slot.Goals as goal

pub returns : goal.returns
returns c = routed_by _ _ _ c.started_over-over.ensures c.state_for.ensures
