-- `inputs_route::steps::started_over` meets its contract. Assumes nothing.
use Rattle.rules_calls.proofs.RouteCases.{over_yes, over_no}
use Rattle.inputs_route.proofs.steps.started_over.Goals as goal

pub returns-then-starts_over : goal.returns-then-starts_over
returns-then-starts_over c = over_yes _ _ _ c.starts_over.ensures c.if-starts_over.true

pub returns : goal.returns
returns c = over_no _ _ _ c.starts_over.ensures c.if-starts_over.false
