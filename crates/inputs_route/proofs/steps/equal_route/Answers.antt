-- `inputs_route::steps::equal_route` meets its contract. Assumes nothing.
use mathlib.Core.Path.{sym, ◌∙◌}
use Rattle.inputs_route.proofs.Routes.{equal_some, equal_none}
use Rattle.inputs_route.proofs.steps.equal_route.Goals as goal

pub returns-then-is_some : goal.returns-then-is_some
returns-then-is_some c = c.eq.ensures ∙ equal_some _ _ (sym c.is_some.ensures ∙ c.if-is_some.true)

pub returns-else-is_some : goal.returns-else-is_some
returns-else-is_some c = c.if-is_some.false ∙ equal_none _ _ (sym c.is_some.ensures ∙ c.if-is_some.false)
