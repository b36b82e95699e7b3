-- `inputs_route::steps::open_for` meets its contract. Assumes nothing.
use mathlib.Core.Path.{refl, sym, ◌∙◌}
use Rattle.inputs_commands.proofs.Steps.{does_by, does_quiet}
use Rattle.inputs_route.proofs.Routes.{opens_not}
use Rattle.inputs_route.proofs.steps.open_for.Goals as goal

pub returns : goal.returns
returns c = does_by (opens_not _ _ _ _ _ (sym c.is_some.ensures ∙ c.if-is_some.false)) (does_quiet refl)
