-- `inputs_try_open::inner::start` meets its contract. Assumes nothing.
use Rattle.inputs_commands.proofs.Steps.{does_by, does_changed}
use Rattle.rules_routing.specs.TryOpen.{start_at}
use Rattle.rules_routing.proofs.TryOpenCases.{start_by_law}
use Rattle.inputs_try_open.proofs.inner.start.Goals as goal

pub returns : goal.returns
unfolding start_at
returns c = does_by (start_by_law _ _ _ _ c.min-delay.ensures) (does_changed _ c.set_delay-set.ensures c.seed.ensures)
