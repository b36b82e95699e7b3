-- `inputs_update::manual_fits` meets its contract. Assumes nothing.
use mathlib.Core.Path.{ap, ◌∙◌}
use lib.Ieee.{of_bits, le}
use Rattle.base.proofs.All.{both_yes, both_no}
use Rattle.rules_calls.specs.UpdateChecks.{manual_fits}
use Rattle.inputs_update.proofs.manual_fits.Goals as goal

pub returns-then-delay : goal.returns-then-delay
unfolding manual_fits of_bits
returns-then-delay c = both_yes _ _ _ c.if-delay.true (ap (le _) c.ms.ensures)

pub returns-else-delay : goal.returns-else-delay
unfolding manual_fits of_bits
returns-else-delay c = c.if-delay.false ∙ both_no _ _ c.if-delay.false
