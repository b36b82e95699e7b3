-- `inputs_new::margin_fits` meets its contract. Assumes nothing.
use mathlib.Core.Path.{refl}
use lib.Ieee.{of_bits}
use borrow.Author.Tests.{le-leb}
use Rattle.base.proofs.All.{both_yes}
use Rattle.policy.specs.Settings.{percent_allowed}
use Rattle.rules_calls.specs.NewChecks.{margin_fits}
use Rattle.inputs_new.proofs.margin_fits.Goals as goal

pub returns-then-settings : goal.returns-then-settings
unfolding margin_fits percent_allowed of_bits
returns-then-settings c = both_yes _ _ _ (le-leb _ _ c.if-settings-le-SAMPLES_LIMIT.true) (both_yes _ _ _ c.if-settings.true refl)
