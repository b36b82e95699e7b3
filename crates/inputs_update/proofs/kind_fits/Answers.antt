-- `inputs_update::kind_fits` meets its contract. Assumes nothing.
use Rattle.rules_calls.proofs.UpdateParts.{kind_manual}
use Rattle.inputs_update.proofs.kind_fits.Goals as goal

pub returns : goal.returns
returns c = kind_manual _ c.in-Ms.is c.manual_fits.ensures
