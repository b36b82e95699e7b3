-- `base::blank` meets its contract. Assumes nothing.
use Rattle.std.proofs.Common.{◌∙◌}
use Rattle.base.proofs.Quarters.{from_min}
use Rattle.base.proofs.blank.Goals as goal

pub returns : goal.returns
returns g c = c.zeros.ensures ∙ from_min _ _ _ _ c.min.ensures
