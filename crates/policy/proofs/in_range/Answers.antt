-- `policy::in_range` meets its contract. Assumes nothing.
use mathlib.Core.Path.{refl, ◌∙◌}
use lib.Ieee.{of_bits}
use Rattle.base.proofs.All.{both_yes, both_no}
use Rattle.policy.proofs.in_range.Goals as goal

pub returns-then-x : goal.returns-then-x
unfolding of_bits
returns-then-x c = both_yes _ _ _ c.if-x.true refl

pub returns-else-x : goal.returns-else-x
unfolding of_bits
returns-else-x c = c.if-x.false ∙ both_no _ _ c.if-x.false
