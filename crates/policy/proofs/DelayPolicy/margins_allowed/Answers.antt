-- `policy::DelayPolicy::margins_allowed` meets its contract. Assumes nothing.
use borrow.Author.Tests.{le-leb, lt-leb}
use mathlib.Core.Path.{◌∙◌}
use lib.Ieee.{of_bits}
use Rattle.base.proofs.All.{both_yes, both_no}
use Rattle.policy.specs.Settings.{margins_allowed}
use Rattle.policy.proofs.DelayPolicy.margins_allowed.Goals as goal

pub returns-then-self-le-SAMPLES_LIMIT : goal.returns-then-self-le-SAMPLES_LIMIT
unfolding margins_allowed of_bits
returns-then-self-le-SAMPLES_LIMIT c = both_yes _ _ _ (le-leb _ _ c.if-self-le-SAMPLES_LIMIT.true) c.in_range.ensures

pub returns-else-self-le-SAMPLES_LIMIT : goal.returns-else-self-le-SAMPLES_LIMIT
unfolding margins_allowed
returns-else-self-le-SAMPLES_LIMIT c = lt-leb _ _ c.if-self-le-SAMPLES_LIMIT.false ∙ both_no _ _ (lt-leb _ _ c.if-self-le-SAMPLES_LIMIT.false)
