-- `policy::share_of` meets its contract. Assumes nothing.
use mathlib.Core.Path.{refl}
use lib.Ieee.{of_bits}
use Rattle.base.proofs.All.{told_yes, told_no}
use Rattle.policy.specs.Settings.{percent_allowed, share_of_percent}
use Rattle.policy.proofs.Checks.{percent_refused, percent_shared}
use Rattle.policy.proofs.share_of.Goals as goal

pub returns-then-in_range : goal.returns-then-in_range
unfolding percent_allowed share_of_percent of_bits
returns-then-in_range c = percent_shared _ (told_yes _ _ c.in_range.ensures c.if-in_range.true) refl

pub returns : goal.returns
unfolding percent_allowed of_bits
returns c = percent_refused _ (told_no _ _ c.in_range.ensures c.if-in_range.false)
