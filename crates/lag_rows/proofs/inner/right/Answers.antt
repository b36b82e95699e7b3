-- `lag_rows::inner::right` meets its contract. Assumes nothing.
use Rattle.std.proofs.Common.{◌∙◌}
use Rattle.rules_window.proofs.Checking.{counted_fails, zeros_tell}
use Rattle.lag_rows.proofs.inner.right.Goals as goal

pub returns-then-blank-2 : goal.returns-then-blank-2
returns-then-blank-2 c = zeros_tell _ _ _ _ c.requires.0 c.requires.2 _ c.blank.ensures c.if-blank.true _ c.blank-then-blank.ensures c.if-blank-2.true c.requires.3 _ c.blank-then-blank-2.ensures

pub returns-else-blank-2 : goal.returns-else-blank-2
returns-else-blank-2 c = c.if-blank-2.false ∙ counted_fails _ _ _ _ c.requires.0 c.requires.2 _ c.blank.ensures c.if-blank.true _ c.blank-then-blank.ensures c.if-blank-2.false
