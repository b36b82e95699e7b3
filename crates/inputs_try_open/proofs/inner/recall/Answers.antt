-- `inputs_try_open::inner::recall` meets its contract. Assumes nothing.
use Rattle.inputs_commands.proofs.Steps.{does_by, does_quiet}
use mathlib.Core.Path.{refl, sym, ◌∙◌}
use Rattle.rules_routing.proofs.TryOpenCases.{recall_not, recall_none, recall_last}
use Rattle.inputs_try_open.proofs.inner.recall.Goals as goal

pub returns-then-not-starts : goal.returns-then-not-starts
returns-then-not-starts c = does_by (recall_not _ _ _ _ _ (sym c.starts.ensures ∙ c.if-not-starts.true)) (does_quiet refl)

pub returns-in_default : goal.returns-in_default
returns-in_default c = does_by (recall_none _ _ _ _ _ (sym c.starts.ensures ∙ c.if-not-starts.false) c.recall-remembered.ensures c.in_default.is) (does_quiet refl)

pub returns : goal.returns
returns c = does_by (recall_last _ _ _ _ _ (sym c.starts.ensures ∙ c.if-not-starts.false) c.recall-remembered.ensures c.in-Some.is) c.start.ensures
