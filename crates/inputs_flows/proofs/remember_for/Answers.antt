-- `inputs_flows::remember_for` meets its contract. Assumes nothing.
use mathlib.Core.Path.{sym, ◌∙◌}
use Rattle.rules_record.proofs.FlowCases.{for_nowhere, for_automatic, for_manual}
use Rattle.inputs_flows.proofs.remember_for.Goals as goal

pub returns-in_default : goal.returns-in_default
returns-in_default c = sym (for_nowhere _ _ _ c.in_default.is)

pub returns-then-automatic : goal.returns-then-automatic
returns-then-automatic c = c.remember.ensures ∙ sym (for_automatic _ _ _ c.in-Some.is (sym c.automatic.ensures ∙ c.if-automatic.true))

pub returns : goal.returns
returns c = sym (for_manual _ _ _ (sym c.automatic.ensures ∙ c.if-automatic.false))
