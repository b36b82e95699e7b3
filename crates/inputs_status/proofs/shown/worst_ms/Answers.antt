-- `inputs_status::shown::worst_ms` meets its contract. Assumes nothing.
use mathlib.Core.Path.{sym, ap, ◌∙◌}
use Rattle.base.proofs.All.{told_no, told_yes}
use Rattle.base.proofs.Choices.{yes_pick, no_pick}
use Rattle.rules_calls.specs.Status.{lag_in_ms, worst_ms}
use Rattle.inputs_status.proofs.shown.worst_ms.Goals as goal

pub returns-then-not-automatic : goal.returns-then-not-automatic
unfolding worst_ms
returns-then-not-automatic c = sym (no_pick _ _ (told_no _ _ c.automatic.ensures c.if-not-automatic.true))

pub returns : goal.returns
unfolding worst_ms
returns c = c.in_ms.ensures.lag ∙ ap lag_in_ms c.worst.ensures ∙ sym (yes_pick _ _ (told_yes _ _ c.automatic.ensures c.if-not-automatic.false))
