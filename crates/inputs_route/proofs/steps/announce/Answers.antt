-- `inputs_route::steps::announce` meets its contract. Assumes nothing.
use mathlib.Core.Path.{sym, ◌∙◌}
use Rattle.base.proofs.Choices.{yes_pick, no_pick}
use Rattle.inputs_commands.specs.declared.Command.TheVariants.{SetDelay}
use Rattle.inputs_commands.proofs.Steps.{appends_none, appends_sent, appends_after}
use Rattle.rules_calls.specs.Route.{zeroing}
use Rattle.inputs_route.proofs.steps.announce.Goals as goal

pub returns-then-starts_over : goal.returns-then-starts_over
unfolding zeroing
returns-then-starts_over c = rw (yes_pick _ _ (sym c.starts_over.ensures ∙ c.if-starts_over.true)) (appends_after c.forget.ensures (appends_sent (SetDelay _ _) c.send.ensures))

pub returns-else-starts_over : goal.returns-else-starts_over
unfolding zeroing
returns-else-starts_over c = rw (no_pick _ _ (sym c.starts_over.ensures ∙ c.if-starts_over.false)) (appends_after {most = 3} c.forget.ensures appends_none)
