-- `inputs_auto_delay::steps::answer` meets its contract. Assumes nothing.
use mathlib.Core.Path.{sym, ap, ◌∙◌}
use Rattle.rules_routing.specs.SetDelay.{set_delay_of}
use Rattle.rules_record.specs.declared.Inputs.{Inputs}
use Rattle.inputs_commands.proofs.Steps.{does_by, does_quiet}
use Rattle.rules_tick.proofs.AutoDelayCases.{answered_keep, answered_proposal, answered_change}
use Rattle.inputs_auto_delay.proofs.steps.answer.Goals as goal

pub returns-in_default : goal.returns-in_default
returns-in_default c = does_by (answered_keep _ _ _ _ c.in_default.is) (does_quiet c.put_slot.ensures)

pub returns-then-inputs : goal.returns-then-inputs
returns-then-inputs c = does_by (answered_proposal _ _ _ _ _ c.in-Some.is c.if-inputs.true) (does_quiet c.put_slot-then-inputs.ensures)

pub returns : goal.returns
returns c = does_by (answered_change c.args.i c.args.time c.args.slot c.args.inputs _ c.in-Some.is c.if-inputs.false ∙ ap (λ (z : Inputs). set_delay_of z c.args.i c.in-Some.delay c.args.time) (sym c.put_slot-all.ensures)) c.set_delay.ensures
