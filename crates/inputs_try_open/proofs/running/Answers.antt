-- `inputs_try_open::running` meets its contract. Assumes nothing.
use Rattle.rules_record.proofs.Derived.{state_same, state_other}
use Rattle.rules_record.specs.declared.State.TheVariants.{Stalled}
use mathlib.Core.Path.{refl}
use Rattle.rules_routing.proofs.TryOpenCases.{running_stalled, running_now}
use Rattle.inputs_try_open.proofs.running.Goals as goal

pub returns-then-eq : goal.returns-then-eq
returns-then-eq c = running_stalled _ _ _ _ refl (state_same c.args.slot.state Stalled c.eq.ensures c.if-eq.true)

pub returns : goal.returns
returns c = running_now _ _ _ _ refl (state_other c.args.slot.state Stalled c.eq.ensures c.if-eq.false)
