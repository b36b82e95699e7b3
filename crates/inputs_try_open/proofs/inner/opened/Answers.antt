-- `inputs_try_open::inner::opened` meets its contract. Assumes nothing.
use Rattle.rules_record.proofs.Derived.{state_same, state_other}
use Rattle.rules_record.specs.declared.State.TheVariants.{Waiting}
use mathlib.Core.Path.{refl}
use Rattle.rules_routing.proofs.TryOpenCases.{opened_waiting, opened_again}
use Rattle.inputs_try_open.proofs.inner.opened.Goals as goal

pub returns-then-eq : goal.returns-then-eq
returns-then-eq c = opened_waiting _ _ _ _ refl c.running-runs.ensures (state_same c.args.slot.state Waiting c.eq.ensures c.if-eq.true)

pub returns : goal.returns
returns c = opened_again _ _ _ _ refl c.running-runs.ensures (state_other c.args.slot.state Waiting c.eq.ensures c.if-eq.false)
