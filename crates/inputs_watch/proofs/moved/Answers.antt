-- `inputs_watch::moved` meets its contract. Assumes nothing.
use Rattle.rules_record.proofs.Derived.{state_same, state_other}
use Rattle.rules_record.specs.declared.State.TheVariants.{Stalled}
use mathlib.Core.Path.{refl}
use Rattle.rules_routing.proofs.WatchCases.{moved_stalled, moved_other}
use Rattle.inputs_watch.proofs.moved.Goals as goal

pub returns-then-eq : goal.returns-then-eq
returns-then-eq c = moved_stalled _ _ _ refl (state_same c.args.slot.state Stalled c.eq.ensures c.if-eq.true)

pub returns : goal.returns
returns c = moved_other _ _ _ refl (state_other c.args.slot.state Stalled c.eq.ensures c.if-eq.false)
