-- `inputs_set_delay::inner::set_delay` meets its contract. Assumes nothing.
use native.Mathlib.Omega.{arith}
use Rattle.inputs_commands.specs.declared.Command.TheVariants.{SetDelay}
use Rattle.inputs_commands.proofs.Steps.{does_sent}
use Rattle.rules_routing.proofs.SetDelayStored.{stored_by}
use Rattle.rules_routing.specs.SetDelay.{set_delay_of}
use Rattle.inputs_set_delay.proofs.inner.set_delay.Goals as goal

pub returns : goal.returns
unfolding set_delay_of
returns c = does_sent (SetDelay _ _) (omega arith) (stored_by _ _ _ _ c.slot_at-slot.ensures c.put_slot-stored.ensures c.remember_for.ensures) c.send.ensures
