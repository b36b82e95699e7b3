-- `inputs_tick_input::inner::look_at` meets its contract. Assumes nothing.
use Rattle.inputs_tick_input.proofs.Moving.{watches}
use Rattle.inputs_commands.proofs.Steps.{does_by, does_quiet}
use Rattle.rules_tick.proofs.Looking.{looked_opens, looked_rests, looked_watches}
use Rattle.rules_record.specs.States.{state_number}
use native.Mathlib.Omega.{arith}
use mathlib.Core.Path.{refl, ap}
use Rattle.inputs_tick_input.proofs.inner.look_at.Goals as goal

pub returns-in-Unrouted : goal.returns-in-Unrouted
returns-in-Unrouted c = let unrouted = ap state_number c.in-Unrouted.is in does_by (looked_rests _ _ _ _ c.slot_at-slot.ensures refl (λ waits. omega (arith, unrouted, waits)) (omega (arith, unrouted))) (does_quiet refl)

pub returns-in-Waiting : goal.returns-in-Waiting
returns-in-Waiting c = does_by (looked_opens _ _ _ _ c.slot_at-slot.ensures refl (ap state_number c.in-Waiting.is)) c.try_open.ensures

pub returns-in-Running : goal.returns-in-Running
returns-in-Running c = let high = watches c.slot_at-slot.result.state c.in-Running.is in does_by (looked_watches _ _ _ _ c.slot_at-slot.ensures refl (λ waits. omega (arith, high, waits)) high) c.watch.ensures
