-- An accepted call leaves each input the delay that its commands tell last; and so does an accepted `new`. Assumes nothing.
use Prim.Native.Nat.{ℕ, ◌<◌}
use mathlib.Core.Path.{◌≡◌}
use Rattle.rules_record.specs.Inputs.{slot_at}
use Rattle.rules_record.specs.Sized.{Sized}
use Rattle.rules_record.specs.Reply.{Reply}
use Rattle.sent_delays.specs.Last.{last_delay}
use Rattle.sent_delays.specs.Delays.{Told}
use Rattle.sent_delays.proofs.Calls.{accepted_told, route_told, update_told, tick_told, new_delays}
use Rattle.third_demand.specs.Calls.{Call, routes, updates, ticks, after, Accepted, Night, fresh}

-- accepted or refused
pub after_told : (r : Reply) (call : Call) → Sized r.inputs → Told r.inputs (after r call)
unfolding after
after_told r (routes input wanted time world) h = route_told r.inputs h r.lists r.commands input wanted time world
after_told r (updates input setting time) h = update_told r.inputs h r.lists r.commands input setting time
after_told r (ticks looks lags time) h = tick_told r.inputs h r.lists r.commands looks lags time

pub step_told : (r : Reply) (call : Call) → Sized r.inputs → Accepted r call → (i : ℕ) → i < 16 → (slot_at (after r call).inputs i).delay ≡ last_delay i (slot_at r.inputs i).delay (after r call).commands
step_told r call h e i input = accepted_told (after_told r call h) e i input

pub fresh_told : (night : Night) → (fresh night).number ≡ 0 → (i : ℕ) → i < 16 → (slot_at (fresh night).inputs i).delay ≡ last_delay i 0 (fresh night).commands
fresh_told night passed i input = new_delays _ _ _ _ _ _ _ passed i input
