-- A refused call changes nothing but the number of the answer. Assumes nothing.
use Prim.Native.Nat.{ℕ, zero, suc}
use mathlib.Core.Path.{◌≡◌, refl}
use mathlib.Core.List.{List}
use lib.ListN.{length}
use Rattle.rules_record.specs.declared.Inputs.{Inputs}
use Rattle.rules_record.specs.Lent.{Lists}
use Rattle.rules_record.specs.Effects.{Effect}
use Rattle.rules_record.specs.Reply.{Reply, replied}
use Rattle.rules_calls.specs.UpdateChecks.{update_number}
use Rattle.rules_calls.specs.Update.{kind_of, updated}
use Rattle.rules_calls.specs.UpdateReply.{update_reply}
use Rattle.rules_calls.specs.RouteChecks.{route_number}
use Rattle.rules_calls.specs.Route.{routed}
use Rattle.rules_calls.specs.RouteReply.{route_reply}
use Rattle.rules_tick.specs.TickChecks.{tick_number}
use Rattle.rules_tick.specs.Tick.{ticked}
use Rattle.rules_tick.specs.TickReply.{tick_reply}
use Rattle.third_demand.specs.Calls.{Call, routes, updates, ticks, after, Accepted}

-- record, lists and commands are as they were
pub record Unchanged (r z : Reply) : Type 0 where
  pub inputs : z.inputs ≡ r.inputs
  pub lists : z.lists ≡ r.lists
  pub commands : z.commands ≡ r.commands

module _ (s : Inputs) (l : Lists) (commands : List ℕ) (effect : Effect) where
  reply_unchanged : (number : ℕ) → ((replied number s l commands effect).number ≡ 0 → ⊥)
      → ((replied number s l commands effect).inputs ≡ s) × ((replied number s l commands effect).lists ≡ l) × ((replied number s l commands effect).commands ≡ commands)
  reply_unchanged zero refused = absurd (refused refl)
  reply_unchanged (suc n) refused = (refl, refl, refl)

unchanged_of : (r z : Reply) → (z.inputs ≡ r.inputs) × (z.lists ≡ r.lists) × (z.commands ≡ r.commands) → Unchanged r z
unchanged_of r z e = record { inputs = e.0; lists = e.1; commands = e.2 }

pub refused_after : (r : Reply) (call : Call) → (Accepted r call → ⊥) → Unchanged r (after r call)
unfolding after route_reply update_reply tick_reply
refused_after r (routes input wanted time world) refused =
    unchanged_of r _
    (reply_unchanged r.inputs r.lists r.commands (routed input wanted time world r.inputs r.lists)
    (route_number r.inputs r.lists (length r.commands) input wanted time world) refused)
refused_after r (updates input setting time) refused =
    unchanged_of r _
    (reply_unchanged r.inputs r.lists r.commands (updated input (kind_of setting) time r.inputs r.lists)
    (update_number r.inputs r.lists (length r.commands) input setting time) refused)
refused_after r (ticks looks lags time) refused =
    unchanged_of r _
    (reply_unchanged r.inputs r.lists r.commands (ticked looks lags time r.inputs r.lists)
    (tick_number r.inputs r.lists (length r.commands) looks lags time) refused)
