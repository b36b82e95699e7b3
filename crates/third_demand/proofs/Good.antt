-- What every call from a fresh supervisor keeps, with confirmation and without, and the laws of one call on which the third demand rests.
-- Assumes nothing.
use Rattle.std.specs.Prelude.{None, Option}
use Prim.Native.Nat.{ℕ, ◌+◌, ◌*◌, ◌≤◌, ◌<◌}
use mathlib.Core.Path.{◌≡◌}
use mathlib.Core.List.{List}
use lib.ListN.{length}
use Rattle.rules_calls.specs.declared.DelaySetting.{DelaySetting}
use Rattle.rules_record.specs.declared.Slot.{Slot}
use Rattle.rules_record.specs.States.{is_running}
use Rattle.rules_record.specs.Inputs.{slot_at}
use Rattle.rules_routing.specs.declared.World.{World}
use Rattle.rules_record.specs.Reply.{Reply}
use Rattle.rules_record.specs.Facts.{Checked}
use Rattle.rules_routing.proofs.SettingsKept.{SameSettings}
use Rattle.rules_tick.specs.AutoDelay.{goes_on}
use Rattle.rules_calls.specs.declared.Settings.{Settings}
use Rattle.rules_calls.specs.NewRecord.{policy_of, blank_for}
use Rattle.rules_tick.specs.declared.Look.{Look}
use Rattle.rules_tick.specs.Looks.{lags_of}
use Rattle.sent_delays.specs.Last.{last_delay}
use Rattle.history.specs.View.{InputView, tick_of}
use Rattle.third_demand.specs.Calls.{Call, routes, updates, ticks, time_of, after, Accepted}
use Rattle.third_demand.proofs.Lifted.{view_of, Lifted, TickLifted}
use Rattle.rules_calls.specs.declared.Source.{Source}

-- an input after n calls: each counter is at most n
pub record Counted (n : ℕ) (slot : Slot) : Type 0 where
  pub reopens : slot.reopens ≤ n
  pub changes : slot.delay_changes ≤ n
  pub lates : slot.late_events ≤ n

-- no input has a proposal
abbrev pub Unproposed : (settings : Settings) (r : Reply) → Type 0
Unproposed settings r = (i : ℕ) → i < settings.count → (slot_at r.inputs i).proposed ≡ None

-- what n calls leave, with confirmation or without
pub record Sure (settings : Settings) (n : ℕ) (r : Reply) : Type 0 where
  pub checked : Checked r.inputs r.lists
  pub same : SameSettings (blank_for settings) r.inputs
  pub long : length r.commands ≡ settings.count * 12
  pub counted : (i : ℕ) → i < settings.count → Counted n (slot_at r.inputs i)

-- what they leave without confirmation
pub record Good (settings : Settings) (n : ℕ) (r : Reply) : Type 0 where
  pub sure : Sure settings n r
  pub unproposed : Unproposed settings r

abbrev pub most : ℕ
most = 1_000_000_000_000_000_000

-- the view of input i in what a call left
abbrev pub seen_at : Reply → ℕ → InputView
seen_at r i = view_of r.inputs r.lists i

-- ---- one accepted call
-- with confirmation or without
pub record SureStep (settings : Settings) (n : ℕ) (r : Reply) (call : Call) : Type 0 where
  pub sure : Sure settings (n + 1) (after r call)
  pub told : (i : ℕ) → i < settings.count → (slot_at (after r call).inputs i).delay ≡ last_delay i (slot_at r.inputs i).delay (after r call).commands

-- without confirmation
pub record Step (settings : Settings) (n : ℕ) (r : Reply) (call : Call) : Type 0 where
  pub good : Good settings (n + 1) (after r call)
  pub lifted : (i : ℕ) → i < settings.count → Lifted (policy_of settings) (time_of call) (seen_at r i) (seen_at (after r call) i)

-- an accepted call leaves the slot and the view of this input alone
pub record Alone (i : ℕ) (r z : Reply) : Type 0 where
  pub slot : slot_at z.inputs i ≡ slot_at r.inputs i
  pub view : seen_at z i ≡ seen_at r i

-- the laws of one call, for settings without confirmation
pub record Laws (settings : Settings) : Type 0 where
  pub step : (n : ℕ) (r : Reply) (call : Call) → n < most → Good settings n r → Accepted r call → Step settings n r call
  pub tick :
      (n : ℕ) (r : Reply) (looks : List Look) (lags : List ℕ) (time i : ℕ) → n < most → Good settings n r → Accepted r (ticks looks lags time) → i < settings.count →
      TickLifted (policy_of settings) (tick_of time (lags_of looks lags i)) (is_running (slot_at r.inputs i).state)
      (goes_on (slot_at (after r (ticks looks lags time)).inputs i)) (seen_at r i) (seen_at (after r (ticks looks lags time)) i)
  pub route_other :
      (n : ℕ) (r : Reply) (input : ℕ) (wanted : Option Source) (time : ℕ) (world : World) (i : ℕ) → Sure settings n r → Accepted r (routes input wanted time world) → i < settings.count →
      (input ≡ i → ⊥) → Alone i r (after r (routes input wanted time world))
  pub update_other :
      (n : ℕ) (r : Reply) (input : ℕ) (setting : DelaySetting) (time i : ℕ) → Sure settings n r → Accepted r (updates input setting time) → i < settings.count →
      (input ≡ i → ⊥) → Alone i r (after r (updates input setting time))
