-- `route`, `update` and `confirm_delay` tell the delays and the times. Assumes nothing.
use Rattle.std.specs.Prelude.{None, Option, Some}
use Prim.Native.Nat.{ℕ, ◌<◌}
use mathlib.Core.Path.{◌≡◌, refl, ap}
use mathlib.Core.List.{[]}
use Rattle.base.proofs.Choices.{by_bool, pick_all}
use Rattle.doubles.specs.Doubles.{samples_of}
use Rattle.rules_record.specs.declared.ExtraDelay.{ExtraDelay}
use Rattle.rules_record.specs.declared.ExtraDelay.TheVariants.{Auto, Ms}
use Rattle.rules_record.specs.declared.Flow.{Flow}
use Rattle.rules_record.specs.declared.Slot.{Slot}
use Rattle.rules_record.specs.declared.Inputs.{Inputs}
use Rattle.rules_record.specs.Inputs.{slot_at, put_slot}
use Rattle.rules_record.specs.Sized.{Sized}
use Rattle.rules_record.specs.Flows.{enrolled}
use Rattle.rules_record.proofs.FlowTable.{enrolled_rest, enrolled_sized}
use Rattle.rules_routing.specs.declared.World.{World}
use Rattle.rules_record.specs.Lent.{Lists}
use Rattle.rules_record.specs.Effects.{followed_by}
use Rattle.rules_routing.specs.Clear.{cleared_slot, cleared}
use Rattle.rules_calls.specs.Route.{enrolled_for, route_for, equal_route, starts_over, forgetting, zeroing, started_over, routed_slot, opened_for, moved, rerouted, routed_to, routed}
use Rattle.rules_calls.specs.Update.{kind_stored, delay_set, updated}
use Rattle.rules_calls.specs.ConfirmDelay.{taken, confirmed_by, confirmed}
use Rattle.sent_delays.proofs.Notes.{notes_of}
use Rattle.sent_delays.proofs.Steps.{Tells, TellsDone, TellsEffect, tells_then, tells_same, tells_none, tells_quiet, tells_put, tells_put_delay, tells_clear_input, tells_set, tells_open}
use Rattle.rules_calls.specs.declared.Source.{Source}
use Rattle.rules_record.specs.declared.Route.{Route}

-- enrolling a flow changes no slot
pub tells_enrolled : {time : ℕ} (s : Inputs) (flow : Flow) → Sized s → Tells time s (enrolled s flow) []
unfolding slot_at
tells_enrolled s flow h = tells_same (enrolled_sized s flow h) (λ j. ap (λ (z : Inputs). slot_at z j) (enrolled_rest s flow))

pub tells_wanted : {time : ℕ} (s : Inputs) (wanted : Option Source) → Sized s → Tells time s (enrolled_for s wanted) []
tells_wanted s None h = tells_none h
tells_wanted s (Some source) h = tells_enrolled s source.flow h

module _ (i : ℕ) (input : i < 16) (time : ℕ) where
  -- window and hold are cleared, in a slot that notes what the input's did
  pub tells_cleared : (slot : Slot) (s : Inputs) (l : Lists) → Sized s → notes_of slot ≡ notes_of (slot_at s i) → TellsEffect time s (cleared i slot s l)
  unfolding cleared
  tells_cleared slot s l h same = tells_put i input s h time _ same

  -- ---- a delay is set, in a slot that notes what the input's did
  pub tells_delay_set : (slot : Slot) (delay : ℕ) (s : Inputs) → Sized s → notes_of slot ≡ notes_of (slot_at s i) → TellsDone time s (delay_set i slot delay time s)
  unfolding delay_set
  tells_delay_set slot delay s h same =
      let f : Tells time s (put_slot s i slot) [] = tells_put i input s h time slot same in
      tells_then f (tells_set i input (put_slot s i slot) f.sized time delay)

  -- ---- `update`
  pub tells_updated : (kind : ExtraDelay) (s : Inputs) (l : Lists) → Sized s → TellsEffect time s (updated i kind time s l)
  unfolding updated
  tells_updated (Ms delay) s l h = tells_delay_set (kind_stored (slot_at s i) (Ms delay)) (samples_of delay) s h refl
  tells_updated (Auto tag) s l h = tells_cleared (kind_stored (slot_at s i) (Auto tag)) s l h refl

  -- ---- `confirm_delay`
  tells_confirmed_by : (proposal : Option ℕ) (s : Inputs) (l : Lists) → Sized s → TellsEffect time s (confirmed_by proposal i time s l)
  tells_confirmed_by None s l h = tells_none h
  tells_confirmed_by (Some delay) s l h = tells_delay_set (taken (slot_at s i)) delay s h refl

  pub tells_confirmed : (s : Inputs) (l : Lists) → Sized s → TellsEffect time s (confirmed i time s l)
  unfolding confirmed
  tells_confirmed s l h = tells_confirmed_by (slot_at s i).proposed s l h

  -- ---- `route`
  -- an old route sends ClearInput, which tells nothing
  tells_forgetting : (old : Option Route) (s : Inputs) → Sized s → Tells time s s (forgetting i old)
  tells_forgetting None s h = tells_none h
  tells_forgetting (Some old) s h = tells_clear_input i input s h time 1

  -- "another flow, automatic, delay not 0: delay 0, .. SetDelay 0"; else the delay stays
  tells_over : (new : Option Route) (s : Inputs) → Sized s → Tells time s (put_slot s i (cleared_slot (routed_slot new time (slot_at s i)))) (zeroing i new (slot_at s i))
  unfolding zeroing routed_slot started_over
  tells_over new s h =
      by_bool (starts_over new (slot_at s i))
      (λ e. rw e (tells_put_delay i input s h time _ 0 refl))
      (λ e. rw e (tells_put i input s h time _ refl))

  tells_opened_for : (new : Option Route) (world : World) (s : Inputs) → Sized s → TellsDone time s (opened_for new i time world s)
  tells_opened_for None world s h = tells_quiet h
  tells_opened_for (Some new) world s h = tells_open i input s h time world

  tells_rerouted : (new : Option Route) (world : World) (s : Inputs) (l : Lists) → Sized s → TellsEffect time s (rerouted new i time world s l)
  unfolding rerouted moved cleared followed_by
  tells_rerouted new world s l h =
      let f = tells_over new s h in
      tells_then (tells_forgetting (slot_at s i).route s h) (tells_then f (tells_opened_for new world _ f.sized))

  pub tells_routed : (wanted : Option Source) (world : World) (s : Inputs) (l : Lists) → Sized s → TellsEffect time s (routed i wanted time world s l)
  unfolding routed routed_to
  tells_routed wanted world s l h =
      let f = tells_wanted s wanted h in
      let z : Inputs = enrolled_for s wanted in
      tells_then f
      (pick_all (TellsEffect time z) (equal_route (route_for z wanted) (slot_at z i).route) (tells_none f.sized) (tells_rerouted (route_for z wanted) world z l f.sized))
