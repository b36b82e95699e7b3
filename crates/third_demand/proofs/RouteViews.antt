-- What an accepted `route` makes of every input: of its own nothing, or "window and hold are cleared" and a seed where it opens; nothing of
-- another. Assumes nothing.
use Rattle.std.specs.Prelude.{None, Option, Some}
use Prim.Native.Nat.{ℕ, ◌<◌, ◌≤◌}
use mathlib.Core.Bool.{Bool}
use mathlib.Core.Path.{◌≡◌, refl, sym, ap, subst, ◌∙◌}
use mathlib.Core.List.{List, [], ◌∷◌}
use native.Mathlib.Omega.{arith}
use lib.ListN.{length}
use Rattle.base.specs.Limits.{time_limit}
use Rattle.base.proofs.Choices.{accepted_new, pick_all}
use Rattle.rules_window.specs.Window.{fresh}
use Rattle.delay_hold.specs.Next.{cleared_hold}
use Rattle.rules_record.specs.declared.Route.{Route}
use Rattle.rules_record.specs.declared.Slot.{Slot}
use Rattle.rules_record.specs.declared.Inputs.{Inputs}
use Rattle.rules_record.specs.Inputs.{slot_at, put_slot}
use Rattle.rules_record.proofs.SlotFrame.{slot_same}
use Rattle.rules_record.proofs.Sized.{sized_put}
use Rattle.rules_record.specs.Sized.{Sized}
use Rattle.rules_record.specs.Commands.{quiet}
use Rattle.rules_routing.specs.declared.World.{World}
use Rattle.rules_routing.specs.TryOpen.{running_slot, opened_slot}
use Rattle.rules_routing.proofs.TryOpenFrame.{Frame, frame_put, frame_then, open_leaves}
use Rattle.rules_routing.proofs.TryOpenOutcomes.{started_slot, open_outcomes}
use Rattle.rules_record.specs.Lent.{Lists, buckets_in, held_of}
use Rattle.rules_record.specs.Checks.{Fitting}
use Rattle.rules_record.specs.Effects.{Effect, followed_by}
use Rattle.rules_record.specs.Reply.{Reply, carried_out}
use Rattle.rules_record.proofs.Numbers.{input_told, call_fitting, call_low}
use Rattle.rules_routing.specs.Clear.{cleared_slot, cleared_lists, cleared}
use Rattle.rules_routing.proofs.ClearFrames.{cleared_beside}
use Rattle.rules_routing.proofs.SettingsKept.{SameSettings, settings_put, settings_frame}
use Rattle.rules_calls.specs.RouteChecks.{route_number}
use Rattle.rules_calls.specs.Route.{enrolled_for, route_for, equal_route, starts_over, started_over, routed_slot, opened_for, moved, rerouted, routed_to, routed}
use Rattle.rules_calls.specs.RouteReply.{route_reply}
use Rattle.rules_calls.proofs.RouteViews.{over_delay}
use Rattle.rules_calls.proofs.Enrolling.{for_slot}
use Rattle.rules_calls.proofs.RouteFrames.{for_settings, for_sized}
use Rattle.history.specs.View.{InputView, rules_of}
use Rattle.history.specs.Events.{Event, seeds, clears, after, history}
use Rattle.third_demand.proofs.Lifted.{view_of, Lifted, view_for}
use Rattle.third_demand.proofs.CallViews.{fitting_same, view_own, view_other, view_cleared, CallOn, call_none, call_from}
use Rattle.rules_calls.specs.declared.Source.{Source}

-- ---- the slot of the new route

module _ (new : Option Route) (time : ℕ) (slot : Slot) where
  -- no proposal comes, and no counter changes
  over_proposed : slot.proposed ≡ None → (started_over new time slot).proposed ≡ None
  unfolding started_over
  over_proposed none = pick_all (λ (x : Slot). x.proposed ≡ None) (starts_over new slot) refl none

  over_reopens : (started_over new time slot).reopens ≡ slot.reopens
  unfolding started_over
  over_reopens = pick_all (λ (x : Slot). x.reopens ≡ slot.reopens) (starts_over new slot) refl refl

  over_changes : (started_over new time slot).delay_changes ≡ slot.delay_changes
  unfolding started_over
  over_changes = pick_all (λ (x : Slot). x.delay_changes ≡ slot.delay_changes) (starts_over new slot) refl refl

  over_lates : (started_over new time slot).late_events ≡ slot.late_events
  unfolding started_over
  over_lates = pick_all (λ (x : Slot). x.late_events ≡ slot.late_events) (starts_over new slot) refl refl

-- ---- the events of a route that is not equal: window and hold are cleared, the delay is 0 where it starts over; then a seed, or none
pub data RouteEvents (time : ℕ) (zeroed : Bool) : List Event → Type 0 where
  clearing : RouteEvents time zeroed (clears time zeroed ∷ [])
  seeding : (delay : ℕ) → RouteEvents time zeroed (clears time zeroed ∷ seeds time delay ∷ [])

-- what such a route makes of its input, with this slot after it
pub record Moved (s : Inputs) (l : Lists) (i time : ℕ) (new : Option Route) (slot : Slot) : Type 0 where
  pub lifted : Lifted s.policy time (view_of s l i) (view_for s (cleared_lists i s l) i slot)
  pub events : RouteEvents time (starts_over new (slot_at s i)) lifted.events
  pub proposed : (slot_at s i).proposed ≡ None → slot.proposed ≡ None
  pub reopens : slot.reopens ≡ (slot_at s i).reopens
  pub changes : slot.delay_changes ≡ (slot_at s i).delay_changes
  pub lates : slot.late_events ≡ (slot_at s i).late_events

module _ (s : Inputs) (l : Lists) (i time : ℕ) (f : Fitting s l) (h : i < s.count) (soon : time ≤ time_limit) where
  module _ (new : Option Route) where
    -- before it opens
    abbrev base : Slot
    base = cleared_slot (routed_slot new time (slot_at s i))

    cleared_is : after (rules_of s.policy) (view_of s l i) (clears time (starts_over new (slot_at s i))) ≡ view_for s (cleared_lists i s l) i base
    unfolding after routed_slot
    cleared_is = sym (
        view_cleared s l i f h base refl
        ∙ (λ t. record { window = fresh (buckets_in s) s.width; held = cleared_hold (held_of s l i); delay = over_delay new time (slot_at s i) t })
        )

    base_moved : Moved s l i time new base
    unfolding history routed_slot
    base_moved = record {
      lifted = record {
        events = clears time (starts_over new (slot_at s i)) ∷ [];
        leads = cleared_is;
        lawful = λ before first. (first, soon, tt, tt, tt);
        clocked = λ before first. omega arith;
      };
      events = clearing;
      proposed = over_proposed new time (slot_at s i);
      reopens = over_reopens new time (slot_at s i);
      changes = over_changes new time (slot_at s i);
      lates = over_lates new time (slot_at s i);
    }

  -- "was Waiting": no reopen is counted
  opened_moved : (new : Route) (inode head : ℕ) → Moved s l i time (Some new) (opened_slot (base (Some new)) inode head time)
  unfolding opened_slot running_slot routed_slot
  opened_moved new inode head =
      let b = base_moved (Some new) in
      record { lifted = b.lifted; events = b.events; proposed = b.proposed; reopens = b.reopens; changes = b.changes; lates = b.lates }

  -- ".. set the smaller of it and maximum, and seed"
  started_moved : (new : Route) (inode head delay : ℕ) → delay ≤ s.policy.delay_max → Moved s l i time (Some new) (started_slot (opened_slot (base (Some new)) inode head time) delay time)
  unfolding opened_slot running_slot routed_slot history after
  started_moved new inode head delay fits =
      let b = base_moved (Some new) in
      record {
        lifted = record {
          events = clears time (starts_over (Some new) (slot_at s i)) ∷ seeds time delay ∷ [];
          leads = ap (λ (view : InputView). after (rules_of s.policy) view (seeds time delay)) (cleared_is (Some new));
          lawful = λ before first. (first, soon, tt, tt, (omega arith, soon, fits, tt, tt));
          clocked = λ before first. omega arith;
        };
        events = seeding delay;
        proposed = b.proposed;
        reopens = b.reopens;
        changes = b.changes;
        lates = b.lates;
      }

-- ---- the slot that is left, opened or not
module _ (s : Inputs) (l : Lists) (i time : ℕ) (sized : Sized s) (f : Fitting s l) (h : i < s.count) (low : i < 16) (soon : time ≤ time_limit) (world : World) where
  module _ (new : Option Route) where
    abbrev placed : Inputs
    placed = put_slot s i (cleared_slot (routed_slot new time (slot_at s i)))

    placed_slot : slot_at placed i ≡ cleared_slot (routed_slot new time (slot_at s i))
    placed_slot = slot_same s i _ low sized.slots

  opened_frame : (new : Option Route) → Frame i s (opened_for new i time world (placed new)).inputs
  unfolding quiet
  opened_frame None = frame_put i s _
  opened_frame (Some new) = frame_then i (frame_put i s _) (open_leaves i (placed (Some new)) time world)

  opened_slot_law : (new : Option Route) → Moved s l i time new (slot_at (opened_for new i time world (placed new)).inputs i)
  unfolding quiet
  opened_slot_law None = subst (Moved s l i time None) (sym (placed_slot None)) (base_moved s l i time f h soon None)
  opened_slot_law (Some new) =
      open_outcomes i low (placed (Some new)) time world (sized_put s i _ sized) (λ (x : Slot) (words : List ℕ). Moved s l i time (Some new) x)
      (subst (Moved s l i time (Some new)) (sym (placed_slot (Some new))) (base_moved s l i time f h soon (Some new)))
      (λ inode channels of open-to.
      subst (λ (x : Slot). Moved s l i time (Some new) (opened_slot x inode world.head time)) (sym (placed_slot (Some new))) (opened_moved s l i time f h soon new inode world.head))
      (λ inode channels delay of open-to anew fits.
      subst (λ (x : Slot). Moved s l i time (Some new) (started_slot (opened_slot x inode world.head time) delay time)) (sym (placed_slot (Some new)))
      (started_moved s l i time f h soon new inode world.head delay (subst (λ (z : Inputs). delay ≤ z.policy.delay_max) (settings_put s i _) fits)))

  -- ---- a route of a record where its flow is enrolled

  rerouted_call : (new : Option Route) → CallOn i time s l (rerouted new i time world s l).inputs (rerouted new i time world s l).lists
  unfolding rerouted moved followed_by cleared
  rerouted_call new =
      let z : Inputs = (opened_for new i time world (placed new)).inputs in
      let frame : Frame i s z = opened_frame new in
      let same : SameSettings s z = settings_frame i s z frame in
      let own : Moved s l i time new (slot_at z i) = opened_slot_law new in
      record {
        settings = same;
        lifted = subst (Lifted s.policy time (view_of s l i)) (sym (view_own s z same (cleared_lists i s l) i (slot_at z i) refl)) own.lifted;
        other_slot = frame.others;
        other_view = λ j there apart. view_other s z same l (cleared_lists i s l) i j (cleared_beside s l i f h) there apart (frame.others j apart);
        proposed = own.proposed;
        reopens = own.reopens;
        changes = own.changes;
        lates = own.lates;
      }

  routed_to_call : (new : Option Route) → CallOn i time s l (routed_to new i time world s l).inputs (routed_to new i time world s l).lists
  unfolding routed_to
  routed_to_call new =
      pick_all (λ (effect : Effect). CallOn i time s l effect.inputs effect.lists) (equal_route new (slot_at s i).route) (call_none i time s l) (rerouted_call new)

-- ---- the call
module _ (s : Inputs) (l : Lists) (commands : List ℕ) (input : ℕ) (wanted : Option Source) (time : ℕ) (world : World) (accepted : route_number s l (length commands) input wanted time world ≡ 0) where
  abbrev effect : Effect
  effect = routed input wanted time world s l

  pub route_reply_law : route_reply s l commands input wanted time world ≡ carried_out (route_number s l (length commands) input wanted time world) commands effect
  unfolding route_reply
  route_reply_law = accepted_new _ _ _ accepted

  told : Fitting s l × (input < s.count) × (input < 16) × (time ≤ time_limit)
  unfolding route_number
  told =
      let t = input_told s l (length commands) input time _ accepted in
      (call_fitting s l (length commands) input time _ accepted, t.1, call_low s l (length commands) input time _ accepted, t.2)

  pub routed_call : Sized s → CallOn input time s l effect.inputs effect.lists
  unfolding routed
  routed_call sized =
      let z : Inputs = enrolled_for s wanted in
      let same : SameSettings s z = for_settings s wanted in
      call_from input time s l z same (for_slot s wanted) effect.inputs effect.lists
      (routed_to_call z l input time (for_sized s wanted sized) (fitting_same s z same l told.0) (subst (λ (x : Inputs). input < x.count) (sym same) told.1) told.2 told.3 world (route_for z wanted))

  pub route_call : Sized s → CallOn input time s l (route_reply s l commands input wanted time world).inputs (route_reply s l commands input wanted time world).lists
  route_call sized = subst (λ (r : Reply). CallOn input time s l r.inputs r.lists) (sym route_reply_law) (routed_call sized)
