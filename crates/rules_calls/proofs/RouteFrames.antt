-- What `route` leaves as it was: the settings, the slots and lists of all other inputs, the places of all flows that were known. Assumes nothing.
use Rattle.std.specs.Prelude.{None, Option, Some}
use Prim.Native.Nat.{ℕ, ◌<◌, ◌≤◌}
use mathlib.Core.Path.{◌≡◌, refl, sym, ap, subst, ◌∙◌}
use mathlib.Core.List.{List}
use lib.ListN.{length}
use Rattle.base.proofs.Choices.{accepted_all, pick_all}
use Rattle.rules_record.specs.declared.FlowEntry.{FlowEntry}
use Rattle.rules_record.specs.declared.Inputs.{Inputs}
use Rattle.rules_record.specs.declared.Slot.{Slot}
use Rattle.rules_record.specs.Inputs.{slot_at, put_slot}
use Rattle.rules_record.specs.Sized.{Sized}
use Rattle.rules_record.specs.Flows.{flow_at}
use Rattle.rules_record.proofs.FlowTable.{enrolled_sized, enrolled_stable}
use Rattle.rules_routing.specs.declared.World.{World}
use Rattle.rules_routing.proofs.TryOpenFrame.{Frame, frame_none, frame_then, frame_put, leaves_quiet, open_leaves}
use Rattle.rules_record.specs.Lent.{Lists, buckets_in}
use Rattle.rules_record.specs.Checks.{Fitting}
use Rattle.rules_record.specs.Effects.{Effect, followed_by}
use Rattle.rules_record.specs.Reply.{Reply}
use Rattle.rules_record.proofs.Beside.{Beside, beside_same}
use Rattle.rules_record.proofs.Numbers.{call_fitting, call_input}
use Rattle.rules_record.proofs.SlotFrame.{slot_same}
use Rattle.rules_routing.specs.Clear.{cleared_slot, cleared}
use Rattle.rules_routing.proofs.ClearFrames.{cleared_beside}
use Rattle.rules_routing.proofs.SettingsKept.{SameSettings, settings_then, settings_frame}
use Rattle.rules_calls.specs.RouteChecks.{route_number}
use Rattle.rules_calls.specs.Route.{enrolled_for, route_for, equal_route, routed_slot, opened_for, moved, rerouted, routed_to, routed}
use Rattle.rules_calls.specs.RouteReply.{route_reply}
use Rattle.rules_calls.proofs.Enrolling.{for_rest, for_slot, for_count, for_fitting}
use Rattle.rules_calls.specs.declared.Source.{Source}
use Rattle.rules_record.specs.declared.Route.{Route}

-- ---- the flow is enrolled
module _ (s : Inputs) where
  pub for_settings : (wanted : Option Source) → SameSettings s (enrolled_for s wanted)
  for_settings wanted = subst (SameSettings s) (sym (for_rest s wanted)) refl

  pub for_sized : (wanted : Option Source) → Sized s → Sized (enrolled_for s wanted)
  for_sized None sized = sized
  for_sized (Some source) sized = enrolled_sized s source.flow sized

  -- a known flow keeps its place
  pub for_flow : (wanted : Option Source) → s.flow_count ≤ 64 → (place : ℕ) → place < s.flow_count → flow_at (enrolled_for s wanted) place ≡ flow_at s place
  unfolding flow_at
  for_flow None most place known = refl
  for_flow (Some source) most place known = ap (λ (x : FlowEntry). x.flow) (enrolled_stable s source.flow most place known)

-- ---- a new route, in a record that knows its flow
-- the slot of input i with its new route, before the new flow opens, and the record with it
module _ (new : Option Route) (i time : ℕ) (s : Inputs) where
  abbrev pub routed_here : Slot
  routed_here = cleared_slot (routed_slot new time (slot_at s i))

  abbrev pub placed_here : Inputs
  placed_here = put_slot s i routed_here

  pub placed_slot : i < 16 → Sized s → slot_at placed_here i ≡ routed_here
  placed_slot low sized = slot_same s i routed_here low sized.slots

module _ (new : Option Route) (i time : ℕ) (world : World) (s : Inputs) (l : Lists) where
  opened_frame : (to : Option Route) (z : Inputs) → Frame i z (opened_for to i time world z).inputs
  opened_frame None z = leaves_quiet i z
  opened_frame (Some route) z = open_leaves i z time world

  pub moved_frame : Frame i s (moved new i time world s l).inputs
  unfolding moved followed_by cleared
  moved_frame = frame_then i (frame_put i s (routed_here new i time s)) (opened_frame new (placed_here new i time s))

  pub to_frame : Frame i s (routed_to new i time world s l).inputs
  unfolding routed_to rerouted
  to_frame = pick_all (λ (effect : Effect). Frame i s effect.inputs) (equal_route new (slot_at s i).route) (frame_none i s) moved_frame

  pub to_beside : Fitting s l → i < s.count → Beside s.count (buckets_in s) i l (routed_to new i time world s l).lists
  unfolding routed_to rerouted moved followed_by cleared
  to_beside f h =
      pick_all (λ (effect : Effect). Beside s.count (buckets_in s) i l effect.lists) (equal_route new (slot_at s i).route)
      (beside_same s.count (buckets_in s) i l f.long)
      (cleared_beside s l i f h)

-- ---- what an accepted call does
module _ (s : Inputs) (l : Lists) (i : ℕ) (wanted : Option Source) (time : ℕ) (world : World) where
  abbrev known : Inputs
  known = enrolled_for s wanted

  abbrev after : Inputs
  after = (routed i wanted time world s l).inputs

  routed_frame : Frame i known after
  unfolding routed
  routed_frame = to_frame (route_for known wanted) i time world known l

  pub routed_settings : SameSettings s after
  routed_settings = settings_then s known after (for_settings s wanted) (settings_frame i known after routed_frame)

  pub routed_other : (j : ℕ) → (j ≡ i → ⊥) → slot_at after j ≡ slot_at s j
  routed_other j apart = routed_frame.others j apart ∙ for_slot s wanted j

  pub routed_sized : Sized s → Sized after
  routed_sized sized = routed_frame.sized (for_sized s wanted sized)

  pub routed_flow : Sized s → s.flow_count ≤ 64 → (place : ℕ) → place < s.flow_count → flow_at after place ≡ flow_at s place
  routed_flow sized most place h = routed_frame.flow (for_sized s wanted sized) place ∙ for_flow s wanted most place h

  pub routed_beside : Fitting s l → i < s.count → Beside s.count (buckets_in s) i l (routed i wanted time world s l).lists
  unfolding routed buckets_in
  routed_beside f h =
      subst (λ (z : Inputs). Beside z.count (buckets_in z) i l (routed i wanted time world s l).lists) (for_rest s wanted)
      (to_beside (route_for known wanted) i time world known l (for_fitting s wanted l f) (subst (λ (n : ℕ). i < n) (sym (for_count s wanted)) h))

-- ---- the call, accepted or refused
module _ (s : Inputs) (l : Lists) (commands : List ℕ) (input : ℕ) (wanted : Option Source) (time : ℕ) (world : World) where
  pub route_other : (j : ℕ) → (j ≡ input → ⊥) → slot_at (route_reply s l commands input wanted time world).inputs j ≡ slot_at s j
  unfolding route_reply
  route_other j apart =
      accepted_all (λ (reply : Reply). slot_at reply.inputs j ≡ slot_at s j) (route_number s l (length commands) input wanted time world) _ _ refl
      (λ e. routed_other s l input wanted time world j apart)

  pub route_settings : SameSettings s (route_reply s l commands input wanted time world).inputs
  unfolding route_reply
  route_settings =
      accepted_all (λ (reply : Reply). SameSettings s reply.inputs) (route_number s l (length commands) input wanted time world) _ _ refl
      (λ e. routed_settings s l input wanted time world)

  pub route_sized : Sized s → Sized (route_reply s l commands input wanted time world).inputs
  unfolding route_reply
  route_sized sized =
      accepted_all (λ (reply : Reply). Sized reply.inputs) (route_number s l (length commands) input wanted time world) _ _ sized
      (λ e. routed_sized s l input wanted time world sized)

  pub route_beside : route_number s l (length commands) input wanted time world ≡ 0 → Beside s.count (buckets_in s) input l (routed input wanted time world s l).lists
  unfolding route_number
  route_beside e = routed_beside s l input wanted time world (call_fitting s l (length commands) input time _ e) (call_input s l (length commands) input time _ e)
