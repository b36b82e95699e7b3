-- `route` keeps a checked record checked: after a new route the input waits, and an input that waits counts no reopen when it opens. Assumes nothing.
use Rattle.std.specs.Prelude.{None, Option, Some}
use Prim.Native.Nat.{ℕ, ◌<◌, ◌≤◌, zero-le}
use mathlib.Core.Bool.{true}
use mathlib.Core.Path.{◌≡◌, refl, sym, ap, subst, ◌∙◌}
use mathlib.Core.List.{List}
use native.Mathlib.Omega.{arith}
use lib.ListN.{length}
use borrow.Author.Tests.{le-leb, lt-ltb}
use Rattle.base.specs.Limits.{time_limit}
use Rattle.base.proofs.Choices.{asked, accepted_all, pick_all}
use Rattle.base.proofs.Points.{true_both}
use Rattle.rules_record.specs.declared.Flow.{Flow}
use Rattle.rules_record.specs.declared.Slot.{Slot}
use Rattle.rules_record.specs.declared.Inputs.{Inputs}
use Rattle.rules_record.specs.States.{state_number}
use Rattle.rules_record.specs.Inputs.{slot_at}
use Rattle.rules_record.specs.Flows.{enrolled}
use Rattle.rules_record.proofs.FlowTable.{enrolled_place, enrolled_known}
use Rattle.rules_record.specs.Commands.{quiet}
use Rattle.rules_routing.specs.declared.World.{World}
use Rattle.rules_record.specs.Lent.{Lists}
use Rattle.rules_record.specs.WholePlaces.{route_fits}
use Rattle.rules_record.specs.Effects.{Effect, followed_by}
use Rattle.rules_record.specs.Reply.{Reply}
use Rattle.rules_record.specs.Facts.{WholeSlot, Checked}
use Rattle.rules_record.proofs.Keep.{cleared_keeps}
use Rattle.rules_record.proofs.Tables.{enrol_keeps}
use Rattle.rules_record.proofs.Numbers.{input_told}
use Rattle.rules_routing.specs.Clear.{cleared_lists, cleared}
use Rattle.rules_routing.proofs.SettingsKept.{settings_put}
use Rattle.rules_routing.proofs.TryOpenKeeps.{waiting_keeps}
use Rattle.rules_calls.specs.RouteChecks.{wanted_fits, route_number}
use Rattle.rules_calls.specs.Route.{enrolled_for, route_for, equal_route, starts_over, started_over, state_for, routed_slot, opened_for, moved, rerouted, routed_to, routed}
use Rattle.rules_calls.specs.RouteReply.{route_reply}
use Rattle.rules_calls.proofs.Enrolling.{for_count}
use Rattle.rules_calls.proofs.RouteFrames.{routed_here, placed_here, placed_slot}
use Rattle.rules_calls.specs.declared.Source.{Source}
use Rattle.rules_record.specs.declared.Route.{Route}

-- ---- the route that is wanted
module _ (s : Inputs) (l : Lists) (c : Checked s l) where
  pub for_keeps : (wanted : Option Source) → Checked (enrolled_for s wanted) l
  for_keeps None = c
  for_keeps (Some source) = enrol_keeps s l c source.flow

  -- it names a flow that is known once it is enrolled
  pub for_fits : (wanted : Option Source) → wanted_fits s wanted ≡ true
      → route_fits (route_for (enrolled_for s wanted) wanted) (state_for (route_for (enrolled_for s wanted) wanted)) (enrolled_for s wanted).flow_count ≡ true
  unfolding route_fits
  for_fits None fits = refl
  for_fits (Some source) fits =
      let flow : Flow = source.flow in
      let most : s.flow_count ≤ 64 = c.whole.flows.most in
      true_both _ _ (lt-ltb _ _ (subst (λ (place : ℕ). place < (enrolled s flow).flow_count) (sym (enrolled_place s flow most c.sized fits)) (enrolled_known s flow most c.sized fits))) refl

-- ---- a new route, in a record that knows its flow
module _ (s : Inputs) (l : Lists) (i : ℕ) (c : Checked s l) (h : i < s.count) (new : Option Route) (fits : route_fits new (state_for new) s.flow_count ≡ true) (time : ℕ) (soon : time ≤ time_limit) where
  old : WholeSlot s.policy.delay_max s.flow_count (slot_at s i)
  old = (c.whole.inputs i h).slot

  over_fits : WholeSlot s.policy.delay_max s.flow_count (started_over new time (slot_at s i))
  unfolding started_over
  over_fits =
      pick_all (WholeSlot s.policy.delay_max s.flow_count) (starts_over new (slot_at s i))
      (record { delay = zero-le; proposed = refl; route = old.route; reopens = old.reopens; changes = old.changes; lates = old.lates; head = old.head; set = le-leb _ _ soon; opened = old.opened })
      old

  there_fits : WholeSlot s.policy.delay_max s.flow_count (routed_here new i time s)
  unfolding routed_slot
  there_fits =
      let w = over_fits in
      record { delay = w.delay; proposed = w.proposed; route = fits; reopens = w.reopens; changes = w.changes; lates = w.lates; head = w.head; set = w.set; opened = w.opened }

  after_keeps : Checked (placed_here new i time s) (cleared_lists i s l)
  unfolding routed_slot
  after_keeps = cleared_keeps s l i (routed_here new i time s) c h there_fits refl refl

  after_state : (slot_at (placed_here new i time s) i).state ≡ state_for new
  unfolding routed_slot
  after_state = ap (λ (x : Slot). x.state) (placed_slot new i time s (omega (arith, c.fitting.allowed.most)) c.sized)

  opened_keeps : (to : Option Route) → new ≡ to → (world : World) → Checked (opened_for to i time world (placed_here new i time s)).inputs (cleared_lists i s l)
  unfolding quiet
  opened_keeps None e world = after_keeps
  opened_keeps (Some route) e world =
      waiting_keeps (cleared_lists i s l) i time soon (placed_here new i time s) world after_keeps (subst (λ (z : Inputs). i < z.count) (sym (settings_put s i (routed_here new i time s))) h)
      (ap state_number (after_state ∙ ap state_for e))

  pub moved_keeps : (world : World) → Checked (moved new i time world s l).inputs (moved new i time world s l).lists
  unfolding moved followed_by cleared
  moved_keeps world = opened_keeps new refl world

  pub to_keeps : (world : World) → Checked (routed_to new i time world s l).inputs (routed_to new i time world s l).lists
  unfolding routed_to rerouted
  to_keeps world = pick_all (λ (effect : Effect). Checked effect.inputs effect.lists) (equal_route new (slot_at s i).route) c (moved_keeps world)

-- ---- the call, accepted or refused
module _ (s : Inputs) (l : Lists) (commands : List ℕ) (input : ℕ) (wanted : Option Source) (time : ℕ) (world : World) (c : Checked s l) where
  pub routed_keeps : input < s.count → wanted_fits s wanted ≡ true → time ≤ time_limit → Checked (routed input wanted time world s l).inputs (routed input wanted time world s l).lists
  unfolding routed
  routed_keeps there fits soon =
      to_keeps (enrolled_for s wanted) l input (for_keeps s l c wanted) (subst (λ (n : ℕ). input < n) (sym (for_count s wanted)) there) (route_for (enrolled_for s wanted) wanted) (for_fits s l c wanted fits) time soon world

  pub route_keeps : Checked (route_reply s l commands input wanted time world).inputs (route_reply s l commands input wanted time world).lists
  unfolding route_reply route_number
  route_keeps =
      accepted_all (λ (reply : Reply). Checked reply.inputs reply.lists) (route_number s l (length commands) input wanted time world) _ _ c
      (λ e.
      let told = input_told s l (length commands) input time _ e in
      routed_keeps told.1 (asked 8 _ _ told.3).0 told.2)
