-- What an accepted `route` makes of its input's slot, with the words that it sends: one law for each of its ends. Assumes nothing.
use Rattle.std.specs.Prelude.{None, Option, Some}
use Prim.Native.Nat.{ℕ, ◌<◌, ◌≤◌}
use mathlib.Core.Bool.{true}
use mathlib.Core.Path.{◌≡◌, refl, sym, ap, subst, ◌∙◌}
use mathlib.Core.List.{List, [], ◌++◌}
use native.Mathlib.Omega.{arith}
use borrow.Author.Tests.{eqb-true, ltb-true, lt-ltb}
use Rattle.base.proofs.Choices.{yes_pick}
use Rattle.base.proofs.Points.{both_true}
use Rattle.rules_record.specs.declared.State.{State}
use Rattle.rules_record.specs.declared.Flow.{Flow}
use Rattle.rules_record.specs.declared.Slot.{Slot}
use Rattle.rules_record.specs.declared.Inputs.{Inputs}
use Rattle.rules_record.specs.Inputs.{slot_at}
use Rattle.rules_record.proofs.SlotFrame.{put_rest}
use Rattle.rules_record.proofs.Sized.{sized_put}
use Rattle.rules_record.specs.Sized.{Sized}
use Rattle.rules_record.specs.Flows.{flow_place, enrolled_at, enrolled}
use Rattle.rules_record.proofs.FlowTable.{enrolled_place}
use Rattle.rules_record.specs.Commands.{set_input, set_delay, quiet}
use Rattle.rules_routing.specs.declared.World.{World}
use Rattle.rules_routing.specs.TryOpen.{opened_slot, starts_anew}
use Rattle.rules_routing.proofs.TryOpenOutcomes.{started_slot, open_outcomes}
use Rattle.rules_record.specs.Lent.{Lists}
use Rattle.rules_record.specs.WholePlaces.{route_fits}
use Rattle.rules_record.specs.Effects.{silent, followed_by}
use Rattle.rules_record.specs.Facts.{Checked}
use Rattle.rules_routing.specs.Clear.{cleared}
use Rattle.rules_calls.specs.RouteChecks.{wanted_fits}
use Rattle.rules_calls.specs.Route.{enrolled_for, route_for, equal_route, opened_for, moved, routed_to, routed}
use Rattle.rules_calls.proofs.Enrolling.{for_slot}
use Rattle.rules_calls.proofs.RouteFrames.{routed_here, placed_here, placed_slot}
use Rattle.rules_calls.specs.declared.Source.{Source}
use Rattle.rules_record.specs.declared.Route.{Route}

-- ---- an equal route
module _ (s : Inputs) (l : Lists) (i : ℕ) (c : Checked s l) (h : i < s.count) where
  -- a route that the input has names a flow that is known, so nothing is enrolled
  enrolled_equal : (flow : Flow) → flow_place s flow < s.flow_count → enrolled s flow ≡ s
  unfolding enrolled enrolled_at
  enrolled_equal flow low = yes_pick _ _ (lt-ltb _ _ low)

  known_equal : (domain place : ℕ) (old : Option Route) (state : State) → route_fits old state s.flow_count ≡ true → equal_route (Some (record { domain = domain; flow = place })) old ≡ true → place < s.flow_count
  unfolding equal_route route_fits
  known_equal domain place None state fits equal = let none : ◌≡◌ {A = ℕ} 0 1 = cc in absurd (omega arith)
  known_equal domain place (Some old) state fits equal =
      let same : place ≡ old.flow = eqb-true _ _ (both_true _ _ equal).1 in
      subst (λ (n : ℕ). n < s.flow_count) (sym same) (ltb-true _ _ (both_true _ _ fits).0)

  for_equal : (wanted : Option Source) → wanted_fits s wanted ≡ true → equal_route (route_for (enrolled_for s wanted) wanted) (slot_at s i).route ≡ true → enrolled_for s wanted ≡ s
  for_equal None fits equal = refl
  for_equal (Some source) fits equal =
      enrolled_equal source.flow
      (subst (λ (place : ℕ). place < s.flow_count) (enrolled_place s source.flow c.whole.flows.most c.sized fits)
      (known_equal source.domain _ (slot_at s i).route (slot_at s i).state (c.whole.inputs i h).slot.route equal))

  -- "an equal route on a routed input does nothing": no part of the record changes, and nothing is sent
  pub equal_nothing : (wanted : Option Source) (time : ℕ) (world : World) → wanted_fits s wanted ≡ true → equal_route (route_for (enrolled_for s wanted) wanted) (slot_at s i).route ≡ true
      → routed i wanted time world s l ≡ silent s l
  unfolding routed routed_to
  equal_nothing wanted time world fits equal =
      yes_pick _ _ (ap (λ (x : Slot). equal_route (route_for (enrolled_for s wanted) wanted) x.route) (for_slot s wanted i) ∙ equal)
      ∙ ap (λ (z : Inputs). silent z l) (for_equal wanted fits equal)

-- ---- any route, in a record that knows its flow
module _ (new : Option Route) (i time : ℕ) (world : World) (s : Inputs) (l : Lists) (low : i < 16) (sized : Sized s) where
  placed_most : (placed_here new i time s).policy.delay_max ≡ s.policy.delay_max
  placed_most = ap (λ (z : Inputs). z.policy.delay_max) (put_rest s i (routed_here new i time s))

  -- To show P of the input's slot after another route, and of the words that opening it sends, show it of each end.
  module _ (P : Slot → List ℕ → Type 0)
      (stays : P (routed_here new i time s) [])
      (opens : (inode channels : ℕ) → world.inode ≡ Some inode → world.reader ≡ Some channels → P (opened_slot (routed_here new i time s) inode world.head time) (set_input i channels))
      (starts : (inode channels delay : ℕ) → world.inode ≡ Some inode → world.reader ≡ Some channels → starts_anew (routed_here new i time s) ≡ true → delay ≤ s.policy.delay_max
      → P (started_slot (opened_slot (routed_here new i time s) inode world.head time) delay time) (set_input i channels ++ set_delay i delay)) where
    stays_there : P (slot_at (placed_here new i time s) i) []
    stays_there = subst (λ (x : Slot). P x []) (sym (placed_slot new i time s low sized)) stays

    open_ends : (to : Option Route) → P (slot_at (opened_for to i time world (placed_here new i time s)).inputs i) (opened_for to i time world (placed_here new i time s)).words
    unfolding quiet
    open_ends None = stays_there
    open_ends (Some route) =
        open_outcomes i low (placed_here new i time s) time world (sized_put s i (routed_here new i time s) sized) P stays_there
        (λ inode channels of open-to. subst (λ (x : Slot). P (opened_slot x inode world.head time) (set_input i channels)) (sym (placed_slot new i time s low sized)) (opens inode channels of open-to))
        (λ inode channels delay of open-to anew most.
        subst (λ (x : Slot). P (started_slot (opened_slot x inode world.head time) delay time) (set_input i channels ++ set_delay i delay)) (sym (placed_slot new i time s low sized))
        (starts inode channels delay of open-to (subst (λ (x : Slot). starts_anew x ≡ true) (placed_slot new i time s low sized) anew) (subst (λ (n : ℕ). delay ≤ n) placed_most most)))

    pub moved_outcomes : P (slot_at (moved new i time world s l).inputs i) (moved new i time world s l).words
    unfolding moved followed_by cleared
    moved_outcomes = open_ends new
