-- The definitions of routing as the code comes to them, each under what leads to it. Assumes nothing.
use Rattle.std.specs.Prelude.{None, Option, Some}
use Prim.Native.Nat.{ℕ, ◌≤◌}
use mathlib.Core.Bool.{Bool, true, false, not}
use mathlib.Core.Path.{◌≡◌, refl, sym, ap, ◌∙◌}
use mathlib.Core.List.{List}
use lib.Dec.{eqb}
use lib.ListN.{length}
use lib.Seq.{sets}
use borrow.Author.Tests.{eq-eqb, ne_eqb}
use Rattle.base.specs.Choice.{both}
use Rattle.base.proofs.All.{both_yes, both_no}
use Rattle.base.proofs.Choices.{yes_pick, no_pick}
use Rattle.rules_record.specs.declared.Route.{Route}
use Rattle.rules_record.specs.declared.State.{State}
use Rattle.rules_record.specs.declared.Slot.{Slot}
use Rattle.rules_record.specs.declared.Inputs.{Inputs}
use Rattle.rules_record.specs.Slots.{with_state, with_route, with_inode, with_delay, with_proposed}
use Rattle.rules_record.specs.Flows.{admits, enrolled, flow_place}
use Rattle.rules_record.specs.Commands.{quiet}
use Rattle.rules_routing.specs.declared.World.{World}
use Rattle.rules_routing.specs.TryOpen.{try_open_of}
use Rattle.rules_calls.specs.declared.Source.{Source}
use Rattle.rules_calls.specs.RouteChecks.{wanted_fits}
use Rattle.rules_calls.specs.Route.{enrolled_for, route_for, equal_route, other_flow, starts_over, started_over, state_for, routed_slot, opened_for}

-- ---- the route that is wanted
module _ (s : Inputs) {wanted : Option Source} {source : Source} (is-from : wanted ≡ Some source) where
  pub fits_from : {fits : Bool} → fits ≡ admits s source.flow → fits ≡ wanted_fits s wanted
  fits_from h = h ∙ sym (ap (wanted_fits s) is-from)

  pub enrolled_from : {r : Inputs} → r ≡ enrolled s source.flow → r ≡ enrolled_for s wanted
  enrolled_from h = h ∙ sym (ap (enrolled_for s) is-from)

  pub route_from : {place : ℕ} → place ≡ flow_place s source.flow → Some (record { domain = source.domain; flow = place }) ≡ route_for s wanted
  route_from h = ap (λ (p : ℕ). Some (record { domain = source.domain; flow = p })) h ∙ sym (ap (route_for s) is-from)

-- ---- beside the route that was
module _ (new old : Option Route) where
  pub equal_none : new ≡ None → false ≡ equal_route new old
  unfolding equal_route
  equal_none e = sym (ap (λ (x : Option Route). equal_route x old) e)

  pub other_none : new ≡ None → {r : Bool} → r ≡ other_flow None old → r ≡ other_flow new old
  other_none e h = h ∙ sym (ap (λ (x : Option Route). other_flow x old) e)

  module _ {to : Route} (is_new : new ≡ Some to) where
    pub equal_unrouted : old ≡ None → false ≡ equal_route new old
    unfolding equal_route
    equal_unrouted e = sym (λ t. equal_route (is_new t) (e t))

    pub other_unrouted : old ≡ None → true ≡ other_flow new old
    unfolding other_flow
    other_unrouted e = sym (λ t. other_flow (is_new t) (e t))

    module _ {from : Route} (is_old : old ≡ Some from) where
      routes_equal : equal_route new old ≡ both (eqb to.domain from.domain) (eqb to.flow from.flow)
      unfolding equal_route
      routes_equal = λ t. equal_route (is_new t) (is_old t)

      pub equal_domain : (to.domain ≡ from.domain → ⊥) → false ≡ equal_route new old
      equal_domain h = both_no _ _ (ne_eqb _ _ h) ∙ sym routes_equal

      pub equal_flow : to.domain ≡ from.domain → eqb to.flow from.flow ≡ equal_route new old
      equal_flow h = both_yes _ _ _ (eq-eqb _ _ h) refl ∙ sym routes_equal

      pub other_flows : not (eqb to.flow from.flow) ≡ other_flow new old
      unfolding other_flow
      other_flows = sym (λ t. other_flow (is_new t) (is_old t))

-- ---- the slot
module _ (new : Option Route) (time : ℕ) (slot : Slot) where
  module _ {over : Bool} (is-over : over ≡ starts_over new slot) where
    pub over_yes : over ≡ true → with_proposed (with_delay slot 0 time) None ≡ started_over new time slot
    unfolding started_over
    over_yes told = sym (yes_pick _ _ (sym is-over ∙ told))

    pub over_no : over ≡ false → slot ≡ started_over new time slot
    unfolding started_over
    over_no told = sym (no_pick _ _ (sym is-over ∙ told))

  pub routed_by : {over : Slot} {state : State} → over ≡ started_over new time slot → state ≡ state_for new → with_state (with_inode (with_route over new) None) state ≡ routed_slot new time slot
  unfolding routed_slot
  routed_by e f = λ t. with_state (with_inode (with_route (e t) new) None) (f t)

-- ---- the commands
-- so many words were written from the start on
abbrev pub Wrote : (most : ℕ) → List ℕ → (used : ℕ) → (before after : List ℕ) → Type 0
Wrote most words used before after = (used ≡ length words) × (after ≡ sets before 0 words) × (length words ≤ most)

-- ---- opening
module _ (i time : ℕ) (world : World) (s : Inputs) {new : Option Route} where
  pub open_none : new ≡ None → opened_for new i time world s ≡ quiet s
  open_none e = ap (λ (x : Option Route). opened_for x i time world s) e

  pub open_new : {route : Route} → new ≡ Some route → opened_for new i time world s ≡ try_open_of s i time world
  open_new e = ap (λ (x : Option Route). opened_for x i time world s) e
