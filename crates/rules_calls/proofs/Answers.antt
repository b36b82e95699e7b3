-- What `route` and `status` come to where they do little, and `settled` at its edges, in the papers' words. Assumes nothing.
use Rattle.std.specs.Prelude.{None, Option, Some}
use Prim.Native.Nat.{ℕ}
use mathlib.Core.Bool.{true, false, not}
use mathlib.Core.Path.{◌≡◌, refl, sym, ap}
use mathlib.Core.List.{List, [], ◌∷◌}
use lib.ListN.{length}
use Rattle.base.specs.Choice.{both}
use Rattle.base.proofs.Choices.{yes_pick, no_pick, pick_all}
use Rattle.base.proofs.Points.{true_both}
use borrow.Author.Tests.{ne_eqb}
use Rattle.rules_record.specs.declared.State.{State}
use Rattle.rules_record.specs.declared.State.TheVariants.{Unrouted, Waiting, Running, Stalled}
use Rattle.rules_record.specs.declared.Route.{Route}
use Rattle.rules_record.specs.declared.Slot.{Slot}
use Rattle.rules_record.specs.declared.Inputs.{Inputs}
use Rattle.rules_record.specs.Slots.{is_auto, empty_slot, with_state, with_delay, with_last_input}
use Rattle.rules_record.specs.Inputs.{slot_at}
use Rattle.rules_record.specs.Commands.{set_delay}
use Rattle.rules_record.specs.Lent.{Lists}
use Rattle.rules_record.specs.Effects.{silent}
use Rattle.rules_routing.specs.declared.World.{World}
use Rattle.rules_calls.specs.Route.{equal_route, other_flow, starts_over, forgetting, zeroing, started_over, routed_slot, routed_to}
use Rattle.rules_calls.specs.RouteChecks.{route_number}
use Rattle.rules_calls.specs.RouteReply.{route_reply}
use Rattle.rules_calls.specs.Status.{channels_shown, worst_ms}
use Rattle.rules_calls.specs.Settled.{settled_slot}
use Rattle.rules_calls.proofs.RouteReplies.{route_refused}
use Rattle.rules_calls.specs.declared.Source.{Source}

-- ---- `route`
-- "an equal route on a routed input does nothing"
pub equal_route_nothing : (new : Option Route) (i time : ℕ) (world : World) (s : Inputs) (l : Lists) → equal_route new (slot_at s i).route ≡ true → routed_to new i time world s l ≡ silent s l
unfolding routed_to
equal_route_nothing new i time world s l equal = yes_pick _ _ equal

-- "another flow, automatic, delay not 0: .. SetDelay 0": none after a flow is another too
pub leaving_sets_zero : (i : ℕ) (slot : Slot) {old : Route} → slot.route ≡ Some old → is_auto slot.config.extra_delay ≡ true → (slot.delay ≡ 0 → ⊥) → zeroing i None slot ≡ set_delay i 0
unfolding zeroing starts_over other_flow
leaving_sets_zero i slot from auto some =
    yes_pick _ _
    (true_both _ _ (ap (other_flow None) from)
    (true_both _ _ auto (ap not (ne_eqb _ _ some))))

-- "an old route sends ClearInput with forget": kind 2, the input, 1
pub old_route_forgotten : (i : ℕ) (old : Route) → forgetting i (Some old) ≡ 2 ∷ i ∷ 1 ∷ []
old_route_forgotten i old = refl

-- document 02, §4, of the time of the last SetInput: ClearInput, SetDelay 0 and the new route leave it; where the new flow opens, `try_open` stores its own
pub routing_leaves_the_opening : (new : Option Route) (time : ℕ) (slot : Slot) → (routed_slot new time slot).last_input ≡ slot.last_input
unfolding routed_slot started_over
routing_leaves_the_opening new time slot = pick_all (λ (x : Slot). x.last_input ≡ slot.last_input) (starts_over new slot) refl refl

-- "a no ends it with that number .. and record and buffers unchanged"
pub refused_route_leaves : (s : Inputs) (l : Lists) (commands : List ℕ) (input : ℕ) (wanted : Option Source) (time : ℕ) (world : World) → (route_number s l (length commands) input wanted time world ≡ 0 → ⊥)
    → route_reply s l commands input wanted time world ≡ record { number = route_number s l (length commands) input wanted time world; inputs = s; lists = l; commands = commands }
refused_route_leaves s l commands input wanted time world refused = sym (route_refused s l commands input wanted time world refl refused)

-- ---- `status`
-- "channels (0 if Unrouted)"
pub channels_unrouted : (channels : ℕ) → channels_shown Unrouted channels ≡ 0
unfolding channels_shown
channels_unrouted channels = refl

pub channels_routed : (state : State) → (state ≡ Unrouted → ⊥) → (channels : ℕ) → channels_shown state channels ≡ channels
unfolding channels_shown
channels_routed Unrouted routed channels = absurd (routed refl)
channels_routed Waiting routed channels = refl
channels_routed Running routed channels = refl
channels_routed Stalled routed channels = refl

-- "of the greatest peak if automatic": a manual input shows none
pub worst_of_manual : (slot : Slot) (lags : List ℕ) → is_auto slot.config.extra_delay ≡ false → worst_ms slot lags ≡ None
unfolding worst_ms
worst_of_manual slot lags manual = no_pick _ _ manual

-- ---- `settled`
-- document 02, §4, of a Running input with hold 10: "neither a SetDelay nor a SetInput went to the input within the last hold (the last of each is at least hold old, or none ever went)"
abbrev running : Slot
running = with_state empty_slot Running

pub settled_at_its_edges :
    -- none ever went; only a SetDelay, at 5; only a SetInput, at 5, and then a clock that went back
    settled_slot running 10 0
    ∷ settled_slot (with_delay running 0 5) 10 14
    ∷ settled_slot (with_delay running 0 5) 10 15
    ∷ settled_slot (with_last_input running 5) 10 14
    ∷ settled_slot (with_last_input running 5) 10 15
    ∷ settled_slot (with_last_input running 5) 10 4
    -- the SetDelay is the older one, the SetInput is
    ∷ settled_slot (with_last_input (with_delay running 96 3) 5) 10 14
    ∷ settled_slot (with_last_input (with_delay running 96 3) 5) 10 15
    ∷ settled_slot (with_last_input (with_delay running 96 5) 3) 10 14
    ∷ settled_slot (with_last_input (with_delay running 96 5) 3) 10 15
    ∷ []
    ≡ true ∷ false ∷ true ∷ false ∷ true ∷ false ∷ false ∷ true ∷ false ∷ true ∷ []
unfolding both empty_slot settled_slot
settled_at_its_edges = refl

-- "exactly if Running"; with hold 0 a Running input is settled at once
pub settled_only_running :
    settled_slot (with_state empty_slot Unrouted) 10 100
    ∷ settled_slot (with_state empty_slot Waiting) 10 100
    ∷ settled_slot (with_state empty_slot Stalled) 10 100
    ∷ settled_slot (with_last_input (with_delay running 96 5) 5) 0 5
    ∷ []
    ≡ false ∷ false ∷ false ∷ true ∷ []
unfolding both empty_slot settled_slot
settled_only_running = refl
