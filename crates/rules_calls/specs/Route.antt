-- Document 01, "Supervision": what `route` does to an input. Assumes nothing.
use Rattle.std.specs.Prelude.{ℕ, Bool, true, false, not, List, [], ◌++◌, eqb, None, Option, Some}
use Rattle.base.specs.Choice.{pick, both}
use Rattle.rules_record.specs.declared.State.{State}
use Rattle.rules_record.specs.declared.State.TheVariants.{Unrouted, Waiting}
use Rattle.rules_record.specs.declared.Slot.{Slot}
use Rattle.rules_record.specs.declared.Inputs.{Inputs}
use Rattle.rules_record.specs.Slots.{is_auto, with_state, with_route, with_inode, with_delay, with_proposed}
use Rattle.rules_record.specs.Inputs.{slot_at}
use Rattle.rules_record.specs.Flows.{enrolled, flow_place}
use Rattle.rules_record.specs.Commands.{Done, clear_input, set_delay, quiet}
use Rattle.rules_routing.specs.declared.World.{World}
use Rattle.rules_routing.specs.TryOpen.{try_open_of}
use Rattle.rules_record.specs.Lent.{Lists}
use Rattle.rules_record.specs.Effects.{Effect, silent, beside, followed_by}
use Rattle.rules_routing.specs.Clear.{cleared}
use Rattle.rules_calls.specs.declared.Source.{Source}
use Rattle.rules_record.specs.declared.Route.{Route}

-- ---- the route that is wanted
-- "Routes .. enrol flows"
abbrev pub enrolled_for : (s : Inputs) → Option Source → Inputs
enrolled_for s None = s
enrolled_for s (Some source) = enrolled s source.flow

-- a route names its flow by its place in the flow table
abbrev pub route_for : (s : Inputs) → Option Source → Option Route
route_for s None = None
route_for s (Some source) = Some (record { domain = source.domain; flow = flow_place s source.flow })

-- ---- the route that was
-- "an equal route on a routed input"
unfoldable pub equal_route : Option Route → (old : Option Route) → Bool
equal_route None old = false
equal_route (Some new) None = false
equal_route (Some new) (Some old) = both (eqb new.domain old.domain) (eqb new.flow old.flow)

-- "another flow": also from none to one or from one to none; not the same one in another domain
unfoldable pub other_flow : Option Route → Option Route → Bool
other_flow None None = false
other_flow None (Some old) = true
other_flow (Some new) None = true
other_flow (Some new) (Some old) = not (eqb new.flow old.flow)

-- "another flow, automatic, delay not 0"
unfoldable pub starts_over : (new : Option Route) (slot : Slot) → Bool
starts_over new slot = both (other_flow new slot.route) (both (is_auto slot.config.extra_delay) (not (eqb slot.delay 0)))

-- ---- what is sent before the new flow opens
-- "an old route sends ClearInput with forget"
abbrev pub forgetting : (i : ℕ) → Option Route → List ℕ
forgetting i None = []
forgetting i (Some old) = clear_input i 1

-- ".. SetDelay 0"
unfoldable pub zeroing : (i : ℕ) (new : Option Route) (slot : Slot) → List ℕ
zeroing i new slot = pick (starts_over new slot) (set_delay i 0) []

-- ---- the slot
-- ".. delay 0, proposal gone, SetDelay 0, nothing remembered"
unfoldable pub started_over : (new : Option Route) (time : ℕ) (slot : Slot) → Slot
started_over new time slot = pick (starts_over new slot) (with_proposed (with_delay slot 0 time) None) slot

-- "Waiting .., or Unrouted"
abbrev pub state_for : Option Route → State
state_for None = Unrouted
state_for (Some new) = Waiting

-- "Then inode, window and hold are cleared" (the last two below)
unfoldable pub routed_slot : (new : Option Route) (time : ℕ) (slot : Slot) → Slot
routed_slot new time slot = with_state (with_inode (with_route (started_over new time slot) new) None) (state_for new)

-- ---- the call
-- ".. and `try_open`"
abbrev pub opened_for : Option Route → (i time : ℕ) (world : World) (s : Inputs) → Done
opened_for None i time world s = quiet s
opened_for (Some new) i time world s = try_open_of s i time world

-- "Then inode, window and hold are cleared; Waiting and `try_open`, or Unrouted."
unfoldable pub moved : (new : Option Route) (i time : ℕ) (world : World) (s : Inputs) (l : Lists) → Effect
moved new i time world s l = followed_by (cleared i (routed_slot new time (slot_at s i)) s l) (λ z m. beside m (opened_for new i time world z))

-- the words are sent first
abbrev pub sending : (words : List ℕ) (effect : Effect) → Effect
sending words effect = record { inputs = effect.inputs; lists = effect.lists; words = words ++ effect.words }

unfoldable pub rerouted : (new : Option Route) (i time : ℕ) (world : World) (s : Inputs) (l : Lists) → Effect
rerouted new i time world s l =
    sending (forgetting i (slot_at s i).route) (sending (zeroing i new (slot_at s i)) (moved new i time world s l))

-- "`route`: an equal route on a routed input does nothing."
unfoldable pub routed_to : (new : Option Route) (i time : ℕ) (world : World) (s : Inputs) (l : Lists) → Effect
routed_to new i time world s l = pick (equal_route new (slot_at s i).route) (silent s l) (rerouted new i time world s l)

unfoldable pub routed : (i : ℕ) (wanted : Option Source) (time : ℕ) (world : World) (s : Inputs) (l : Lists) → Effect
routed i wanted time world s l = routed_to (route_for (enrolled_for s wanted) wanted) i time world (enrolled_for s wanted) l
