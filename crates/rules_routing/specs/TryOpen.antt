-- `try_open`: the instance, the slot once its reader is open, the delay that it starts with. Assumes nothing.
use Rattle.std.specs.Prelude.{ℕ, ◌+◌, min, Bool, eqb, None, Option, Some}
use Rattle.base.specs.Choice.{pick, both}
use Rattle.delay_hold.specs.Next.{seeded_hold}
use Rattle.rules_record.specs.declared.Slot.{Slot}
use Rattle.rules_record.specs.declared.Instance.{Instance}
use Rattle.rules_record.specs.declared.Inputs.{Inputs}
use Rattle.rules_record.specs.declared.State.TheVariants.{Running}
use Rattle.rules_record.specs.Slots.{is_auto, with_state, with_inode, with_head, with_reopens, with_hold, with_last_input}
use Rattle.rules_record.specs.States.{is_waiting, is_stalled}
use Rattle.rules_record.specs.Inputs.{slot_at, put_slot}
use Rattle.rules_record.specs.Commands.{Done, set_input, quiet, send_first, changed}
use Rattle.rules_record.specs.Flows.{recalled}
use Rattle.rules_record.specs.Instances.{found_key, made}
use Rattle.rules_record.specs.Prune.{pruned}
use Rattle.rules_routing.specs.SetDelay.{set_delay_of}
use Rattle.rules_routing.specs.declared.World.{World}
use Rattle.rules_record.specs.declared.Route.{Route}

-- "If opened: SetInput, inode and head stored; a Stalled input remains Stalled, another is Running with head time now"
-- document 02, §4: "The time of the last SetInput joins the input's record."
unfoldable pub running_slot : (slot : Slot) (inode head time : ℕ) → Slot
running_slot slot inode head time =
    pick (is_stalled slot.state)
    (with_head (with_inode (with_last_input slot time) (Some inode)) head slot.head_changed)
    (with_head (with_state (with_inode (with_last_input slot time) (Some inode)) Running) head time)

-- "Was not Waiting: reopens + 1."
unfoldable pub opened_slot : (slot : Slot) (inode head time : ℕ) → Slot
opened_slot slot inode head time =
    pick (is_waiting slot.state)
    (running_slot slot inode head time)
    (with_reopens (running_slot slot inode head time) (slot.reopens + 1))

-- "Automatic, was Waiting, delay 0 .."
unfoldable pub starts_anew : Slot → Bool
starts_anew slot = both (is_auto slot.config.extra_delay) (both (is_waiting slot.state) (eqb slot.delay 0))

-- the input's hold is seeded
unfoldable pub seeded_at : (i delay time : ℕ) (s : Inputs) → Inputs
seeded_at i delay time s = put_slot s i (with_hold (slot_at s i) (seeded_hold (slot_at s i).hold delay time))

-- ".. set the smaller of it and maximum, and seed"
unfoldable pub start_at : (delay : ℕ) (s : Inputs) (i time : ℕ) → Done
start_at delay s i time = changed (seeded_at i delay time) (set_delay_of s i delay time)

unfoldable pub start_of : (s : Inputs) (i last time : ℕ) → Done
start_of s i last time = start_at (min last s.policy.delay_max) s i time

-- ".. remembered"
unfoldable pub start_by : Option ℕ → (s : Inputs) (i time : ℕ) → Done
start_by None s i time = quiet s
start_by (Some last) s i time = start_of s i last time

-- by the slot as it was before
unfoldable pub recall_of : (slot : Slot) (place : ℕ) (s : Inputs) (i time : ℕ) → Done
recall_of slot place s i time = pick (starts_anew slot) (start_by (recalled s place) s i time) (quiet s)

-- "If opened: SetInput .."
unfoldable pub open_with : (slot : Slot) (channels place inode : ℕ) (s : Inputs) (i time : ℕ) (world : World) → Done
open_with slot channels place inode s i time world =
    send_first (set_input i channels) (recall_of slot place (put_slot s i (opened_slot slot inode world.head time)) i time)

unfoldable pub open_reader : Option ℕ → (place inode : ℕ) (s : Inputs) (i time : ℕ) (world : World) → Done
open_reader None place inode s i time world = quiet s
open_reader (Some channels) place inode s i time world = open_with (slot_at s i) channels place inode s i time world

-- "An instance for (flow, inode) is found or made; not made, false with no pruning."
unfoldable pub open_at : (key : Instance) (s : Inputs) (i time : ℕ) (world : World) → Done
open_at key s i time world =
    pick (found_key s key)
    (open_reader world.reader key.flow key.inode (pruned s (Some key)) i time world)
    (pick world.made
    (open_reader world.reader key.flow key.inode (pruned (made s key) (Some key)) i time world)
    (quiet s))

-- "no inode, false"
unfoldable pub open_seen : Option ℕ → (place : ℕ) (s : Inputs) (i time : ℕ) (world : World) → Done
open_seen None place s i time world = quiet s
open_seen (Some inode) place s i time world = open_at (record { flow = place; inode = inode }) s i time world

unfoldable pub open_routed : Option Route → (s : Inputs) (i time : ℕ) (world : World) → Done
open_routed None s i time world = quiet s
open_routed (Some route) s i time world = open_seen world.inode route.flow s i time world

unfoldable pub try_open_of : (s : Inputs) (i time : ℕ) (world : World) → Done
try_open_of s i time world = open_routed (slot_at s i).route s i time world
