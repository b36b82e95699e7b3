-- `watch`: a flow that is gone, created anew, moves or stands still. Assumes nothing.
use Rattle.std.specs.Prelude.{ℕ, ◌+◌, ◌-◌, Bool, eqb, leb, None, Option, Some}
use Rattle.base.specs.Choice.{pick, both}
use Rattle.rules_record.specs.declared.Slot.{Slot}
use Rattle.rules_record.specs.declared.Inputs.{Inputs}
use Rattle.rules_record.specs.declared.State.TheVariants.{Waiting, Running, Stalled}
use Rattle.rules_record.specs.Slots.{with_state, with_head, with_reopens}
use Rattle.rules_record.specs.States.{is_running, is_stalled}
use Rattle.rules_record.specs.Inputs.{slot_at, put_slot}
use Rattle.rules_record.specs.Commands.{Done, clear_input, quiet, send_first}
use Rattle.rules_routing.specs.declared.World.{World}
use Rattle.rules_routing.specs.TryOpen.{try_open_of}
use Rattle.rules_record.specs.declared.Route.{Route}

-- "No inode: .. Waiting, reopens + 1."
unfoldable pub lost_slot : Slot → Slot
lost_slot slot = with_reopens (with_state slot Waiting) (slot.reopens + 1)

-- "New head: stored, Stalled becomes Running."
unfoldable pub moved_slot : (slot : Slot) (head time : ℕ) → Slot
moved_slot slot head time = pick (is_stalled slot.state) (with_state (with_head slot head time) Running) (with_head slot head time)

-- "while Running for at least stall"; a difference is 0 where the clock went back
unfoldable pub stalls_now : (slot : Slot) (time stall : ℕ) → Bool
stalls_now slot time stall = both (is_running slot.state) (leb stall (time - slot.head_changed))

-- "New head: .. Same head while Running for at least stall: Stalled, `try_open`."
unfoldable pub watch_same : (slot : Slot) (s : Inputs) (i time : ℕ) (world : World) → Done
watch_same slot s i time world =
    pick (eqb world.head slot.last_head)
    (pick (stalls_now slot time s.stall) (try_open_of (put_slot s i (with_state slot Stalled)) i time world) (quiet s))
    (quiet (put_slot s i (moved_slot slot world.head time)))

-- "Other inode: `try_open`; either ends `watch`." by the inode that is stored
unfoldable pub watch_stored : Option ℕ → (inode : ℕ) (slot : Slot) (s : Inputs) (i time : ℕ) (world : World) → Done
watch_stored None inode slot s i time world = try_open_of s i time world
watch_stored (Some mine) inode slot s i time world = pick (eqb mine inode) (watch_same slot s i time world) (try_open_of s i time world)

-- "No inode: ClearInput without forget .." by the inode that is seen
unfoldable pub watch_seen : Option ℕ → (slot : Slot) (s : Inputs) (i time : ℕ) (world : World) → Done
watch_seen None slot s i time world = send_first (clear_input i 0) (quiet (put_slot s i (lost_slot slot)))
watch_seen (Some inode) slot s i time world = watch_stored slot.inode inode slot s i time world

-- "An input without a route ends `watch` there."
unfoldable pub watch_routed : Option Route → (seen : Option ℕ) (slot : Slot) (s : Inputs) (i time : ℕ) (world : World) → Done
watch_routed None seen slot s i time world = quiet s
watch_routed (Some route) seen slot s i time world = watch_seen seen slot s i time world

unfoldable pub watch_slot : (slot : Slot) (seen : Option ℕ) (s : Inputs) (i time : ℕ) (world : World) → Done
watch_slot slot seen s i time world = watch_routed slot.route seen slot s i time world

unfoldable pub watch_of : (s : Inputs) (i time : ℕ) (seen : Option ℕ) (world : World) → Done
watch_of s i time seen world = watch_slot (slot_at s i) seen s i time world
