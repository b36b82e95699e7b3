-- What watching one input leaves alone. Assumes nothing.
use Rattle.std.specs.Prelude.{None, Option, Some}
use Prim.Native.Nat.{ℕ}
use lib.Dec.{eqb}
use Rattle.base.proofs.Choices.{pick_all}
use Rattle.rules_record.specs.declared.Slot.{Slot}
use Rattle.rules_record.specs.declared.Inputs.{Inputs}
use Rattle.rules_record.specs.declared.State.TheVariants.{Stalled}
use Rattle.rules_record.specs.Slots.{with_state}
use Rattle.rules_record.specs.Inputs.{slot_at, put_slot}
use Rattle.rules_record.specs.Commands.{quiet, send_first}
use Rattle.rules_routing.specs.declared.World.{World}
use Rattle.rules_routing.proofs.TryOpenFrame.{Frame, frame_then, frame_put, leaves_quiet, open_leaves, Leaves}
use Rattle.rules_routing.specs.Watch.{stalls_now, watch_same, watch_stored, watch_seen, watch_routed, watch_slot, watch_of}
use Rattle.rules_record.specs.declared.Route.{Route}

module _ (i : ℕ) where
  same_leaves : (slot : Slot) (s : Inputs) (time : ℕ) (world : World) → Leaves i s (watch_same slot s i time world)
  unfolding watch_same quiet
  same_leaves slot s time world =
      pick_all (Leaves i s) (eqb world.head slot.last_head)
      (pick_all (Leaves i s) (stalls_now slot time s.stall) (frame_then i (frame_put i s (with_state slot Stalled)) (open_leaves i (put_slot s i (with_state slot Stalled)) time world)) (leaves_quiet i s))
      (frame_put i s _)

  stored_leaves : (stored : Option ℕ) (inode : ℕ) (slot : Slot) (s : Inputs) (time : ℕ) (world : World) → Leaves i s (watch_stored stored inode slot s i time world)
  unfolding watch_stored
  stored_leaves None inode slot s time world = open_leaves i s time world
  stored_leaves (Some mine) inode slot s time world = pick_all (Leaves i s) (eqb mine inode) (same_leaves slot s time world) (open_leaves i s time world)

  seen_leaves : (seen : Option ℕ) (slot : Slot) (s : Inputs) (time : ℕ) (world : World) → Leaves i s (watch_seen seen slot s i time world)
  unfolding watch_seen send_first quiet
  seen_leaves None slot s time world = frame_put i s _
  seen_leaves (Some inode) slot s time world = stored_leaves slot.inode inode slot s time world

  routed_leaves : (to : Option Route) (seen : Option ℕ) (slot : Slot) (s : Inputs) (time : ℕ) (world : World) → Leaves i s (watch_routed to seen slot s i time world)
  unfolding watch_routed
  routed_leaves None seen slot s time world = leaves_quiet i s
  routed_leaves (Some route) seen slot s time world = seen_leaves seen slot s time world

  pub watch_leaves : (s : Inputs) (time : ℕ) (seen : Option ℕ) (world : World) → Frame i s (watch_of s i time seen world).inputs
  unfolding watch_of watch_slot
  watch_leaves s time seen world = routed_leaves (slot_at s i).route seen (slot_at s i) s time world
