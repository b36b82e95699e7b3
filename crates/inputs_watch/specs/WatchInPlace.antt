-- What `watch` finds of an input's flow, by its tests in their order, and what it does then. `proofs/Finding` shows it alike with `watch_of`. Assumes nothing.
use Rattle.std.specs.Prelude.{ℕ, ◌==◌, None, Option, Some}
use Rattle.base.specs.Choice.{pick}
use Rattle.rules_record.specs.declared.Slot.{Slot}
use Rattle.rules_record.specs.declared.Inputs.{Inputs}
use Rattle.rules_record.specs.declared.State.TheVariants.{Stalled}
use Rattle.rules_record.specs.Slots.{with_state}
use Rattle.rules_record.specs.Inputs.{put_slot}
use Rattle.rules_record.specs.Commands.{Done, clear_input, quiet, send_first}
use Rattle.rules_routing.specs.declared.World.{World}
use Rattle.rules_routing.specs.TryOpen.{try_open_of}
use Rattle.rules_routing.specs.Watch.{lost_slot, moved_slot, stalls_now}
use Rattle.inputs_watch.specs.declared.Found.{Found}
use Rattle.inputs_watch.specs.declared.Found.TheVariants.{Unwatched, Lost, Created, Moved, Still}
use Rattle.rules_record.specs.declared.Route.{Route}

abbrev pub found_by : Option Route → (seen stored : Option ℕ) (last head : ℕ) → Found
found_by None seen stored last head = Unwatched
found_by (Some route) None stored last head = Lost
found_by (Some route) (Some inode) None last head = Created
found_by (Some route) (Some inode) (Some mine) last head = pick (mine == inode) (pick (head == last) Still Moved) Created

abbrev pub watch_found : Found → (slot : Slot) (s : Inputs) (i time : ℕ) (world : World) → Done
watch_found Unwatched slot s i time world = quiet s
watch_found Lost slot s i time world = send_first (clear_input i 0) (quiet (put_slot s i (lost_slot slot)))
watch_found Created slot s i time world = try_open_of s i time world
watch_found Moved slot s i time world = quiet (put_slot s i (moved_slot slot world.head time))
watch_found Still slot s i time world = pick (stalls_now slot time s.stall) (try_open_of (put_slot s i (with_state slot Stalled)) i time world) (quiet s)
