-- What `watch` does by what it finds is `watch_of`. Assumes nothing.
use Rattle.std.specs.Prelude.{◌≡◌, ℕ, Bool, true, false, eqb, None, Option, Some}
use mathlib.Core.Path.{refl, sym, ap, ◌∙◌}
use Rattle.base.specs.Choice.{pick}
use Rattle.base.proofs.Choices.{no_pick}
use Rattle.rules_record.specs.declared.Slot.{Slot}
use Rattle.rules_record.specs.declared.Route.{Route}
use Rattle.rules_record.specs.declared.Inputs.{Inputs}
use Rattle.rules_record.specs.Inputs.{slot_at, put_slot}
use Rattle.rules_record.specs.Commands.{clear_input, quiet, send_first}
use Rattle.rules_routing.specs.declared.World.{World}
use Rattle.rules_routing.specs.TryOpen.{try_open_of}
use Rattle.rules_routing.specs.Watch.{lost_slot, moved_slot, stalls_now, watch_same, watch_stored, watch_seen, watch_routed, watch_slot, watch_of}
use Rattle.inputs_watch.specs.declared.Found.{Found}
use Rattle.inputs_watch.specs.declared.Found.TheVariants.{Lost, Created, Moved, Still}
use Rattle.inputs_watch.specs.WatchInPlace.{found_by, watch_found}

-- ---- what is done then
module _ (slot : Slot) (s : Inputs) (i time : ℕ) (world : World) where
  pub still_stays : stalls_now slot time s.stall ≡ false → watch_found Still slot s i time world ≡ quiet s
  still_stays h = no_pick _ _ h

  pub found_lost : {waits : Slot} {all : Inputs} → waits ≡ lost_slot slot → all ≡ put_slot s i waits → watch_found Lost slot s i time world ≡ send_first (clear_input i 0) (quiet all)
  found_lost e f = ap (λ (z : Inputs). send_first (clear_input i 0) (quiet z)) (sym (f ∙ ap (put_slot s i) e))

  pub found_moved : {moved : Slot} {all : Inputs} → moved ≡ moved_slot slot world.head time → all ≡ put_slot s i moved → watch_found Moved slot s i time world ≡ quiet all
  found_moved e f = ap quiet (sym (f ∙ ap (put_slot s i) e))

  -- the tests in their order
  by_head : (same : Bool) → pick same (watch_found Still slot s i time world) (watch_found Moved slot s i time world) ≡ watch_found (pick same Still Moved) slot s i time world
  by_head true = refl
  by_head false = refl

  by_inode : (same : Bool) → pick same (watch_same slot s i time world) (try_open_of s i time world) ≡ watch_found (pick same (pick (eqb world.head slot.last_head) Still Moved) Created) slot s i time world
  unfolding watch_same
  by_inode true = by_head (eqb world.head slot.last_head)
  by_inode false = refl

  by_stored : (route : Route) (inode : ℕ) (stored : Option ℕ) → watch_stored stored inode slot s i time world ≡ watch_found (found_by (Some route) (Some inode) stored slot.last_head world.head) slot s i time world
  unfolding watch_stored
  by_stored route inode None = refl
  by_stored route inode (Some mine) = by_inode (eqb mine inode)

  by_seen : (route : Route) (seen : Option ℕ) → watch_seen seen slot s i time world ≡ watch_found (found_by (Some route) seen slot.inode slot.last_head world.head) slot s i time world
  unfolding watch_seen
  by_seen route None = refl
  by_seen route (Some inode) = by_stored route inode slot.inode

  by_route : (to : Option Route) (seen : Option ℕ) → watch_routed to seen slot s i time world ≡ watch_found (found_by to seen slot.inode slot.last_head world.head) slot s i time world
  unfolding watch_routed
  by_route None seen = refl
  by_route (Some route) seen = by_seen route seen

  -- what is found, and what that comes to
  module _ (seen : Option ℕ) (is-slot : slot ≡ slot_at s i) {found : Found} (is_found : found ≡ found_by slot.route seen slot.inode slot.last_head world.head) where
    pub watch_by : {answer : Found} → found ≡ answer → watch_of s i time seen world ≡ watch_found answer slot s i time world
    unfolding watch_of watch_slot
    watch_by e =
        ap (λ (x : Slot). watch_slot x seen s i time world) (sym is-slot)
        ∙ by_route slot.route seen
        ∙ ap (λ (f : Found). watch_found f slot s i time world) (sym is_found ∙ e)
