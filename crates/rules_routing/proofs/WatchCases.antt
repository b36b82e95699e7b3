-- The definitions of watching as the code comes to them, each under what leads to it. Assumes nothing.
use Rattle.std.specs.Prelude.{None, Option, Some, ◌+◌}
use Prim.Native.Nat.{ℕ, ◌-◌, ◌<◌, ◌^◌}
use mathlib.Core.Bool.{true, false}
use mathlib.Core.Path.{◌≡◌, sym, ap, subst, ◌∙◌}
use lib.Dec.{eqb, leb}
use borrow.Author.Tests.{eq-eqb, ne_eqb}
use Rattle.base.specs.Choice.{pick, both}
use Rattle.base.proofs.Choices.{yes_pick, no_pick}
use Rattle.rules_record.specs.declared.Slot.{Slot}
use Rattle.rules_record.specs.declared.Route.{Route}
use Rattle.rules_record.specs.declared.Inputs.{Inputs}
use Rattle.rules_record.specs.declared.State.TheVariants.{Running, Stalled, Waiting}
use Rattle.rules_record.specs.Slots.{with_state, with_head, with_reopens}
use Rattle.rules_record.specs.States.{state_number}
use Rattle.rules_record.specs.Inputs.{slot_at, put_slot}
use Rattle.rules_record.proofs.SlotFrame.{slot_put}
use Rattle.rules_record.specs.Commands.{clear_input, quiet, send_first}
use Rattle.rules_routing.specs.declared.World.{World}
use Rattle.rules_routing.specs.TryOpen.{try_open_of}
use Rattle.rules_routing.specs.Watch.{lost_slot, moved_slot, stalls_now, watch_same, watch_stored, watch_seen, watch_routed, watch_slot, watch_of}

-- ---- the slot
pub lost_by : (slot : Slot) {waits r : Slot} → waits ≡ with_state slot Waiting → r ≡ with_reopens waits (slot.reopens + 1) → r ≡ lost_slot slot
unfolding lost_slot
lost_by slot e f = f ∙ ap (λ (x : Slot). with_reopens x (slot.reopens + 1)) e

module _ (slot : Slot) (head time : ℕ) {number : ℕ} (code : number ≡ state_number slot.state) where
  pub moved_stalled : number ≡ 3 → with_state (with_head slot head time) Running ≡ moved_slot slot head time
  unfolding moved_slot
  moved_stalled h = sym (yes_pick _ _ (eq-eqb _ _ (sym code ∙ h)))

  pub moved_other : (number ≡ 3 → ⊥) → with_head slot head time ≡ moved_slot slot head time
  unfolding moved_slot
  moved_other h = sym (no_pick _ _ (ne_eqb _ _ (λ q. h (code ∙ q))))

-- a running input stalls where it had the same head for `stall`
pub stalls_running : (slot : Slot) (time stall : ℕ) → state_number slot.state ≡ 2 → leb stall (time - slot.head_changed) ≡ stalls_now slot time stall
unfolding stalls_now both
stalls_running slot time stall h = sym (yes_pick _ _ (eq-eqb _ _ h))

-- the count of reopens stays where an input stalls
pub stalled_reopens : (s : Inputs) (i : ℕ) (slot : Slot) {all : Inputs} → all ≡ put_slot s i (with_state slot Stalled) → (slot_at s i).reopens < 2 ^ 63 → slot.reopens < 2 ^ 63 → (slot_at all i).reopens < 2 ^ 63
stalled_reopens s i slot e old new = subst (λ (z : Inputs). (slot_at z i).reopens < 2 ^ 63) (sym e) (slot_put s i (with_state slot Stalled) (λ (x : Slot). x.reopens < 2 ^ 63) new old)

-- ---- the head
module _ (slot : Slot) (s : Inputs) (i time : ℕ) (world : World) where
  pub head_moved : (world.head ≡ slot.last_head → ⊥) → {seen : Slot} {all : Inputs} → seen ≡ moved_slot slot world.head time → all ≡ put_slot s i seen → watch_same slot s i time world ≡ quiet all
  unfolding watch_same
  head_moved h e f = no_pick _ _ (ne_eqb _ _ h) ∙ ap quiet (sym (f ∙ ap (put_slot s i) e))

  module _ (same : world.head ≡ slot.last_head) where
    pub head_stalls : stalls_now slot time s.stall ≡ true → {stalled : Slot} {all : Inputs} → stalled ≡ with_state slot Stalled → all ≡ put_slot s i stalled → watch_same slot s i time world ≡ try_open_of all i time world
    unfolding watch_same
    head_stalls h e f = yes_pick _ _ (eq-eqb _ _ same) ∙ yes_pick _ _ h ∙ ap (λ (z : Inputs). try_open_of z i time world) (sym (f ∙ ap (put_slot s i) e))

    pub head_stays : stalls_now slot time s.stall ≡ false → watch_same slot s i time world ≡ quiet s
    unfolding watch_same
    head_stays h = yes_pick _ _ (eq-eqb _ _ same) ∙ no_pick _ _ h

-- ---- the route and the inode
module _ (s : Inputs) (i time : ℕ) (inode : Option ℕ) (world : World) {slot : Slot} (e : slot ≡ slot_at s i) where
  by_route : watch_of s i time inode world ≡ watch_routed slot.route inode slot s i time world
  unfolding watch_of watch_slot
  by_route = ap (λ (x : Slot). watch_slot x inode s i time world) (sym e)

  pub watch_nowhere : slot.route ≡ None → watch_of s i time inode world ≡ quiet s
  unfolding watch_routed
  watch_nowhere h = by_route ∙ ap (λ (x : Option Route). watch_routed x inode slot s i time world) h

  module _ {route : Route} (to : slot.route ≡ Some route) where
    by_seen : watch_of s i time inode world ≡ watch_seen inode slot s i time world
    unfolding watch_routed
    by_seen = by_route ∙ ap (λ (x : Option Route). watch_routed x inode slot s i time world) to

    pub watch_gone : inode ≡ None → {waits : Slot} {all : Inputs} → waits ≡ lost_slot slot → all ≡ put_slot s i waits → watch_of s i time inode world ≡ send_first (clear_input i 0) (quiet all)
    unfolding watch_seen
    watch_gone h f g =
        by_seen
        ∙ ap (λ (x : Option ℕ). watch_seen x slot s i time world) h
        ∙ ap (λ (z : Inputs). send_first (clear_input i 0) (quiet z)) (sym (g ∙ ap (put_slot s i) f))

    module _ {seen : ℕ} (of : inode ≡ Some seen) where
      by_stored : watch_of s i time inode world ≡ watch_stored slot.inode seen slot s i time world
      unfolding watch_seen
      by_stored = by_seen ∙ ap (λ (x : Option ℕ). watch_seen x slot s i time world) of

      pub watch_first : slot.inode ≡ None → watch_of s i time inode world ≡ try_open_of s i time world
      unfolding watch_stored
      watch_first h = by_stored ∙ ap (λ (x : Option ℕ). watch_stored x seen slot s i time world) h

      module _ {mine : ℕ} (stored : slot.inode ≡ Some mine) where
        compared : watch_of s i time inode world ≡ pick (eqb mine seen) (watch_same slot s i time world) (try_open_of s i time world)
        unfolding watch_stored
        compared = by_stored ∙ ap (λ (x : Option ℕ). watch_stored x seen slot s i time world) stored

        pub watch_other : (mine ≡ seen → ⊥) → watch_of s i time inode world ≡ try_open_of s i time world
        watch_other h = compared ∙ no_pick _ _ (ne_eqb _ _ h)

        pub watch_same_law : mine ≡ seen → watch_of s i time inode world ≡ watch_same slot s i time world
        watch_same_law h = compared ∙ yes_pick _ _ (eq-eqb _ _ h)
