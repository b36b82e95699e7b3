-- What `watch` makes of its input's slot, and what it sends. Assumes nothing.
use Rattle.std.specs.Prelude.{None, Option, Some}
use Prim.Native.Nat.{ℕ, ◌≤◌, ◌<◌}
use mathlib.Core.Bool.{true, false}
use mathlib.Core.Path.{◌≡◌, refl, sym, subst}
use mathlib.Core.List.{List, [], ◌++◌}
use lib.Dec.{eqb}
use Rattle.base.specs.Choice.{both}
use Rattle.base.proofs.Choices.{pick_all, pick_rule}
use Rattle.base.proofs.Points.{both_true}
use Rattle.rules_record.specs.declared.Slot.{Slot}
use Rattle.rules_record.specs.declared.Inputs.{Inputs}
use Rattle.rules_record.specs.declared.State.TheVariants.{Stalled}
use Rattle.rules_record.specs.Slots.{is_auto, with_state}
use Rattle.rules_record.specs.Inputs.{slot_at, put_slot}
use Rattle.rules_record.proofs.SlotFrame.{slot_same}
use Rattle.rules_record.proofs.Sized.{sized_put}
use Rattle.rules_record.specs.Sized.{Sized}
use Rattle.base.proofs.Tests.{not_both}
use Rattle.rules_record.specs.Commands.{Done, set_input, clear_input, set_delay, quiet, send_first}
use Rattle.rules_routing.specs.declared.World.{World}
use Rattle.rules_routing.specs.TryOpen.{opened_slot, starts_anew, try_open_of}
use Rattle.rules_routing.proofs.TryOpenOutcomes.{started_slot, open_outcomes}
use Rattle.rules_routing.specs.Watch.{lost_slot, moved_slot, stalls_now, watch_same, watch_stored, watch_seen, watch_routed, watch_slot, watch_of}
use Rattle.rules_record.specs.declared.Route.{Route}

-- a stalled input does not start anew
stalled_starts : (slot : Slot) → starts_anew (with_state slot Stalled) ≡ true → ⊥
unfolding starts_anew
stalled_starts slot h = not_both (both_true false (eqb slot.delay 0) (both_true (is_auto slot.config.extra_delay) (both false (eqb slot.delay 0)) h).1).0 refl

-- To show P of what `watch` leaves, show it of each of its ends.
module _ (i : ℕ) (input : i < 16) (s : Inputs) (h : Sized s) (time : ℕ) (world : World) (P : Slot → List ℕ → Type 0)
    (stays : P (slot_at s i) [])
    (loses : P (lost_slot (slot_at s i)) (clear_input i 0))
    (moves : P (moved_slot (slot_at s i) world.head time) [])
    (opens : (inode channels : ℕ) → world.inode ≡ Some inode → world.reader ≡ Some channels → P (opened_slot (slot_at s i) inode world.head time) (set_input i channels))
    (starts : (inode channels delay : ℕ) → world.inode ≡ Some inode → world.reader ≡ Some channels → starts_anew (slot_at s i) ≡ true → delay ≤ s.policy.delay_max
    → P (started_slot (opened_slot (slot_at s i) inode world.head time) delay time) (set_input i channels ++ set_delay i delay))
    (stalls : stalls_now (slot_at s i) time s.stall ≡ true → P (with_state (slot_at s i) Stalled) [])
    (reopens : (inode channels : ℕ) → stalls_now (slot_at s i) time s.stall ≡ true → world.inode ≡ Some inode → world.reader ≡ Some channels
    → P (opened_slot (with_state (slot_at s i) Stalled) inode world.head time) (set_input i channels)) where
  abbrev Ends : Done → Type 0
  Ends done = P (slot_at done.inputs i) done.words

  ends_put : (slot : Slot) (words : List ℕ) → P slot words → P (slot_at (put_slot s i slot) i) words
  ends_put slot words p = subst (λ (x : Slot). P x words) (sym (slot_same s i slot input h.slots)) p

  ends_open : Ends (try_open_of s i time world)
  ends_open = open_outcomes i input s time world h P stays opens starts

  ends_stalled : stalls_now (slot_at s i) time s.stall ≡ true → Ends (try_open_of (put_slot s i (with_state (slot_at s i) Stalled)) i time world)
  ends_stalled w =
      let slot : Slot = with_state (slot_at s i) Stalled in
      let e : slot_at (put_slot s i slot) i ≡ slot = slot_same s i slot input h.slots in
      open_outcomes i input (put_slot s i slot) time world (sized_put s i slot h) P
      (subst (λ (x : Slot). P x []) (sym e) (stalls w))
      (λ inode channels of to. subst (λ (x : Slot). P (opened_slot x inode world.head time) (set_input i channels)) (sym e) (reopens inode channels w of to))
      (λ inode channels delay of to anew most. absurd (stalled_starts (slot_at s i) (subst (λ (x : Slot). starts_anew x ≡ true) e anew)))

  ends_same : Ends (watch_same (slot_at s i) s i time world)
  unfolding watch_same quiet
  ends_same =
      pick_all Ends (eqb world.head (slot_at s i).last_head)
      (pick_rule Ends (stalls_now (slot_at s i) time s.stall) _ _ ends_stalled (λ w. stays))
      (ends_put _ _ moves)

  ends_stored : (stored : Option ℕ) (inode : ℕ) → Ends (watch_stored stored inode (slot_at s i) s i time world)
  unfolding watch_stored
  ends_stored None inode = ends_open
  ends_stored (Some mine) inode = pick_all Ends (eqb mine inode) ends_same ends_open

  ends_seen : (seen : Option ℕ) → Ends (watch_seen seen (slot_at s i) s i time world)
  unfolding watch_seen send_first quiet
  ends_seen None = ends_put _ _ loses
  ends_seen (Some inode) = ends_stored (slot_at s i).inode inode

  ends_routed : (to : Option Route) (seen : Option ℕ) → Ends (watch_routed to seen (slot_at s i) s i time world)
  unfolding watch_routed quiet
  ends_routed None seen = stays
  ends_routed (Some route) seen = ends_seen seen

  pub watch_outcomes : (seen : Option ℕ) → P (slot_at (watch_of s i time seen world).inputs i) (watch_of s i time seen world).words
  unfolding watch_of watch_slot
  watch_outcomes seen = ends_routed (slot_at s i).route seen
