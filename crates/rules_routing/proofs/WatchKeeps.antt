-- `watch` keeps a checked record checked, where one more reopen is below 2^63. Assumes nothing.
use Rattle.std.specs.Prelude.{None, Option, Some}
use Prim.Native.Nat.{ℕ, ◌+◌, ◌<◌, ◌≤◌}
use mathlib.Core.Bool.{true}
use mathlib.Core.Path.{◌≡◌, refl, sym, subst}
use native.Mathlib.Omega.{arith}
use lib.Dec.{eqb}
use Rattle.base.specs.Limits.{time_limit, counter_limit}
use Rattle.base.proofs.Choices.{pick_all}
use Rattle.rules_record.specs.declared.State.{State}
use Rattle.rules_record.specs.declared.State.TheVariants.{Waiting, Running, Stalled}
use Rattle.rules_record.specs.declared.Slot.{Slot}
use Rattle.rules_record.specs.declared.Inputs.{Inputs}
use Rattle.rules_record.specs.Slots.{with_state, with_head}
use Rattle.rules_record.specs.States.{state_number, is_stalled}
use Rattle.rules_record.specs.Inputs.{slot_at, put_slot}
use Rattle.rules_record.proofs.SlotFrame.{slot_same}
use Rattle.rules_record.specs.Commands.{Done, quiet, send_first}
use Rattle.rules_routing.specs.declared.World.{World}
use Rattle.rules_routing.specs.TryOpen.{try_open_of}
use Rattle.rules_routing.specs.Watch.{lost_slot, moved_slot, stalls_now, watch_same, watch_stored, watch_seen, watch_routed, watch_slot, watch_of}
use Rattle.rules_record.specs.Lent.{Lists}
use Rattle.rules_record.specs.WholePlaces.{route_fits}
use Rattle.rules_record.specs.Facts.{WholeSlot, Checked}
use Rattle.rules_record.proofs.Keep.{slot_keeps}
use Rattle.rules_routing.proofs.SettingsKept.{settings_put}
use Rattle.rules_routing.proofs.TryOpenKeeps.{routed_state, route_state, reopens_fit, open_keeps}
use Rattle.rules_record.specs.declared.Route.{Route}

-- ---- the slot
module _ (maximum n : ℕ) (slot : Slot) (w : WholeSlot maximum n slot) where
  pub head_fits : (head time : ℕ) → time ≤ time_limit → WholeSlot maximum n (with_head slot head time)
  head_fits head time soon =
      record { delay = w.delay; proposed = w.proposed; route = w.route; reopens = w.reopens; changes = w.changes; lates = w.lates; head = soon; set = w.set; opened = w.opened }

  -- a routed input changes to another state of a routed one
  pub state_fits : (state : State) → 1 ≤ state_number slot.state → 1 ≤ state_number state → WholeSlot maximum n (with_state slot state)
  state_fits state old new =
      record {
        delay = w.delay;
        proposed = w.proposed;
        route = route_state slot.route slot.state state n old new w.route;
        reopens = w.reopens;
        changes = w.changes;
        lates = w.lates;
        head = w.head;
        set = w.set;
        opened = w.opened;
      }

  lost_fits : 1 ≤ state_number slot.state → slot.reopens + 1 < counter_limit → WholeSlot maximum n (lost_slot slot)
  unfolding lost_slot
  lost_fits routed few = reopens_fit maximum n (with_state slot Waiting) (state_fits Waiting routed (omega arith)) (slot.reopens + 1) few

moved_fits : (maximum n : ℕ) (slot : Slot) (head time : ℕ) → WholeSlot maximum n slot → 1 ≤ state_number slot.state → time ≤ time_limit → WholeSlot maximum n (moved_slot slot head time)
unfolding moved_slot
moved_fits maximum n slot head time w routed soon =
    pick_all (WholeSlot maximum n) (is_stalled slot.state)
    (state_fits maximum n (with_head slot head time) (head_fits maximum n slot w head time soon) Running routed (omega arith))
    (head_fits maximum n slot w head time soon)

module _ (slot : Slot) (head time : ℕ) where
  pub moved_seconds : (moved_slot slot head time).lag_seconds ≡ slot.lag_seconds
  unfolding moved_slot
  moved_seconds = pick_all (λ (x : Slot). x.lag_seconds ≡ slot.lag_seconds) (is_stalled slot.state) refl refl

  pub moved_hold : (moved_slot slot head time).hold ≡ slot.hold
  unfolding moved_slot
  moved_hold = pick_all (λ (x : Slot). x.hold ≡ slot.hold) (is_stalled slot.state) refl refl

pub moved_delay : (slot : Slot) (head time : ℕ) → (moved_slot slot head time).delay ≡ slot.delay
unfolding moved_slot
moved_delay slot head time = pick_all (λ (x : Slot). x.delay ≡ slot.delay) (is_stalled slot.state) refl refl

-- ---- the record
module _ (s : Inputs) (l : Lists) (i time : ℕ) (world : World) (c : Checked s l) (h : i < s.count) (soon : time ≤ time_limit) (few : (slot_at s i).reopens + 1 < counter_limit) where
  old : WholeSlot s.policy.delay_max s.flow_count (slot_at s i)
  old = (c.whole.inputs i h).slot

  open_now : Checked (try_open_of s i time world).inputs l
  open_now = open_keeps l i time soon s world c h (λ other. few)

  module _ (routed : 1 ≤ state_number (slot_at s i).state) where
    abbrev stalled : Slot
    stalled = with_state (slot_at s i) Stalled

    -- the input stalls, and is opened again
    stalled_keeps : Checked (try_open_of (put_slot s i stalled) i time world).inputs l
    stalled_keeps =
        open_keeps l i time soon (put_slot s i stalled) world
        (slot_keeps s l i stalled c h (state_fits s.policy.delay_max s.flow_count (slot_at s i) old Stalled routed (omega arith)) refl refl)
        (subst (λ (x : Inputs). i < x.count) (sym (settings_put s i stalled)) h)
        (λ other. subst (λ (x : Slot). x.reopens + 1 < counter_limit) (sym (slot_same s i stalled (omega (arith, c.fitting.allowed.most)) c.sized.slots)) few)

    same_keeps : Checked (watch_same (slot_at s i) s i time world).inputs l
    unfolding watch_same quiet
    same_keeps =
        pick_all (λ (done : Done). Checked done.inputs l) (eqb world.head (slot_at s i).last_head)
        (pick_all (λ (done : Done). Checked done.inputs l) (stalls_now (slot_at s i) time s.stall) stalled_keeps c)
        (slot_keeps s l i (moved_slot (slot_at s i) world.head time) c h (moved_fits s.policy.delay_max s.flow_count (slot_at s i) world.head time old routed soon)
        (moved_seconds (slot_at s i) world.head time) (moved_hold (slot_at s i) world.head time))

    stored_inode_keeps : (stored : Option ℕ) (inode : ℕ) → Checked (watch_stored stored inode (slot_at s i) s i time world).inputs l
    unfolding watch_stored
    stored_inode_keeps None inode = open_now
    stored_inode_keeps (Some mine) inode = pick_all (λ (done : Done). Checked done.inputs l) (eqb mine inode) same_keeps open_now

    seen_keeps : (seen : Option ℕ) → Checked (watch_seen seen (slot_at s i) s i time world).inputs l
    unfolding watch_seen send_first quiet lost_slot
    seen_keeps None = slot_keeps s l i (lost_slot (slot_at s i)) c h (lost_fits s.policy.delay_max s.flow_count (slot_at s i) old routed few) refl refl
    seen_keeps (Some inode) = stored_inode_keeps (slot_at s i).inode inode

  routed_keeps : (to : Option Route) (seen : Option ℕ) → route_fits to (slot_at s i).state s.flow_count ≡ true → Checked (watch_routed to seen (slot_at s i) s i time world).inputs l
  unfolding watch_routed quiet
  routed_keeps None seen fits = c
  routed_keeps (Some route) seen fits = seen_keeps (routed_state route (slot_at s i).state s.flow_count fits) seen

  pub watch_keeps : (seen : Option ℕ) → Checked (watch_of s i time seen world).inputs l
  unfolding watch_of watch_slot
  watch_keeps seen = routed_keeps (slot_at s i).route seen old.route
