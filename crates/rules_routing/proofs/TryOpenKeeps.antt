-- `try_open` keeps a checked record checked, where a reopen that counts stays below 2^63. Assumes nothing.
use Rattle.std.specs.Prelude.{None, Option, Some}
use Prim.Native.Nat.{ℕ, ◌+◌, ◌<◌, ◌≤◌, min}
use mathlib.Core.Bool.{true}
use mathlib.Core.Path.{◌≡◌, refl, sym, ap, subst, ◌∙◌}
use native.Mathlib.Omega.{arith}
use lib.Dec.{ltb}
use borrow.Author.Tests.{leb-true, ltb-true, eqb-true, eqb-false, le-leb}
use Rattle.base.specs.Limits.{time_limit, counter_limit}
use Rattle.base.proofs.Choices.{pick_all, pick_rule}
use Rattle.base.proofs.Points.{both_true, true_both}
use Rattle.delay_hold.specs.Next.{seeded_hold}
use Rattle.delay_hold.proofs.Marks.{seeded_whole}
use Rattle.rules_record.specs.declared.State.{State}
use Rattle.rules_record.specs.declared.State.TheVariants.{Running}
use Rattle.rules_record.specs.declared.Route.{Route}
use Rattle.rules_record.specs.declared.Slot.{Slot}
use Rattle.rules_record.specs.declared.Instance.{Instance}
use Rattle.rules_record.specs.declared.Inputs.{Inputs}
use Rattle.rules_record.specs.Slots.{with_reopens, with_hold}
use Rattle.rules_record.specs.States.{state_number, is_waiting, is_stalled, is_routed}
use Rattle.rules_record.specs.Inputs.{slot_at, put_slot, with_instances}
use Rattle.rules_record.specs.Commands.{Done, quiet, send_first, changed}
use Rattle.rules_record.specs.Flows.{recalled}
use Rattle.rules_record.specs.Instances.{found_key, made}
use Rattle.rules_record.specs.Prune.{pruned}
use Rattle.rules_record.proofs.InstanceKeys.{pruned_rest, made_rest}
use Rattle.rules_routing.specs.SetDelay.{delay_stored, set_delay_of}
use Rattle.rules_routing.specs.declared.World.{World}
use Rattle.rules_routing.specs.TryOpen.{running_slot, opened_slot, starts_anew, seeded_at, start_at, start_of, start_by, recall_of, open_with, open_reader, open_at, open_seen, open_routed, try_open_of}
use Rattle.rules_record.specs.Lent.{Lists, buckets_in, held_of}
use Rattle.rules_record.specs.WholePlaces.{route_fits}
use Rattle.rules_record.specs.Facts.{WholeSlot, Checked}
use Rattle.rules_record.proofs.Beside.{beside_same}
use Rattle.rules_record.proofs.Keep.{input_keeps, slot_keeps}
use Rattle.rules_record.proofs.Pruned.{prune_keeps, make_keeps}
use Rattle.rules_routing.proofs.SettingsKept.{settings_put, settings_stored}
use Rattle.rules_routing.proofs.SetDelayKeeps.{stored_keeps}

-- "Was not Waiting: reopens + 1.": where it counts, one more reopen stays below 2^63
abbrev pub ReopenFits : Slot → Type 0
ReopenFits slot = (state_number slot.state ≡ 1 → ⊥) → slot.reopens + 1 < counter_limit

-- ---- the slot
-- a routed input is Waiting, Running or Stalled
pub routed_state : (route : Route) (state : State) (n : ℕ) → route_fits (Some route) state n ≡ true → 1 ≤ state_number state
unfolding route_fits
routed_state route state n fits = leb-true 1 (state_number state) (both_true (ltb route.flow n) (is_routed state) fits).1

-- .. and its route fits each of these states
pub route_state : (to : Option Route) (old new : State) (n : ℕ) → 1 ≤ state_number old → 1 ≤ state_number new → route_fits to old n ≡ true → route_fits to new n ≡ true
unfolding route_fits
route_state None old new n h k fits = let none : state_number old ≡ 0 = eqb-true (state_number old) 0 fits in absurd (omega arith)
route_state (Some route) old new n h k fits = true_both (ltb route.flow n) (is_routed new) (both_true (ltb route.flow n) (is_routed old) fits).0 (le-leb 1 (state_number new) k)

module _ (maximum n : ℕ) (slot : Slot) (w : WholeSlot maximum n slot) where
  pub reopens_fit : (reopens : ℕ) → reopens < counter_limit → WholeSlot maximum n (with_reopens slot reopens)
  reopens_fit reopens few =
      record { delay = w.delay; proposed = w.proposed; route = w.route; reopens = few; changes = w.changes; lates = w.lates; head = w.head; set = w.set; opened = w.opened }

  module _ (inode head time : ℕ) (soon : time ≤ time_limit) (routed : 1 ≤ state_number slot.state) where
    running_fits : WholeSlot maximum n (running_slot slot inode head time)
    unfolding running_slot
    running_fits =
        pick_all (WholeSlot maximum n) (is_stalled slot.state)
        (record { delay = w.delay; proposed = w.proposed; route = w.route; reopens = w.reopens; changes = w.changes; lates = w.lates; head = w.head; set = w.set; opened = le-leb _ _ soon })
        (record {
          delay = w.delay;
          proposed = w.proposed;
          route = route_state slot.route slot.state Running n routed (omega arith) w.route;
          reopens = w.reopens;
          changes = w.changes;
          lates = w.lates;
          head = soon;
          set = w.set;
          opened = le-leb _ _ soon;
        })

opened_fits : (maximum n : ℕ) (slot : Slot) (inode head time : ℕ) → WholeSlot maximum n slot → time ≤ time_limit → 1 ≤ state_number slot.state → ReopenFits slot → WholeSlot maximum n (opened_slot slot inode head time)
unfolding opened_slot
opened_fits maximum n slot inode head time w soon routed few =
    pick_rule (WholeSlot maximum n) (is_waiting slot.state) _ _
    (λ e. running_fits maximum n slot w inode head time soon routed)
    (λ e. reopens_fit maximum n (running_slot slot inode head time) (running_fits maximum n slot w inode head time soon routed) (slot.reopens + 1) (few (eqb-false (state_number slot.state) 1 e)))

module _ (slot : Slot) (inode head time : ℕ) where
  pub opened_seconds : (opened_slot slot inode head time).lag_seconds ≡ slot.lag_seconds
  unfolding opened_slot running_slot
  opened_seconds =
      pick_all (λ (x : Slot). x.lag_seconds ≡ slot.lag_seconds) (is_waiting slot.state)
      (pick_all (λ (x : Slot). x.lag_seconds ≡ slot.lag_seconds) (is_stalled slot.state) refl refl)
      (pick_all (λ (x : Slot). x.lag_seconds ≡ slot.lag_seconds) (is_stalled slot.state) refl refl)

  pub opened_hold : (opened_slot slot inode head time).hold ≡ slot.hold
  unfolding opened_slot running_slot
  opened_hold =
      pick_all (λ (x : Slot). x.hold ≡ slot.hold) (is_waiting slot.state)
      (pick_all (λ (x : Slot). x.hold ≡ slot.hold) (is_stalled slot.state) refl refl)
      (pick_all (λ (x : Slot). x.hold ≡ slot.hold) (is_stalled slot.state) refl refl)

pub opened_delay : (slot : Slot) (inode head time : ℕ) → (opened_slot slot inode head time).delay ≡ slot.delay
unfolding opened_slot running_slot
opened_delay slot inode head time =
    pick_all (λ (x : Slot). x.delay ≡ slot.delay) (is_waiting slot.state)
    (pick_all (λ (x : Slot). x.delay ≡ slot.delay) (is_stalled slot.state) refl refl)
    (pick_all (λ (x : Slot). x.delay ≡ slot.delay) (is_stalled slot.state) refl refl)

-- ---- the record
-- only the instances changed
slot_under : (s z : Inputs) → z ≡ with_instances s z.instances z.instance_count → (i : ℕ) → slot_at z i ≡ slot_at s i
unfolding slot_at
slot_under s z e i = ap (λ (x : Inputs). slot_at x i) e

module _ (l : Lists) (i time : ℕ) (soon : time ≤ time_limit) where
  -- a delay is set, and the hold seeded with it
  start_keeps : (delay : ℕ) (s : Inputs) → Checked s l → i < s.count → delay ≤ s.policy.delay_max → Checked (start_at delay s i time).inputs l
  unfolding start_at seeded_at changed set_delay_of send_first quiet
  start_keeps delay s c h most =
      let z : Inputs = delay_stored s i delay time in
      let kept : Checked z l = stored_keeps s l i delay time c h most soon in
      let there : i < z.count = subst (λ (x : Inputs). i < x.count) (sym (settings_stored s i delay time)) h in
      let w = kept.whole.inputs i there in
      input_keeps z l l i (with_hold (slot_at z i) (seeded_hold (slot_at z i).hold delay time)) kept there (beside_same z.count (buckets_in z) i l kept.fitting.long)
      w.window
      w.sums
      (seeded_whole z.policy z.width (held_of z l i) w.hold delay time (subst (λ (x : Inputs). delay ≤ x.policy.delay_max) (sym (settings_stored s i delay time)) most) soon)
      (record {
        delay = w.slot.delay;
        proposed = w.slot.proposed;
        route = w.slot.route;
        reopens = w.slot.reopens;
        changes = w.slot.changes;
        lates = w.slot.lates;
        head = w.slot.head;
        set = w.slot.set;
        opened = w.slot.opened;
      })

  by_keeps : (remembered : Option ℕ) (s : Inputs) → Checked s l → i < s.count → Checked (start_by remembered s i time).inputs l
  unfolding start_by start_of quiet
  by_keeps None s c h = c
  by_keeps (Some last) s c h = start_keeps (min last s.policy.delay_max) s c h (omega arith)

  reader_keeps : (reader : Option ℕ) (place inode : ℕ) (s : Inputs) (world : World) → Checked s l → i < s.count → 1 ≤ state_number (slot_at s i).state → ReopenFits (slot_at s i)
      → Checked (open_reader reader place inode s i time world).inputs l
  unfolding open_reader open_with send_first recall_of quiet
  reader_keeps None place inode s world c h routed few = c
  reader_keeps (Some channels) place inode s world c h routed few =
      let slot : Slot = opened_slot (slot_at s i) inode world.head time in
      let after : Inputs = put_slot s i slot in
      let kept : Checked after l =
      slot_keeps s l i slot c h (opened_fits s.policy.delay_max s.flow_count (slot_at s i) inode world.head time (c.whole.inputs i h).slot soon routed few)
      (opened_seconds (slot_at s i) inode world.head time) (opened_hold (slot_at s i) inode world.head time) in
      pick_all (λ (done : Done). Checked done.inputs l) (starts_anew (slot_at s i))
      (by_keeps (recalled after place) after kept (subst (λ (x : Inputs). i < x.count) (sym (settings_put s i slot)) h))
      kept

  module _ (s : Inputs) (world : World) (c : Checked s l) (h : i < s.count) where
    -- the reader is asked in a record of which only the instances changed
    under_keeps : (reader : Option ℕ) (place inode : ℕ) (z : Inputs) → z ≡ with_instances s z.instances z.instance_count → Checked z l → 1 ≤ state_number (slot_at s i).state → ReopenFits (slot_at s i)
        → Checked (open_reader reader place inode z i time world).inputs l
    under_keeps reader place inode z e kept routed few =
        reader_keeps reader place inode z world kept (subst (λ (x : Inputs). i < x.count) (sym e) h)
        (subst (λ (x : Slot). 1 ≤ state_number x.state) (sym (slot_under s z e i)) routed)
        (subst ReopenFits (sym (slot_under s z e i)) few)

    at_keeps : (key : Instance) → key.flow < s.flow_count → 1 ≤ state_number (slot_at s i).state → ReopenFits (slot_at s i) → Checked (open_at key s i time world).inputs l
    unfolding open_at quiet
    at_keeps key known routed few =
        pick_rule (λ (done : Done). Checked done.inputs l) (found_key s key) _ _
        (λ e. under_keeps world.reader key.flow key.inode (pruned s (Some key)) (pruned_rest s (Some key)) (prune_keeps s l c (Some key)) routed few)
        (λ e.
        pick_all (λ (done : Done). Checked done.inputs l) world.made
        (under_keeps world.reader key.flow key.inode (pruned (made s key) (Some key))
        (pruned_rest (made s key) (Some key) ∙ ap (λ (x : Inputs). with_instances x (pruned (made s key) (Some key)).instances (pruned (made s key) (Some key)).instance_count) (made_rest s key))
        (make_keeps s l c (Some key) key e known) routed few)
        c)

    seen_keeps : (seen : Option ℕ) (place : ℕ) → place < s.flow_count → 1 ≤ state_number (slot_at s i).state → ReopenFits (slot_at s i) → Checked (open_seen seen place s i time world).inputs l
    unfolding open_seen quiet
    seen_keeps None place known routed few = c
    seen_keeps (Some inode) place known routed few = at_keeps (record { flow = place; inode = inode }) known routed few

    routed_keeps : (to : Option Route) → route_fits to (slot_at s i).state s.flow_count ≡ true → ReopenFits (slot_at s i) → Checked (open_routed to s i time world).inputs l
    unfolding open_routed quiet route_fits
    routed_keeps None fits few = c
    routed_keeps (Some route) fits few =
        seen_keeps world.inode route.flow (ltb-true route.flow s.flow_count (both_true (ltb route.flow s.flow_count) (is_routed (slot_at s i).state) fits).0)
        (routed_state route (slot_at s i).state s.flow_count fits) few

    pub open_keeps : ReopenFits (slot_at s i) → Checked (try_open_of s i time world).inputs l
    unfolding try_open_of
    open_keeps few = routed_keeps (slot_at s i).route (c.whole.inputs i h).slot.route few

    -- an input that waits: no reopen counts
    pub waiting_keeps : state_number (slot_at s i).state ≡ 1 → Checked (try_open_of s i time world).inputs l
    waiting_keeps waits = open_keeps (λ other. absurd (other waits))
