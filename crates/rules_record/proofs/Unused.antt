-- A place that passes the test for unused places is the empty one, and the empty one passes. Assumes nothing.
use Rattle.std.specs.Prelude.{◌≡◌, ℕ, true, None, Option, Some}
use mathlib.Core.Path.{refl}
use native.Mathlib.Omega.{arith}
use borrow.Author.Tests.{eqb-true, not-true}
use Rattle.base.specs.Choice.{both}
use Rattle.base.proofs.Points.{both_true}
use Rattle.delay_hold.specs.declared.Seed.{Seed}
use Rattle.delay_hold.specs.declared.LowerTimer.{LowerTimer}
use Rattle.delay_hold.specs.declared.DelayHold.{DelayHold}
use Rattle.delay_hold.specs.Next.{fresh_hold}
use Rattle.rules_record.specs.declared.AutoTag.TheVariants as AutoTag
use Rattle.rules_record.specs.declared.ExtraDelay.{ExtraDelay}
use Rattle.rules_record.specs.declared.ExtraDelay.TheVariants.{Auto, Ms}
use Rattle.rules_record.specs.declared.State.{State}
use Rattle.rules_record.specs.declared.State.TheVariants.{Unrouted, Waiting, Running, Stalled}
use Rattle.rules_record.specs.declared.Slot.{Slot}
use Rattle.rules_record.specs.declared.FlowEntry.{FlowEntry}
use Rattle.rules_record.specs.declared.Instance.{Instance}
use Rattle.rules_record.specs.Slots.{is_auto, empty_slot}
use Rattle.rules_record.specs.States.{state_number}
use Rattle.rules_record.specs.Flows.{empty_entry}
use Rattle.rules_record.specs.Instances.{no_key}
use Rattle.rules_record.specs.WholePlaces.{never_yet, no_seed, no_timer, no_route, no_inode, no_proposal, no_delay, unused_hold, unused_parts, unused_numbers, unused_slot, unused_entry, unused_key}
use Rattle.rules_record.specs.declared.Route.{Route}

-- ---- one field
is_never : (m : Option ℕ) → never_yet m ≡ true → m ≡ None
is_never None h = refl
is_never (Some time) h = let z : ◌≡◌ {A = ℕ} 0 1 = cc in absurd (omega arith)

is_no_seed : (x : Option Seed) → no_seed x ≡ true → x ≡ None
is_no_seed None h = refl
is_no_seed (Some seed) h = let z : ◌≡◌ {A = ℕ} 0 1 = cc in absurd (omega arith)

pub unused_timer_law : (x : Option LowerTimer) → no_timer x ≡ true → x ≡ None
unused_timer_law None h = refl
unused_timer_law (Some timer) h = let z : ◌≡◌ {A = ℕ} 0 1 = cc in absurd (omega arith)

is_nowhere : (x : Option Route) → no_route x ≡ true → x ≡ None
is_nowhere None h = refl
is_nowhere (Some route) h = let z : ◌≡◌ {A = ℕ} 0 1 = cc in absurd (omega arith)

is_gone : (x : Option ℕ) → no_inode x ≡ true → x ≡ None
is_gone None h = refl
is_gone (Some inode) h = let z : ◌≡◌ {A = ℕ} 0 1 = cc in absurd (omega arith)

is_nothing : (x : Option ℕ) → no_proposal x ≡ true → x ≡ None
is_nothing None h = refl
is_nothing (Some delay) h = let z : ◌≡◌ {A = ℕ} 0 1 = cc in absurd (omega arith)

is_unremembered : (x : Option ℕ) → no_delay x ≡ true → x ≡ None
is_unremembered None h = refl
is_unremembered (Some delay) h = let z : ◌≡◌ {A = ℕ} 0 1 = cc in absurd (omega arith)

is_automatic : (x : ExtraDelay) → is_auto x ≡ true → x ≡ Auto AutoTag.Auto
is_automatic (Auto AutoTag.Auto) h = refl
is_automatic (Ms delay) h = let z : ◌≡◌ {A = ℕ} 0 1 = cc in absurd (omega arith)

is_unrouted_law : (x : State) → state_number x ≡ 0 → x ≡ Unrouted
is_unrouted_law Unrouted h = refl
is_unrouted_law Waiting h = absurd (omega arith)
is_unrouted_law Running h = absurd (omega arith)
is_unrouted_law Stalled h = absurd (omega arith)

-- ---- a hold, a slot
pub unused_hold_law : (hold : DelayHold) → unused_hold hold ≡ true → hold ≡ fresh_hold
unfolding unused_hold
unused_hold_law hold h =
    let t1 = both_true _ _ h in
    let t2 = both_true _ _ t1.1 in
    let t3 = both_true _ _ t2.1 in
    let t4 = both_true _ _ t3.1 in
    let t5 = both_true _ _ t4.1 in
    let t6 = both_true _ _ t5.1 in
    λ i.
    record {
      peaks = eqb-true hold.peaks 0 t1.0 i;
      last_change = is_never hold.last_change t2.0 i;
      lower = unused_timer_law hold.lower t3.0 i;
      started = is_never hold.started t4.0 i;
      startup_late = eqb-true hold.startup_late 0 t5.0 i;
      late_before = not-true hold.late_before t6.0 i;
      seeded = is_no_seed hold.seeded t6.1 i;
    }

pub unused_slot_law : (slot : Slot) → unused_slot slot ≡ true → slot ≡ empty_slot
unfolding unused_slot unused_parts unused_numbers empty_slot
unused_slot_law slot h =
    let t = both_true _ _ h in
    let p1 = both_true _ _ t.0 in
    let p2 = both_true _ _ p1.1 in
    let p3 = both_true _ _ p2.1 in
    let p4 = both_true _ _ p3.1 in
    let p5 = both_true _ _ p4.1 in
    let p6 = both_true _ _ p5.1 in
    let p7 = both_true _ _ p6.1 in
    let p8 = both_true _ _ p7.1 in
    let n1 = both_true _ _ t.1 in
    let n2 = both_true _ _ n1.1 in
    let n3 = both_true _ _ n2.1 in
    let n4 = both_true _ _ n3.1 in
    let n5 = both_true _ _ n4.1 in
    let n6 = both_true _ _ n5.1 in
    let n7 = both_true _ _ n6.1 in
    λ i.
    record {
      config = record { extra_delay = is_automatic slot.config.extra_delay p1.0 i };
      state = is_unrouted_law slot.state (eqb-true (state_number slot.state) 0 p2.0) i;
      route = is_nowhere slot.route p3.0 i;
      inode = is_gone slot.inode p4.0 i;
      last_head = eqb-true slot.last_head 0 n1.0 i;
      head_changed = eqb-true slot.head_changed 0 n2.0 i;
      reopens = eqb-true slot.reopens 0 n3.0 i;
      lag_seconds = eqb-true slot.lag_seconds 0 n4.0 i;
      last_lag = eqb-true slot.last_lag 0 n5.0 i;
      delay = eqb-true slot.delay 0 n6.0 i;
      proposed = is_nothing slot.proposed p5.0 i;
      hold = unused_hold_law slot.hold p6.0 i;
      delay_changes = eqb-true slot.delay_changes 0 n7.0 i;
      late_events = eqb-true slot.late_events 0 n7.1 i;
      late_before = not-true slot.late_before p7.0 i;
      last_set = is_never slot.last_set p8.0 i;
      last_input = is_never slot.last_input p8.1 i;
    }

pub empty_slot_law : unused_slot empty_slot ≡ true
unfolding unused_slot unused_parts unused_numbers unused_hold empty_slot both
empty_slot_law = refl

-- ---- an entry of the flow table, and an instance
pub unused_entry_law : (entry : FlowEntry) → unused_entry entry ≡ true → entry ≡ empty_entry
unfolding unused_entry empty_entry
unused_entry_law entry h =
    let t1 = both_true _ _ h in
    let t2 = both_true _ _ t1.1 in
    λ i. record { flow = record { high = eqb-true entry.flow.high 0 t1.0 i; low = eqb-true entry.flow.low 0 t2.0 i }; remembered = is_unremembered entry.remembered t2.1 i }

pub empty_entry_law : unused_entry empty_entry ≡ true
unfolding unused_entry empty_entry both
empty_entry_law = refl

pub unused_key_law : (key : Instance) → unused_key key ≡ true → key ≡ no_key
unfolding unused_key no_key
unused_key_law key h =
    let t1 = both_true _ _ h in
    λ i.
    record {
      flow = eqb-true key.flow 0 t1.0 i;
      inode = eqb-true key.inode 0 t1.1 i;
    }

pub no_key_law : unused_key no_key ≡ true
unfolding unused_key no_key both
no_key_law = refl
