-- Late events, case by case. Assumes nothing.
use Rattle.std.specs.Prelude.{None, Option, Some}
use Prim.Native.Nat.{ℕ, ◌+◌, ◌<◌, ◌≤◌}
use mathlib.Core.Bool.{Bool, true, false}
use mathlib.Core.Path.{◌≡◌, sym, ap, ◌∙◌}
use lib.Dec.{ltb}
use lib.ListN.{length, set}
use borrow.Author.Tests.{eq-eqb, ne_eqb}
use Rattle.base.specs.Choice.{both}
use Rattle.base.proofs.Choices.{le_yes, le_no}
use Rattle.base.proofs.All.{both_yes, both_no}
use Rattle.policy.specs.declared.DelayPolicy.{DelayPolicy}
use Rattle.delay_hold.specs.Steps1To3.{late_at, late_of}
use Rattle.rules_record.specs.declared.Slot.{Slot}
use Rattle.rules_record.specs.declared.Inputs.{Inputs}
use Rattle.rules_record.specs.Slots.{with_late}
use Rattle.rules_record.specs.States.{state_number}
use Rattle.rules_record.specs.Inputs.{put_slot, with_slots}
use Rattle.rules_record.proofs.SlotFrame.{slot_same, put_rest, put_put, put_stores}
use Rattle.rules_tick.specs.LateEvents.{late_now, late_events_of, late_slot, late_event}

module _ (policy : DelayPolicy) (slot : Slot) (applied : ℕ) (largest : Option ℕ) where
  pub late_not_running : (state_number slot.state ≡ 2 → ⊥) → false ≡ late_now policy slot applied largest
  unfolding late_now
  late_not_running h = both_no _ _ (ne_eqb _ _ h)

  module _ (running : state_number slot.state ≡ 2) where
    late_running : {late : Bool} → late ≡ late_of policy largest applied → late ≡ late_now policy slot applied largest
    unfolding late_now
    late_running e = both_yes _ _ _ (eq-eqb _ _ running) e

    pub late_none : largest ≡ None → false ≡ late_now policy slot applied largest
    late_none e = late_running (sym (ap (λ (x : Option ℕ). late_of policy x applied) e))

    module _ (lag : ℕ) (some : largest ≡ Some lag) where
      pub late_beyond : policy.read_offset + policy.delay_max < lag → false ≡ late_now policy slot applied largest
      late_beyond h =
          late_running
          (sym (ap (λ (x : Option ℕ). late_of policy x applied) some ∙ ap (λ (x : Option ℕ). late_at x (policy.read_offset + applied)) (le_no lag (policy.read_offset + policy.delay_max) (Some lag) None h)))

      pub late_within : lag ≤ policy.read_offset + policy.delay_max → ltb (policy.read_offset + applied) lag ≡ late_now policy slot applied largest
      late_within h =
          late_running
          (sym (ap (λ (x : Option ℕ). late_of policy x applied) some ∙ ap (λ (x : Option ℕ). late_at x (policy.read_offset + applied)) (le_yes lag (policy.read_offset + policy.delay_max) (Some lag) None h)))

-- ---- the counter
module _ (slot : Slot) where
  pub events_none : (late : Bool) → late ≡ false → slot.late_events ≡ late_events_of slot late
  unfolding late_events_of both
  events_none late e = rw e

  pub events_same : (late : Bool) → late ≡ true → slot.late_before ≡ true → slot.late_events ≡ late_events_of slot late
  unfolding late_events_of both
  events_same late e before = rw (e, before)

  pub events_more : (late : Bool) → late ≡ true → slot.late_before ≡ false → slot.late_events + 1 ≡ late_events_of slot late
  unfolding late_events_of both
  events_more late e before = rw (e, before)

-- ---- the steps of the code
pub late_by : (policy : DelayPolicy) (slot : Slot) (applied : ℕ) (largest : Option ℕ) {late : Bool} {events : ℕ} → late ≡ late_now policy slot applied largest → events ≡ late_events_of slot late
    → with_late slot events late ≡ late_slot policy slot applied largest
late_by policy slot applied largest {late} is-late is-events =
    ap (λ (n : ℕ). with_late slot n late) is-events ∙ ap (λ (b : Bool). with_late slot (late_events_of slot b) b) is-late

-- a late event in a slot that is then stored is one in the record with that slot put
pub late_stored : (s : Inputs) (i applied : ℕ) (largest : Option ℕ) (slot : Slot) {heard : Slot} → i < 16 → length s.slots ≡ 16 → heard ≡ late_slot s.policy slot applied largest
    → with_slots s (set s.slots i heard) ≡ late_event i applied largest (put_slot s i slot)
unfolding late_event
late_stored s i applied largest slot {heard} low sized is-heard =
    sym
    (put_put s i slot _
    ∙ ap (λ (x : Slot). put_slot s i (late_slot (put_slot s i slot).policy x applied largest)) (slot_same s i slot low sized)
    ∙ ap (λ (z : Inputs). put_slot s i (late_slot z.policy slot applied largest)) (put_rest s i slot)
    ∙ ap (put_slot s i) (sym is-heard)
    ∙ put_stores s i heard low)
