-- What a late event leaves: one counter and one mark of the input's slot, and a checked record checked. Assumes nothing.
use Rattle.std.specs.Prelude.{Option}
use Prim.Native.Nat.{ℕ, ◌+◌, ◌<◌, ◌≤◌}
use mathlib.Core.Bool.{Bool, not}
use mathlib.Core.Path.{◌≡◌, refl}
use native.Mathlib.Omega.{arith}
use lib.ListN.{length}
use Rattle.base.specs.Choice.{both}
use Rattle.base.specs.Limits.{counter_limit}
use Rattle.base.proofs.Choices.{pick_all}
use Rattle.rules_record.specs.declared.Slot.{Slot}
use Rattle.rules_record.specs.declared.Inputs.{Inputs}
use Rattle.rules_record.specs.Inputs.{slot_at}
use Rattle.rules_record.proofs.SlotFrame.{slot_same, slot_other}
use Rattle.rules_record.specs.Lent.{Lists}
use Rattle.rules_record.specs.Facts.{WholeSlot, Checked}
use Rattle.rules_record.proofs.Keep.{slot_keeps}
use Rattle.rules_tick.specs.LateEvents.{late_now, late_events_of, late_slot, late_event}
use Rattle.rules_tick.specs.InputReady.{Ready}
use Rattle.rules_routing.proofs.SettingsKept.{SameSettings, settings_put}
use Rattle.rules_tick.proofs.Readiness.{put_ready}
use Rattle.rules_tick.proofs.Raised.{Raised, raised_by}

pub events_most : (slot : Slot) (late : Bool) → late_events_of slot late ≤ slot.late_events + 1
unfolding late_events_of
events_most slot late = pick_all (λ (n : ℕ). n ≤ slot.late_events + 1) (both late (not slot.late_before)) (omega arith) (omega arith)

module _ (i applied : ℕ) (largest : Option ℕ) (s : Inputs) where
  abbrev after : Inputs
  after = late_event i applied largest s

  abbrev slot : Slot
  slot = late_slot s.policy (slot_at s i) applied largest

  pub late_other : (j : ℕ) → (j ≡ i → ⊥) → slot_at after j ≡ slot_at s j
  unfolding late_event
  late_other j apart = slot_other s i slot j apart

  pub late_settings : SameSettings s after
  unfolding late_event
  late_settings = settings_put s i slot

  pub late_slot_law : i < 16 → length s.slots ≡ 16 → slot_at after i ≡ slot
  unfolding late_event
  late_slot_law low sized = slot_same s i slot low sized

  pub late_raised : i < 16 → length s.slots ≡ 16 → Raised 0 0 1 (slot_at s i) (slot_at after i)
  late_raised low sized =
      raised_by 0 0 1 (slot_at s i) (late_slot_law low sized)
      (record { reopens = omega arith; changes = omega arith; lates = events_most (slot_at s i) (late_now s.policy (slot_at s i) applied largest) })

  -- the input stays ready
  pub late_ready : (l : Lists) → Ready s l i → length s.slots ≡ 16 → Ready after l i
  unfolding late_event
  late_ready l r sized = put_ready s l l i slot r sized r.fitting.long r.window r.sums r.hold r.delay r.proposed

  -- a checked record stays checked, where one more late event is below 2^63
  pub late_keeps : (l : Lists) → Checked s l → i < s.count → (slot_at s i).late_events + 1 < counter_limit → Checked after l
  unfolding late_event
  late_keeps l c h few = slot_keeps s l i slot c h fits refl refl
    where
      fits : WholeSlot s.policy.delay_max s.flow_count slot
      fits =
          let w = (c.whole.inputs i h).slot in
          record {
            delay = w.delay;
            proposed = w.proposed;
            route = w.route;
            reopens = w.reopens;
            changes = w.changes;
            lates = omega (arith, events_most (slot_at s i) (late_now s.policy (slot_at s i) applied largest));
            head = w.head;
            set = w.set;
            opened = w.opened;
          }
