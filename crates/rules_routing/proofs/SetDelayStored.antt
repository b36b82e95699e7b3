-- What `set_delay` stores: the input's delay and its time, and the flow's delay; all else stays. Assumes nothing.
use Prim.Native.Nat.{ℕ, ◌<◌}
use mathlib.Core.Path.{◌≡◌, sym, ap, ◌∙◌}
use mathlib.Core.List.{List}
use Rattle.rules_record.specs.declared.Slot.{Slot}
use Rattle.rules_record.specs.declared.Inputs.{Inputs}
use Rattle.rules_record.specs.Slots.{with_delay}
use Rattle.rules_record.specs.Inputs.{slot_at, put_slot, with_slots, with_flows}
use Rattle.rules_record.proofs.SlotFrame.{slot_same, slot_other, put_rest}
use Rattle.rules_record.proofs.Sized.{sized_put}
use Rattle.rules_record.specs.Sized.{Sized}
use Rattle.rules_record.specs.Flows.{entry_at, flow_at, known, place_below, distinct_flows, remembered_for}
use Rattle.rules_record.proofs.FlowTable.{for_rest, for_distinct, for_sized, for_slot}
use Rattle.rules_routing.specs.SetDelay.{delay_stored}

-- the steps of the code
pub stored_by : (s : Inputs) (i delay time : ℕ) {slot : Slot} {stored all : Inputs} → slot ≡ slot_at s i → stored ≡ put_slot s i (with_delay slot delay time) → all ≡ remembered_for stored slot delay
    → all ≡ delay_stored s i delay time
unfolding delay_stored
stored_by s i delay time e f g = rw (g, f, e)

-- a change of the slots, and then of the flow table
rest_of : (s slots all : Inputs) → slots ≡ with_slots s slots.slots → all ≡ with_flows slots all.flows slots.flow_count all.unsaved
    → all ≡ with_flows (with_slots s all.slots) all.flows s.flow_count all.unsaved
rest_of s slots all e f =
    f
    ∙ ap (λ (z : Inputs). with_flows z all.flows z.flow_count all.unsaved) e
    ∙ ap (λ (l : List Slot). with_flows (with_slots s l) all.flows s.flow_count all.unsaved) (sym (ap (λ (z : Inputs). z.slots) f))

pub put_distinct : (s : Inputs) (i : ℕ) (slot : Slot) → distinct_flows (put_slot s i slot) ≡ distinct_flows s
unfolding distinct_flows known place_below flow_at entry_at
put_distinct s i slot = ap distinct_flows (put_rest s i slot)

module _ (s : Inputs) (i delay time : ℕ) where
  abbrev placed : Inputs
  placed = put_slot s i (with_delay (slot_at s i) delay time)

  -- the input has the delay and the time; another input's slot stays
  pub stored_same : i < 16 → Sized s → slot_at (delay_stored s i delay time) i ≡ with_delay (slot_at s i) delay time
  unfolding delay_stored
  stored_same l h = for_slot placed (slot_at s i) delay i ∙ slot_same s i _ l h.slots

  pub stored_other : (j : ℕ) → (j ≡ i → ⊥) → slot_at (delay_stored s i delay time) j ≡ slot_at s j
  unfolding delay_stored
  stored_other j apart = for_slot placed (slot_at s i) delay j ∙ slot_other s i _ j apart

  -- only the slots and the flow table change, and the number of flows stays
  pub stored_rest : delay_stored s i delay time ≡ with_flows (with_slots s (delay_stored s i delay time).slots) (delay_stored s i delay time).flows s.flow_count (delay_stored s i delay time).unsaved
  unfolding delay_stored
  stored_rest = rest_of s placed (delay_stored s i delay time) (put_rest s i _) (for_rest placed (slot_at s i) delay)

  pub stored_distinct : Sized s → distinct_flows (delay_stored s i delay time) ≡ distinct_flows s
  unfolding delay_stored
  stored_distinct h = for_distinct placed (slot_at s i) delay (sized_put s i _ h) ∙ put_distinct s i _

  pub stored_sized : Sized s → Sized (delay_stored s i delay time)
  unfolding delay_stored
  stored_sized h = for_sized placed (slot_at s i) delay (sized_put s i _ h)
