-- Writing the slot of one input: what it changes and what it leaves alone. Assumes nothing.
use Rattle.std.specs.Prelude.{◌≡◌, ℕ, zero, suc, ◌<◌, Bool, true, false, ltb, List, [], ◌∷◌, length, get_or, set}
use mathlib.Core.Path.{refl, ap}
use lib.ListN.{length-set}
use lib.Seq.{get_or-set_same, get_or-set_other, set-set}
use borrow.Author.Tests.{lt-ltb}
use Rattle.base.specs.Choice.{pick}
use Rattle.base.proofs.Choices.{by_bool, pick_all, yes_pick}
use Rattle.rules_record.specs.declared.Slot.{Slot}
use Rattle.rules_record.specs.declared.Inputs.{Inputs}
use Rattle.rules_record.specs.Slots.{empty_slot}
use Rattle.rules_record.specs.Inputs.{slot_at, put_slot, with_slots}

get_or_set_rule : {A : Type 0} (P : A → Type 0) (a none : A) (l : List A) (i : ℕ) → P a → P (get_or l i none) → P (get_or (set l i a) i none)
get_or_set_rule P a none [] i new old = old
get_or_set_rule P a none (x ∷ l) zero new old = new
get_or_set_rule P a none (x ∷ l) (suc i) new old = get_or_set_rule P a none l i new old

-- a slot as a loop over the record reads it
pub slot_in : (s : Inputs) (i : ℕ) → i < 16 → get_or s.slots i empty_slot ≡ slot_at s i
unfolding slot_at
slot_in s i h = rw (lt-ltb i 16 h)

-- a slot that is stored at its place is put
pub put_stores : (s : Inputs) (i : ℕ) (slot : Slot) → i < 16 → put_slot s i slot ≡ with_slots s (set s.slots i slot)
unfolding put_slot
put_stores s i slot low = yes_pick _ _ (lt-ltb _ _ low)

module _ (s : Inputs) (i : ℕ) (slot : Slot) where
  -- the slot that was written is read again
  pub slot_same : i < 16 → length s.slots ≡ 16 → slot_at (put_slot s i slot) i ≡ slot
  unfolding slot_at put_slot
  slot_same h e = rw (lt-ltb i 16 h) (get_or-set_same s.slots i slot empty_slot (rw e h))

  -- what holds of the slot that is written and of the old one holds of the one that is read again
  pub slot_put : (P : Slot → Type 0) → P slot → P (slot_at s i) → P (slot_at (put_slot s i slot) i)
  unfolding slot_at put_slot
  slot_put P new old = by_bool (ltb i 16) (λ e. rw e (get_or_set_rule P slot empty_slot s.slots i new (rw e at old))) (λ e. rw e (rw e at old))

  -- every other slot stays
  pub slot_other : (j : ℕ) → (j ≡ i → ⊥) → slot_at (put_slot s i slot) j ≡ slot_at s j
  unfolding slot_at put_slot
  slot_other j apart =
      pick_all (λ (z : Inputs). pick (ltb j 16) (get_or z.slots j empty_slot) empty_slot ≡ pick (ltb j 16) (get_or s.slots j empty_slot) empty_slot) (ltb i 16)
      (ap (λ (x : Slot). pick (ltb j 16) x empty_slot) (get_or-set_other s.slots i j slot empty_slot apart))
      refl

  -- everything but the slots stays
  pub put_rest : put_slot s i slot ≡ with_slots s (put_slot s i slot).slots
  unfolding put_slot
  put_rest = pick_all (λ (z : Inputs). z ≡ with_slots s z.slots) (ltb i 16) refl refl

  pub put_flows : (put_slot s i slot).flows ≡ s.flows
  put_flows = ap (λ (z : Inputs). z.flows) put_rest

  pub put_instances : (put_slot s i slot).instances ≡ s.instances
  put_instances = ap (λ (z : Inputs). z.instances) put_rest

  pub put_length : length (put_slot s i slot).slots ≡ length s.slots
  unfolding put_slot
  put_length = pick_all (λ (z : Inputs). length z.slots ≡ length s.slots) (ltb i 16) (length-set s.slots i slot) refl

-- the second of two writes to a slot stays
pub put_put : (s : Inputs) (i : ℕ) (old new : Slot) → put_slot (put_slot s i old) i new ≡ put_slot s i new
unfolding put_slot
put_put s i old new = go (ltb i 16)
  where
    put : Bool → Inputs → Slot → Inputs
    put b z slot = pick b (with_slots z (set z.slots i slot)) z

    go : (b : Bool) → put b (put b s old) new ≡ put b s new
    go true = ap (with_slots s) (set-set s.slots i old new)
    go false = refl
