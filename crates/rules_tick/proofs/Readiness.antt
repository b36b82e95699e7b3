-- When an input is ready: in a checked record, after a change of its own slot and lists, and beside a change of another input. Assumes nothing.
use Prim.Native.Nat.{ℕ, ◌<◌, ◌≤◌}
use mathlib.Core.Bool.{true}
use mathlib.Core.Path.{◌≡◌, sym, ap, subst, ◌∙◌}
use native.Mathlib.Omega.{arith}
use lib.ListN.{length, set}
use Rattle.rules_window.specs.WholeWindow.{whole_window}
use Rattle.rules_window.specs.ColumnSums.{right_sums}
use Rattle.delay_hold.specs.Whole.{whole_hold}
use Rattle.rules_record.specs.declared.Slot.{Slot}
use Rattle.rules_record.specs.declared.Inputs.{Inputs}
use Rattle.rules_record.specs.Inputs.{slot_at, put_slot, with_slots}
use Rattle.rules_record.proofs.SlotFrame.{slot_same, put_stores}
use Rattle.rules_record.specs.Lent.{Lists, buckets_in, window_for, sums_of, held_for}
use Rattle.rules_record.specs.WholePlaces.{proposal_fits}
use Rattle.rules_record.specs.Checks.{Long}
use Rattle.rules_record.specs.Facts.{Checked}
use Rattle.rules_tick.specs.InputReady.{Ready}

pub ready_of : (s : Inputs) (l : Lists) → Checked s l → (i : ℕ) → i < s.count → Ready s l i
ready_of s l c i h =
    let w = c.whole.inputs i h in
    record { fitting = c.fitting; input = h; window = w.window; sums = w.sums; hold = w.hold; delay = w.slot.delay; proposed = w.slot.proposed }

pub ready_low : (s : Inputs) (l : Lists) (i : ℕ) → Ready s l i → i < 16
ready_low s l i r = omega (arith, r.input, r.fitting.allowed.most)

-- the slot and the lists of input i are replaced by whole ones
module _ (s : Inputs) (l m : Lists) (i : ℕ) (slot : Slot) (r : Ready s l i) (sized : length s.slots ≡ 16) where
  abbrev after : Inputs
  after = with_slots s (set s.slots i slot)

  put_is : put_slot s i slot ≡ after
  put_is = put_stores s i slot (ready_low s l i r)

  here : slot_at after i ≡ slot
  here = ap (λ (z : Inputs). slot_at z i) (sym put_is) ∙ slot_same s i slot (ready_low s l i r) sized

  pub put_ready : Long s.count (buckets_in s) m → whole_window (window_for s m i slot) ≡ true → right_sums (window_for s m i slot) (sums_of s m i) ≡ true → whole_hold s.policy s.width (held_for m i slot) ≡ true → slot.delay ≤ s.policy.delay_max
      → proposal_fits slot.proposed s.policy.delay_max ≡ true → Ready (put_slot s i slot) m i
  unfolding buckets_in
  put_ready long window sums hold delay proposed =
      subst (λ (z : Inputs). Ready z m i) (sym put_is)
      (record {
        fitting = record { allowed = r.fitting.allowed; long = long };
        input = r.input;
        window = (λ t. whole_window (window_for s m i (here t))) ∙ window;
        sums = (λ t. right_sums (window_for s m i (here t)) (sums_of s m i)) ∙ sums;
        hold = (λ t. whole_hold s.policy s.width (held_for m i (here t))) ∙ hold;
        delay = subst (λ (x : Slot). x.delay ≤ s.policy.delay_max) (sym here) delay;
        proposed = (λ t. proposal_fits (here t).proposed s.policy.delay_max) ∙ proposed;
      })
