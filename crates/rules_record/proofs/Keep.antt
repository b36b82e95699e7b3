-- One input changed, or a table: a record that was checked stays so. These are what every call above needs. Assumes nothing.
use Rattle.std.specs.Prelude.{◌≡◌, ℕ, ◌*◌, ◌<◌, true, eqb, length, set}
use mathlib.Core.Path.{refl, sym, ap, subst, ◌∙◌}
use native.Mathlib.Omega.{arith}
use lib.ListN.{length-set, length-replicate}
use borrow.Author.Tests.{eqb-true, eqb-false}
use Rattle.base.specs.Lists.{part}
use Rattle.base.proofs.Choices.{by_bool}
use Rattle.rules_window.specs.Window.{Window, fresh, windowed}
use Rattle.rules_window.specs.WholeWindow.{whole_window, Sound}
use Rattle.rules_window.specs.Parts.{part_of}
use Rattle.rules_window.specs.ColumnSums.{right_sums}
use Rattle.rules_window.proofs.ColumnSums.{own_sums_right}
use Rattle.delay_hold.specs.Next.{Held, held, fresh_hold, cleared_hold}
use Rattle.delay_hold.specs.Whole.{whole_hold}
use Rattle.rules_record.specs.declared.Slot.{Slot}
use Rattle.rules_record.specs.declared.Inputs.{Inputs}
use Rattle.rules_record.specs.Inputs.{slot_at, put_slot, with_slots}
use Rattle.rules_record.proofs.SlotFrame.{slot_same, slot_other, put_stores}
use Rattle.rules_record.specs.Flows.{entry_at, flow_at, known}
use Rattle.rules_record.proofs.FlowTable.{distinct_cong}
use Rattle.rules_record.specs.Instances.{key_at, key_below, distinct_keys}
use Rattle.rules_record.specs.Instances as keys
use Rattle.rules_record.specs.Lent.{Lists, buckets_in, window_for, held_for, window_of, sums_of, held_of, with_window, with_held}
use Rattle.rules_record.specs.Facts.{WholeSlot, WholeInput, WholeFlows, WholeInstances, Checked}
use Rattle.rules_record.proofs.Beside.{Beside, beside_same, beside_window, beside_held, beside_then, window_same, sums_same, held_same}
use Rattle.rules_record.proofs.Shapes.{held_times, held_lags, fresh_sound, cleared_whole}

-- ---- the slot and the lists of input i
module _ (s : Inputs) (l m : Lists) (i : ℕ) (slot : Slot) (c : Checked s l) (h : i < s.count) (beside : Beside s.count (buckets_in s) i l m) where
  low : i < 16
  low = omega (arith, c.fitting.allowed.most)

  abbrev after : Inputs
  after = with_slots s (set s.slots i slot)

  put_is : put_slot s i slot ≡ after
  put_is = put_stores s i slot low

  here : slot_at after i ≡ slot
  here = ap (λ (z : Inputs). slot_at z i) (sym put_is) ∙ slot_same s i slot low c.sized.slots

  there : (j : ℕ) → (j ≡ i → ⊥) → slot_at after j ≡ slot_at s j
  there j apart = ap (λ (z : Inputs). slot_at z j) (sym put_is) ∙ slot_other s i slot j apart

  -- the hold of input i is that of the new slot and lists
  pub held_own : held_of (put_slot s i slot) m i ≡ held_for m i slot
  held_own = ap (λ (z : Inputs). held_of z m i) put_is ∙ (λ t. held_for m i (here t))

  -- those of another input stay
  pub window_other : (j : ℕ) → j < s.count → (j ≡ i → ⊥) → window_of (put_slot s i slot) m j ≡ window_of s l j
  unfolding buckets_in
  window_other j g apart =
      ap (λ (z : Inputs). window_of z m j) put_is
      ∙ (λ t. record {
        seconds = (there j apart t).lag_seconds;
        buckets = buckets_in s;
        width = s.width;
        starts = beside.starts j g apart t;
        totals = beside.totals j g apart t;
        counts = beside.counts j g apart t;
      })

  pub sums_other : (j : ℕ) → j < s.count → (j ≡ i → ⊥) → sums_of (put_slot s i slot) m j ≡ sums_of s l j
  unfolding buckets_in
  sums_other j g apart = ap (λ (z : Inputs). sums_of z m j) put_is ∙ beside.sums j g apart

  pub held_other : (j : ℕ) → j < s.count → (j ≡ i → ⊥) → held_of (put_slot s i slot) m j ≡ held_of s l j
  held_other j g apart =
      ap (λ (z : Inputs). held_of z m j) put_is
      ∙ (λ t. record { hold = (there j apart t).hold; times = beside.times j g apart t; lags = beside.peaks j g apart t })

  other_input : (j : ℕ) → j < s.count → (j ≡ i → ⊥) → WholeInput after m j
  other_input j g apart =
      let w : WholeInput s l j = c.whole.inputs j g in
      record {
        window = ap whole_window (ap (λ (z : Inputs). window_of z m j) (sym put_is) ∙ window_other j g apart) ∙ w.window;
        sums = (λ t. right_sums (window_of (sym put_is t) m j) (sums_of (sym put_is t) m j)) ∙ (λ t. right_sums (window_other j g apart t) (sums_other j g apart t)) ∙ w.sums;
        hold = ap (whole_hold s.policy s.width) (ap (λ (z : Inputs). held_of z m j) (sym put_is) ∙ held_other j g apart) ∙ w.hold;
        slot = subst (λ (x : Slot). WholeSlot s.policy.delay_max s.flow_count x) (sym (there j apart)) w.slot;
      }

  -- the tables
  same_flows : WholeFlows after
  unfolding known flow_at entry_at
  same_flows = record {
    most = c.whole.flows.most;
    distinct = distinct_cong s after refl (λ j. refl) ∙ c.whole.flows.distinct;
    unused = c.whole.flows.unused;
  }

  same_instances : WholeInstances after
  unfolding key_at distinct_keys key_below keys.keys_held
  same_instances = record {
    most = c.whole.instances.most;
    distinct = c.whole.instances.distinct;
    known = c.whole.instances.known;
    unused = c.whole.instances.unused;
  }

  -- a new slot and new lists of input i that are whole: the record stays whole
  pub input_keeps : whole_window (window_for s m i slot) ≡ true → right_sums (window_for s m i slot) (sums_of s m i) ≡ true → whole_hold s.policy s.width (held_for m i slot) ≡ true → WholeSlot s.policy.delay_max s.flow_count slot → Checked (put_slot s i slot) m
  unfolding buckets_in
  input_keeps window sums hold fits =
      subst (λ (z : Inputs). Checked z m) (sym put_is)
      (record {
        fitting = record { allowed = c.fitting.allowed; long = beside.long };
        sized = record { slots = length-set s.slots i slot ∙ c.sized.slots; flows = c.sized.flows; instances = c.sized.instances };
        whole =
            record {
              inputs = λ j g. by_bool (eqb j i) (λ e. subst (λ (k : ℕ). WholeInput after m k) (sym (eqb-true j i e)) new_input) (λ e. other_input j g (eqb-false j i e));
              unused = λ j g. there j (λ e. omega arith) ∙ c.whole.unused j g;
              flows = same_flows;
              instances = same_instances;
            };
      })
    where
      new_input : WholeInput after m i
      new_input = record {
        window = (λ t. whole_window (window_for s m i (here t))) ∙ window;
        sums = (λ t. right_sums (window_for s m i (here t)) (sums_of s m i)) ∙ sums;
        hold = (λ t. whole_hold s.policy s.width (held_for m i (here t))) ∙ hold;
        slot = subst (λ (x : Slot). WholeSlot s.policy.delay_max s.flow_count x) (sym here) fits;
      }

-- ---- the lists of input i replaced, and read again
module _ (s : Inputs) (l : Lists) (i : ℕ) (slot : Slot) (c : Checked s l) (h : i < s.count) where
  module _ (w : Window) (sound : Sound w) (buckets : w.buckets ≡ buckets_in s) (width : w.width ≡ s.width) where
    counts_long : length w.counts ≡ 11 * buckets_in s
    counts_long = sound.shaped.counts_long ∙ ap (λ (b : ℕ). 11 * b) buckets

    pub window_beside : Beside s.count (buckets_in s) i l (with_window (buckets_in s) i w l)
    window_beside = beside_window s.count (buckets_in s) i l c.fitting.long h w sound.shaped.starts_long sound.shaped.totals_long counts_long buckets

    pub window_read : slot.lag_seconds ≡ w.seconds → window_for s (with_window (buckets_in s) i w l) i slot ≡ w
    window_read e =
        (λ t. part_of i (windowed (e t) (buckets_in s) s.width (with_window (buckets_in s) i w l).starts (with_window (buckets_in s) i w l).totals (with_window (buckets_in s) i w l).counts))
        ∙ window_same s.count (buckets_in s) i l c.fitting.long h w sound.shaped.starts_long sound.shaped.totals_long counts_long buckets s.width
        ∙ (λ t. record { seconds = w.seconds; buckets = sym buckets t; width = sym width t; starts = w.starts; totals = w.totals; counts = w.counts })

    -- the sums that stand there now are right
    pub sums_read : slot.lag_seconds ≡ w.seconds → right_sums (window_for s (with_window (buckets_in s) i w l) i slot) (sums_of s (with_window (buckets_in s) i w l) i) ≡ true
    sums_read e =
        (λ t. right_sums (window_read e t) (sums_same s.count (buckets_in s) i l c.fitting.long h w sound.shaped.starts_long sound.shaped.totals_long counts_long buckets t))
        ∙ own_sums_right w

  module _ (v : Held) (times : length v.times ≡ 600) (lags : length v.lags ≡ 600) where
    pub held_beside : Beside s.count (buckets_in s) i l (with_held i v l)
    held_beside = beside_held s.count (buckets_in s) i l c.fitting.long h v times lags

    pub held_read : slot.hold ≡ v.hold → held_for (with_held i v l) i slot ≡ v
    held_read e =
        (λ t. held (e t) (part (i * 600) 600 (with_held i v l).times) (part (i * 600) 600 (with_held i v l).peaks))
        ∙ held_same s.count (buckets_in s) i l c.fitting.long h v times lags

  -- ---- the record stays checked
  module _ (fits : WholeSlot s.policy.delay_max s.flow_count slot) where
    -- the window, its sums and the hold of the old slot serve the new one
    old_window : slot.lag_seconds ≡ (slot_at s i).lag_seconds → whole_window (window_for s l i slot) ≡ true
    old_window e =
        (λ t. whole_window (part_of i (windowed (e t) (buckets_in s) s.width l.starts l.totals l.counts)))
        ∙ (c.whole.inputs i h).window

    old_sums : slot.lag_seconds ≡ (slot_at s i).lag_seconds → right_sums (window_for s l i slot) (sums_of s l i) ≡ true
    old_sums e =
        (λ t. right_sums (part_of i (windowed (e t) (buckets_in s) s.width l.starts l.totals l.counts)) (sums_of s l i))
        ∙ (c.whole.inputs i h).sums

    old_hold : slot.hold ≡ (slot_at s i).hold → whole_hold s.policy s.width (held_for l i slot) ≡ true
    old_hold e =
        (λ t. whole_hold s.policy s.width (held (e t) (part (i * 600) 600 l.times) (part (i * 600) 600 l.peaks)))
        ∙ (c.whole.inputs i h).hold

    -- the slot is changed, but for its seconds and its hold
    pub slot_keeps : slot.lag_seconds ≡ (slot_at s i).lag_seconds → slot.hold ≡ (slot_at s i).hold → Checked (put_slot s i slot) l
    slot_keeps seconds hold = input_keeps s l l i slot c h (beside_same s.count (buckets_in s) i l c.fitting.long) (old_window seconds) (old_sums seconds) (old_hold hold) fits

    module _ (w : Window) (sound : Sound w) (buckets : w.buckets ≡ buckets_in s) (width : w.width ≡ s.width) where
      new_window : slot.lag_seconds ≡ w.seconds → whole_window (window_for s (with_window (buckets_in s) i w l) i slot) ≡ true
      new_window e = ap whole_window (window_read w sound buckets width e) ∙ sound.whole

      -- the window is replaced too
      pub window_keeps : slot.lag_seconds ≡ w.seconds → slot.hold ≡ (slot_at s i).hold → Checked (put_slot s i slot) (with_window (buckets_in s) i w l)
      window_keeps seconds hold = input_keeps s l (with_window (buckets_in s) i w l) i slot c h (window_beside w sound buckets width) (new_window seconds) (sums_read w sound buckets width seconds) (old_hold hold) fits

    module _ (v : Held) (times : length v.times ≡ 600) (lags : length v.lags ≡ 600) (whole : whole_hold s.policy s.width v ≡ true) where
      new_hold : slot.hold ≡ v.hold → whole_hold s.policy s.width (held_for (with_held i v l) i slot) ≡ true
      new_hold e = ap (whole_hold s.policy s.width) (held_read v times lags e) ∙ whole

      -- the hold is replaced too
      pub hold_keeps : slot.lag_seconds ≡ (slot_at s i).lag_seconds → slot.hold ≡ v.hold → Checked (put_slot s i slot) (with_held i v l)
      hold_keeps seconds hold = input_keeps s l (with_held i v l) i slot c h (held_beside v times lags) (old_window seconds) (old_sums seconds) (new_hold hold) fits

      -- both are replaced: the lists of the one are not those of the other
      module _ (w : Window) (sound : Sound w) (buckets : w.buckets ≡ buckets_in s) (width : w.width ≡ s.width) where
        pub both_beside : Beside s.count (buckets_in s) i l (with_held i v (with_window (buckets_in s) i w l))
        both_beside =
            let first : Beside s.count (buckets_in s) i l (with_window (buckets_in s) i w l) = window_beside w sound buckets width in
            beside_then s.count (buckets_in s) i l (with_window (buckets_in s) i w l) (with_held i v (with_window (buckets_in s) i w l)) first (beside_held s.count (buckets_in s) i (with_window (buckets_in s) i w l) first.long h v times lags)

        pub both_keep : slot.lag_seconds ≡ w.seconds → slot.hold ≡ v.hold → Checked (put_slot s i slot) (with_held i v (with_window (buckets_in s) i w l))
        both_keep seconds hold = input_keeps s l (with_held i v (with_window (buckets_in s) i w l)) i slot c h both_beside (new_window w sound buckets width seconds) (sums_read w sound buckets width seconds) (new_hold hold) fits

    -- both are cleared
    pub cleared_keeps : slot.lag_seconds ≡ 0 → slot.hold ≡ fresh_hold → Checked (put_slot s i slot) (with_held i (cleared_hold (held_of s l i)) (with_window (buckets_in s) i (fresh (buckets_in s) s.width) l))
    unfolding fresh
    cleared_keeps seconds hold =
        both_keep (cleared_hold (held_of s l i))
        (length-replicate {A = ℕ} (length (held_of s l i).times) 0 ∙ held_times s l c.fitting i h)
        (length-replicate {A = ℕ} (length (held_of s l i).lags) 0 ∙ held_lags s l c.fitting i h)
        (cleared_whole s.policy s.width (held_of s l i) c.fitting.allowed.window_least)
        (fresh (buckets_in s) s.width) (fresh_sound s l c.fitting) refl refl
        seconds hold
