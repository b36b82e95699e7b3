-- The definitions of check 6 as the code comes to them. Assumes nothing.
use Rattle.std.specs.Prelude.{◌≡◌, ℕ, ◌+◌, ◌*◌, ◌<◌, ◌≤◌, Bool, true, eqb, ltb, length, get_or, take, drop}
use mathlib.Core.Path.{sym, ap, ◌∙◌}
use native.Mathlib.Nat.{mul-le-mul}
use native.Mathlib.Omega.{arith}
use mir.Syntax.{w64}
use mir.Val.{Fits}
use borrow.Author.Tests.{leb-true, lt-ltb, le-ltb}
use Rattle.base.specs.Choice.{pick}
use Rattle.base.specs.Limits.{buckets_limit}
use Rattle.base.specs.Lists.{part}
use Rattle.base.proofs.Choices.{yes_pick, no_pick}
use Rattle.base.proofs.Points.{both_true}
use Rattle.base.proofs.Blocks.{block_within}
use Rattle.policy.specs.declared.DelayPolicy.{DelayPolicy}
use Rattle.policy.specs.Settings.{Sound}
use Rattle.rules_window.specs.Window.{Window, windowed}
use Rattle.rules_window.specs.WholeWindow.{whole_with_sums}
use Rattle.rules_window.specs.Parts.{part_of, PartsIn}
use Rattle.delay_hold.specs.Next.{held}
use Rattle.delay_hold.specs.Whole.{whole_hold}
use Rattle.rules_record.specs.declared.FlowEntry.{FlowEntry}
use Rattle.rules_record.specs.declared.Slot.{Slot}
use Rattle.rules_record.specs.declared.Instance.{Instance}
use Rattle.rules_record.specs.declared.Inputs.{Inputs}
use Rattle.rules_record.specs.Slots.{empty_slot}
use Rattle.rules_record.specs.Inputs.{slot_at}
use Rattle.rules_record.proofs.SlotFrame.{slot_in}
use Rattle.rules_record.specs.Flows.{empty_entry, entry_at}
use Rattle.rules_record.specs.Instances.{no_key, key_at}
use Rattle.rules_record.specs.declared.Output.{Output}
use Rattle.rules_record.specs.declared.Output.TheVariants.{Words, Bytes}
use Rattle.rules_record.specs.Lent.{Lists, buckets_in, window_of, sums_of, held_of, buckets_for}
use Rattle.rules_record.specs.WholePlaces.{whole_slot, unused_entry, entry_fits, unused_key, key_fits, unused_slot}
use Rattle.rules_record.specs.WholeRecord.{whole_input, input_fits}
use Rattle.rules_record.specs.Checks.{inputs_allowed, lists_fit, output_fits, Fitting}
use Rattle.rules_record.proofs.Shapes.{window_held, sums_within}

-- ---- the parts of a slot
pub some_words : (n : ℕ) (output : Output) {words : ℕ} → output ≡ Words words → eqb words (n * 12) ≡ output_fits n output
some_words n output e = sym (ap (output_fits n) e)

pub some_bytes : (n : ℕ) (output : Output) {bytes exact : ℕ} → output ≡ Bytes bytes exact → eqb bytes exact ≡ output_fits n output
some_bytes n output e = sym (ap (output_fits n) e)

-- ---- a place of the flow table, and one of the instance table
module _ (s : Inputs) (place : ℕ) where
  pub told_entry : {r : Bool} → place < 64 → r ≡ pick (ltb place s.flow_count) true (unused_entry (get_or s.flows place empty_entry)) → r ≡ entry_fits s place
  unfolding entry_at
  told_entry l g = g ∙ ap (λ (x : FlowEntry). pick (ltb place s.flow_count) true (unused_entry x)) (sym (yes_pick _ _ (lt-ltb _ _ l)))

  pub told_key : {r : Bool} → place < 18 → r ≡ pick (ltb place s.instance_count) (ltb (get_or s.instances place no_key).flow s.flow_count) (unused_key (get_or s.instances place no_key)) → r ≡ key_fits s place
  unfolding key_at
  told_key l g = g ∙ ap (λ (x : Instance). pick (ltb place s.instance_count) (ltb x.flow s.flow_count) (unused_key x)) (sym (yes_pick _ _ (lt-ltb _ _ l)))

-- ---- checks 1 and 5
pub inputs_few : (n : ℕ) → inputs_allowed n ≡ true → n ≤ 16
unfolding inputs_allowed
inputs_few n h = leb-true _ _ (both_true _ _ h).1

pub counts_fit : (n buckets : ℕ) → n ≤ 16 → buckets ≤ buckets_limit → Fits w64 (n * (11 * buckets))
counts_fit n buckets h k = let rows : 11 * buckets ≤ 45056 = omega arith in omega (arith, mul-le-mul h rows)

pub sums_fit : (n buckets : ℕ) → n ≤ 16 → buckets ≤ buckets_limit → Fits w64 (n * buckets)
sums_fit n buckets h k = omega (arith, mul-le-mul h k)

pub told_lists : (s : Inputs) (l : Lists) {buckets : ℕ} {r : Bool} → buckets ≡ buckets_for s.policy s.width → r ≡ lists_fit s.count buckets l → r ≡ lists_fit s.count (buckets_in s) l
unfolding buckets_in
told_lists s l e g = g ∙ ap (λ (b : ℕ). lists_fit s.count b l) e

-- ---- input i
module _ (i : ℕ) (l : Lists) where
  -- the lists with the window of this slot
  abbrev lent_for : (width : ℕ) → Slot → (buckets : ℕ) → Window
  lent_for width slot buckets = windowed slot.lag_seconds buckets width l.starts l.totals l.counts

  -- what the calls told of a slot and settings is so of the record that has them
  module _ (s : Inputs) {policy : DelayPolicy} {width : ℕ} {slot : Slot} (p : policy ≡ s.policy) (w : width ≡ s.width) (e : slot ≡ slot_at s i) where
    -- .. of its window and its sums, which the code looks at in one pass
    pub told_window : {r : Bool} → r ≡ whole_with_sums (part_of i (lent_for width slot (buckets_for policy width))) (part (i * buckets_for policy width) (buckets_for policy width) l.sums) → r ≡ whole_with_sums (window_of s l i) (sums_of s l i)
    unfolding buckets_in
    told_window g =
        g
        ∙ (λ t. whole_with_sums (part_of i (lent_for (w t) (e t) (buckets_for (p t) (w t)))) (part (i * buckets_for (p t) (w t)) (buckets_for (p t) (w t)) l.sums))

    pub told_hold : {k : ℕ} {r : Bool} → k ≡ 600 → r ≡ whole_hold policy width (held slot.hold (take k (drop (i * 600) l.times)) (take k (drop (i * 600) l.peaks))) → r ≡ whole_hold s.policy s.width (held_of s l i)
    told_hold k g = g ∙ (λ t. whole_hold (p t) (w t) (held (e t).hold (take (k t) (drop (i * 600) l.times)) (take (k t) (drop (i * 600) l.peaks))))

    pub told_slot : {flows : ℕ} {r : Bool} → flows ≡ s.flow_count → r ≡ whole_slot policy.delay_max flows slot → r ≡ whole_slot s.policy.delay_max s.flow_count (slot_at s i)
    told_slot f g = g ∙ (λ t. whole_slot (p t).delay_max (f t) (e t))

  module _ (s : Inputs) where
    -- what `whole_input` asks
    pub input_asks : Fitting s l → i < s.count → Sound s.policy × (PartsIn i (lent_for s.width (get_or s.slots i empty_slot) (buckets_for s.policy s.width)) × ((i * buckets_for s.policy s.width + buckets_for s.policy s.width ≤ length l.sums) × ((i * 600 + 600 ≤ length l.times) × (i * 600 + 600 ≤ length l.peaks))))
    unfolding buckets_in
    input_asks f h = (
      f.allowed.sound,
      (
        window_held s l f i (get_or s.slots i empty_slot) h,
        (sums_within s l f i h, (omega (arith, block_within i s.count 600 h, f.long.times), omega (arith, block_within i s.count 600 h, f.long.peaks))),
      ),
    )

    pub told_input : {r : Bool} → i < s.count → r ≡ whole_input s l i → r ≡ input_fits s l i
    told_input h g = g ∙ sym (yes_pick _ _ (lt-ltb _ _ h))

    pub told_unused : {r : Bool} → s.count ≤ i → i < 16 → r ≡ unused_slot (get_or s.slots i empty_slot) → r ≡ input_fits s l i
    told_unused h low g = g ∙ ap unused_slot (slot_in s i low) ∙ sym (no_pick _ _ (le-ltb _ _ h))
