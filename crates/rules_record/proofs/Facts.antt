-- What check 6 says of a record and its lists, fact by fact: from the test to the facts, and back. Assumes nothing.
use Rattle.std.specs.Prelude.{◌≡◌, ℕ, ◌≤◌, true}
use mathlib.Core.Path.{refl, sym, ap, ◌∙◌}
use native.Mathlib.Omega.{arith}
use borrow.Author.Tests.{leb-true, ltb-true, le-leb, lt-ltb, le-ltb}
use Rattle.base.proofs.Choices.{by_le, yes_pick, no_pick, lt_rule}
use Rattle.base.proofs.Points.{both_true, true_both, all_at, all_intro}
use Rattle.rules_record.specs.declared.Slot.{Slot}
use Rattle.rules_record.specs.declared.Inputs.{Inputs}
use Rattle.rules_record.specs.Slots.{empty_slot}
use Rattle.rules_record.specs.Inputs.{slot_at}
use Rattle.rules_record.specs.Flows.{empty_entry, entry_at}
use Rattle.rules_record.specs.Instances.{no_key, key_at}
use Rattle.rules_record.specs.Lent.{Lists}
use Rattle.rules_record.specs.WholePlaces.{whole_slot, unused_slot, unused_entry, entry_fits, entries_fit, whole_flows, unused_key, key_fits, keys_fit, whole_instances}
use Rattle.rules_record.specs.WholeRecord.{whole_input, input_fits, whole_inputs, whole_record}
use Rattle.rules_record.specs.Facts.{WholeSlot, WholeInput, WholeFlows, WholeInstances, Whole}
use Rattle.rules_record.proofs.Unused.{unused_slot_law, empty_slot_law, unused_entry_law, empty_entry_law, unused_key_law, no_key_law}

-- ---- one slot
module _ (maximum n : ℕ) (slot : Slot) where
  pub slot_of : whole_slot maximum n slot ≡ true → WholeSlot maximum n slot
  unfolding whole_slot
  slot_of h =
      let t1 = both_true _ _ h in
      let t2 = both_true _ _ t1.1 in
      let t3 = both_true _ _ t2.1 in
      let t4 = both_true _ _ t3.1 in
      let t5 = both_true _ _ t4.1 in
      let t6 = both_true _ _ t5.1 in
      let t7 = both_true _ _ t6.1 in
      let t8 = both_true _ _ t7.1 in
      record {
        delay = leb-true _ _ t1.0;
        proposed = t2.0;
        route = t3.0;
        reopens = ltb-true _ _ t4.0;
        changes = ltb-true _ _ t5.0;
        lates = ltb-true _ _ t6.0;
        head = leb-true _ _ t7.0;
        set = t8.0;
        opened = t8.1;
      }

  pub of_slot : WholeSlot maximum n slot → whole_slot maximum n slot ≡ true
  unfolding whole_slot
  of_slot w =
      true_both _ _ (le-leb _ _ w.delay)
      (true_both _ _ w.proposed
      (true_both _ _ w.route
      (true_both _ _ (lt-ltb _ _ w.reopens)
      (true_both _ _ (lt-ltb _ _ w.changes)
      (true_both _ _ (lt-ltb _ _ w.lates)
      (true_both _ _ (le-leb _ _ w.head) (true_both _ _ w.set w.opened)))))))

-- ---- one input
module _ (s : Inputs) (l : Lists) (i : ℕ) where
  pub input_of : whole_input s l i ≡ true → WholeInput s l i
  unfolding whole_input
  input_of h =
      let t1 = both_true _ _ h in
      let t2 = both_true _ _ t1.0 in
      let t3 = both_true _ _ t1.1 in
      record { window = t2.0; sums = t2.1; hold = t3.0; slot = slot_of _ _ _ t3.1 }

  pub of_input : WholeInput s l i → whole_input s l i ≡ true
  unfolding whole_input
  of_input w = true_both _ _ (true_both _ _ w.window w.sums) (true_both _ _ w.hold (of_slot _ _ _ w.slot))

-- ---- the tables
module _ (s : Inputs) where
  -- past its end a table has empty places
  entry_past : (place : ℕ) → 64 ≤ place → entry_at s place ≡ empty_entry
  unfolding entry_at
  entry_past place h = no_pick _ _ (le-ltb _ _ h)

  instance_past : (place : ℕ) → 18 ≤ place → key_at s place ≡ no_key
  unfolding key_at
  instance_past place h = no_pick _ _ (le-ltb _ _ h)

  slot_past : (i : ℕ) → 16 ≤ i → slot_at s i ≡ empty_slot
  unfolding slot_at
  slot_past i h = no_pick _ _ (le-ltb _ _ h)

  pub flows_of : whole_flows s ≡ true → WholeFlows s
  unfolding whole_flows entries_fit
  flows_of h =
      let t1 = both_true _ _ h in
      let t2 = both_true _ _ t1.1 in
      record {
        most = leb-true _ _ t1.0;
        distinct = t2.0;
        unused = λ place k. by_le 64 place (entry_past place) (λ m. unused_entry_law _ (sym (no_pick _ _ (le-ltb _ _ k)) ∙ all_at (entry_fits s) 64 t2.1 place m));
      }

  pub of_flows : WholeFlows s → whole_flows s ≡ true
  unfolding whole_flows entries_fit
  of_flows w =
      true_both _ _ (le-leb _ _ w.most)
      (true_both _ _ w.distinct
      (all_intro (entry_fits s) 64
      (λ place k. lt_rule place s.flow_count _ _ (λ b. b ≡ true) (λ m. refl) (λ m. ap unused_entry (w.unused place m) ∙ empty_entry_law))))

  pub instances_of : whole_instances s ≡ true → WholeInstances s
  unfolding whole_instances keys_fit
  instances_of h =
      let t1 = both_true _ _ h in
      let t2 = both_true _ _ t1.1 in
      let most : s.instance_count ≤ 17 = leb-true _ _ t1.0 in
      record {
        most = most;
        distinct = t2.0;
        known = λ place k. ltb-true _ _ (sym (yes_pick _ _ (lt-ltb _ _ k)) ∙ all_at (key_fits s) 18 t2.1 place (omega arith));
        unused = λ place k. by_le 18 place (instance_past place) (λ m. unused_key_law _ (sym (no_pick _ _ (le-ltb _ _ k)) ∙ all_at (key_fits s) 18 t2.1 place m));
      }

  pub of_instances : WholeInstances s → whole_instances s ≡ true
  unfolding whole_instances keys_fit
  of_instances w =
      true_both _ _ (le-leb _ _ w.most)
      (true_both _ _ w.distinct
      (all_intro (key_fits s) 18
      (λ place k. lt_rule place s.instance_count _ _ (λ b. b ≡ true) (λ m. lt-ltb _ _ (w.known place m)) (λ m. ap unused_key (w.unused place m) ∙ no_key_law))))

-- ---- the whole record
module _ (s : Inputs) (l : Lists) where
  pub whole_of : s.count ≤ 16 → whole_record s l ≡ true → Whole s l
  unfolding whole_record whole_inputs
  whole_of most h =
      let t1 = both_true _ _ h in
      let t2 = both_true _ _ t1.1 in
      record {
        inputs = λ i k. input_of s l i (sym (yes_pick _ _ (lt-ltb _ _ k)) ∙ all_at (input_fits s l) 16 t1.0 i (omega arith));
        unused = λ i k. by_le 16 i (slot_past s i) (λ m. unused_slot_law _ (sym (no_pick _ _ (le-ltb _ _ k)) ∙ all_at (input_fits s l) 16 t1.0 i m));
        flows = flows_of s t2.0;
        instances = instances_of s t2.1;
      }

  pub of_whole : Whole s l → whole_record s l ≡ true
  unfolding whole_record whole_inputs
  of_whole w =
      true_both _ _
      (all_intro (input_fits s l) 16
      (λ i k. lt_rule i s.count _ _ (λ b. b ≡ true) (λ m. of_input s l i (w.inputs i m)) (λ m. ap unused_slot (w.unused i m) ∙ empty_slot_law)))
      (true_both _ _ (of_flows s w.flows) (of_instances s w.instances))
