-- Checks 1 to 6 are asked in their order: where one says no its number is the answer, whatever the later ones say; and their numbers are the
-- record's own. Assumes nothing.
use Rattle.std.specs.Prelude.{◌≡◌, ℕ, zero, suc, ◌≤◌, Bool, true, false, [], ◌∷◌}
use mathlib.Core.Path.{refl, sym, ap, ◌∙◌}
use native.Mathlib.Omega.{arith}
use Rattle.base.specs.Choice.{ask}
use Rattle.base.proofs.Choices.{yes_ask, no_ask}
use Rattle.base.proofs.Tests.{not_both}
use Rattle.buckets.specs.Ranges.{reaches_allowed, width_allowed, buckets_few, ranges_number, Ranged}
use Rattle.buckets.proofs.Told.{ranges_passed, reaches_first, width_next, buckets_last}
use Rattle.policy.specs.Settings.{margins_allowed}
use Rattle.rules_record.specs.declared.Inputs.{Inputs}
use Rattle.rules_record.specs.declared.Output.{Output}
use Rattle.rules_record.specs.Lent.{Lists, buckets_in, buckets_for}
use Rattle.rules_record.specs.WholeRecord.{whole_record}
use Rattle.rules_record.specs.Checks.{inputs_allowed, pauses_allowed, lists_fit, output_fits, record_number, own_number}

-- "Asked in this order ..; a no ends it with that number"
module _ (s : Inputs) (l : Lists) (output : Output) (rest : ℕ) where
  -- 1 before 2
  pub inputs_before_ranges : inputs_allowed s.count ≡ false → record_number s l output rest ≡ 1
  unfolding record_number
  inputs_before_ranges no-inputs = no_ask 1 _ no-inputs

  module _ (inputs : inputs_allowed s.count ≡ true) where
    -- 2 before 17, 17 before 18, 18 before 3
    pub reaches_before_width : reaches_allowed s.policy.read_offset s.policy.delay_max ≡ false → record_number s l output rest ≡ 2
    unfolding record_number
    reaches_before_width far = yes_ask 1 _ inputs ∙ reaches_first _ _ _ _ far

    module _ (near : reaches_allowed s.policy.read_offset s.policy.delay_max ≡ true) where
      pub width_before_buckets : width_allowed s.width ≡ false → record_number s l output rest ≡ 17
      unfolding record_number
      width_before_buckets outside = yes_ask 1 _ inputs ∙ width_next _ _ _ _ near outside

      pub buckets_before_pauses : width_allowed s.width ≡ true → buckets_few (buckets_for s.policy s.width) ≡ false → record_number s l output rest ≡ 18
      unfolding record_number
      buckets_before_pauses inside many = yes_ask 1 _ inputs ∙ buckets_last _ _ _ _ near inside many

    module _ (ranged : Ranged s.policy.read_offset s.policy.delay_max s.width) where
      -- 3 before 4
      pub pauses_before_margins : pauses_allowed s.policy s.stall ≡ false → record_number s l output rest ≡ 3
      unfolding record_number
      pauses_before_margins no-pauses = yes_ask 1 _ inputs ∙ ranges_passed _ _ _ ranged _ ∙ no_ask 3 _ no-pauses

      module _ (pauses : pauses_allowed s.policy s.stall ≡ true) where
        -- 4 before 5
        pub margins_before_lists : margins_allowed s.policy ≡ false → record_number s l output rest ≡ 4
        unfolding record_number
        margins_before_lists no-margins = yes_ask 1 _ inputs ∙ ranges_passed _ _ _ ranged _ ∙ yes_ask 3 _ pauses ∙ no_ask 4 _ no-margins

        module _ (margins : margins_allowed s.policy ≡ true) where
          -- 5, of the lent lists and of the list that the call writes to, before 6
          pub lists_before_record : lists_fit s.count (buckets_in s) l ≡ false → record_number s l output rest ≡ 5
          unfolding record_number
          lists_before_record no-lists = yes_ask 1 _ inputs ∙ ranges_passed _ _ _ ranged _ ∙ yes_ask 3 _ pauses ∙ yes_ask 4 _ margins ∙ no_ask 5 _ no-lists

          module _ (lists : lists_fit s.count (buckets_in s) l ≡ true) where
            pub output_before_record : output_fits s.count output ≡ false → record_number s l output rest ≡ 5
            unfolding record_number
            output_before_record no_output =
                yes_ask 1 _ inputs ∙ ranges_passed _ _ _ ranged _ ∙ yes_ask 3 _ pauses ∙ yes_ask 4 _ margins ∙ yes_ask 5 _ lists ∙ no_ask 5 _ no_output

            -- 6 before those after it
            pub record_before_rest : output_fits s.count output ≡ true → whole_record s l ≡ false → record_number s l output rest ≡ 6
            unfolding record_number
            record_before_rest fits broken =
                yes_ask 1 _ inputs ∙ ranges_passed _ _ _ ranged _ ∙ yes_ask 3 _ pauses ∙ yes_ask 4 _ margins ∙ yes_ask 5 _ lists ∙ yes_ask 5 _ fits ∙ no_ask 6 _ broken

-- ---- the record's own numbers
-- 1 2 17 18 3 4 5 6 are, and 0 and document 01's other numbers are not
pub own_numbers :
    own_number 1 ∷ own_number 2 ∷ own_number 17 ∷ own_number 18 ∷ own_number 3 ∷ own_number 4 ∷ own_number 5 ∷ own_number 6 ∷ []
    ≡ true ∷ true ∷ true ∷ true ∷ true ∷ true ∷ true ∷ true ∷ []
unfolding own_number
own_numbers = refl

pub own_no_others :
    own_number 0 ∷ own_number 7 ∷ own_number 8 ∷ own_number 9 ∷ own_number 10 ∷ own_number 11 ∷ own_number 12 ∷ own_number 13 ∷ own_number 14 ∷ own_number 15 ∷ []
    ≡ false ∷ false ∷ false ∷ false ∷ false ∷ false ∷ false ∷ false ∷ false ∷ false ∷ []
unfolding own_number
own_no_others = refl

-- one that is not, and at most 6, is 0
pub own_to_six : (number : ℕ) → own_number number ≡ false → number ≤ 6 → number ≡ 0
unfolding own_number
own_to_six zero other few = refl
own_to_six (suc zero) other few = absurd (not_both refl other)
own_to_six (suc (suc zero)) other few = absurd (not_both refl other)
own_to_six (suc (suc (suc zero))) other few = absurd (not_both refl other)
own_to_six (suc (suc (suc (suc zero)))) other few = absurd (not_both refl other)
own_to_six (suc (suc (suc (suc (suc zero))))) other few = absurd (not_both refl other)
own_to_six (suc (suc (suc (suc (suc (suc zero)))))) other few = absurd (not_both refl other)
own_to_six (suc (suc (suc (suc (suc (suc (suc n))))))) other few = absurd (omega arith)

-- .. nor is it a number that is one of them
pub own_apart : (number own : ℕ) → own_number number ≡ false → own_number own ≡ true → number ≡ own → ⊥
own_apart number own other is e = not_both is (ap own_number (sym e) ∙ other)

-- every number that `record_number` itself answers is one of them
own_ask : (number : ℕ) (ok : Bool) {rest : ℕ} → own_number number ≡ true → ((rest ≡ 0 → ⊥) → own_number rest ≡ true) → (ask number ok rest ≡ 0 → ⊥) → own_number (ask number ok rest) ≡ true
unfolding ask
own_ask number true own later none = later none
own_ask number false own later none = own

own_ranges : (offset maximum width : ℕ) {rest : ℕ} → ((rest ≡ 0 → ⊥) → own_number rest ≡ true) → (ranges_number offset maximum width rest ≡ 0 → ⊥) → own_number (ranges_number offset maximum width rest) ≡ true
unfolding ranges_number own_number
own_ranges offset maximum width later = own_ask 2 _ refl (own_ask 17 _ refl (own_ask 18 _ refl later))

pub own_answers : (s : Inputs) (l : Lists) (output : Output) → (record_number s l output 0 ≡ 0 → ⊥) → own_number (record_number s l output 0) ≡ true
unfolding record_number own_number
own_answers s l output =
    own_ask 1 _ refl (own_ranges _ _ _ (own_ask 3 _ refl (own_ask 4 _ refl (own_ask 5 _ refl (own_ask 5 _ refl (own_ask 6 _ refl (λ none. absurd (none refl))))))))
