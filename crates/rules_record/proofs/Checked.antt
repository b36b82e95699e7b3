-- What the number 0 of checks 1 to 6 says, as facts, and back; and the number with other checks after them. Assumes nothing.
use Rattle.std.specs.Prelude.{◌≡◌, ℕ, true}
use mathlib.Core.Path.{refl, ◌∙◌}
use denote.Floats.{is_true}
use borrow.Author.Tests.{leb-true, eqb-true, le-leb, eq-eqb}
use Rattle.base.proofs.Choices.{yes_ask, asked, same_refusal}
use Rattle.base.proofs.Points.{both_true, true_both}
use Rattle.buckets.specs.Ranges.{Ranged}
use Rattle.buckets.proofs.Told.{reaches_yes, ranges_told, ranges_passed, same_ranges}
use Rattle.policy.specs.declared.DelayPolicy.{DelayPolicy}
use Rattle.policy.specs.Settings.{times_allowed, margins_allowed}
use Rattle.policy.proofs.Checks.{allowed_sound, allowed_times}
use Rattle.rules_record.specs.declared.Inputs.{Inputs}
use Rattle.rules_record.specs.Sized.{Sized}
use Rattle.rules_record.specs.declared.Output.{Output}
use Rattle.rules_record.specs.Lent.{Lists, buckets_in}
use Rattle.rules_record.specs.Checks.{inputs_allowed, pauses_allowed, lists_fit, output_fits, record_number, Allowed, Long}
use Rattle.rules_record.specs.Facts.{Whole, Checked}
use Rattle.rules_record.proofs.Facts.{whole_of, of_whole}

-- ---- 1 to 4
module _ (n : ℕ) (policy : DelayPolicy) (width stall : ℕ) where
  pub allowed_of : inputs_allowed n ≡ true → Ranged policy.read_offset policy.delay_max width → pauses_allowed policy stall ≡ true → margins_allowed policy ≡ true → Allowed n policy width stall
  unfolding inputs_allowed pauses_allowed
  allowed_of one ranged three four =
      let a = both_true _ _ one in
      let c = both_true _ _ three in
      let times = allowed_times policy c.0 in
      record {
        least = leb-true _ _ a.0;
        most = leb-true _ _ a.1;
        sound = allowed_sound policy (reaches_yes _ _ ranged.offset_most ranged.maximum_most) four;
        width_least = ranged.width_least;
        width_most = ranged.width_most;
        buckets_most = ranged.buckets_most;
        hold_most = times.0;
        window_least = times.1;
        window_most = times.2;
        stall_most = leb-true _ _ c.1;
      }

  module _ (f : Allowed n policy width stall) where
    pub one_yes : inputs_allowed n ≡ true
    unfolding inputs_allowed
    one_yes = true_both _ _ (le-leb _ _ f.least) (le-leb _ _ f.most)

    ranged_of : Ranged policy.read_offset policy.delay_max width
    ranged_of =
        record {
          offset_most = f.sound.offset;
          maximum_most = f.sound.maximum;
          width_least = f.width_least;
          width_most = f.width_most;
          buckets_most = f.buckets_most;
        }

    pub three_yes : pauses_allowed policy stall ≡ true
    unfolding pauses_allowed times_allowed
    three_yes =
        true_both _ _
        (true_both _ _ (le-leb _ _ f.hold_most) (true_both _ _ (le-leb _ _ f.window_least) (le-leb _ _ f.window_most)))
        (le-leb _ _ f.stall_most)

    pub four_yes : margins_allowed policy ≡ true
    unfolding margins_allowed
    four_yes = true_both _ _ (le-leb _ _ f.sound.margins) (true_both _ _ (is_true _ f.sound.low) (is_true _ f.sound.high))

-- ---- 5
module _ (n buckets : ℕ) (l : Lists) where
  pub long_of : lists_fit n buckets l ≡ true → Long n buckets l
  unfolding lists_fit
  long_of five =
      let d = both_true _ _ five in
      let d2 = both_true _ _ d.1 in
      let d3 = both_true _ _ d2.1 in
      let d4 = both_true _ _ d3.1 in
      let d5 = both_true _ _ d4.1 in
      record {
        starts = eqb-true _ _ d.0;
        totals = eqb-true _ _ d2.0;
        counts = eqb-true _ _ d3.0;
        sums = eqb-true _ _ d4.0;
        times = eqb-true _ _ d5.0;
        peaks = eqb-true _ _ d5.1;
      }

  pub five_yes : Long n buckets l → lists_fit n buckets l ≡ true
  unfolding lists_fit
  five_yes f =
      true_both _ _ (eq-eqb _ _ f.starts)
      (true_both _ _ (eq-eqb _ _ f.totals)
      (true_both _ _ (eq-eqb _ _ f.counts) (true_both _ _ (eq-eqb _ _ f.sums) (true_both _ _ (eq-eqb _ _ f.times) (eq-eqb _ _ f.peaks)))))

-- ---- 1 to 6

-- what they let through
pub record Passed (s : Inputs) (l : Lists) (output : Output) : Type 0 where
  pub allowed : Allowed s.count s.policy s.width s.stall
  pub long : Long s.count (buckets_in s) l
  pub output_fits_law : output_fits s.count output ≡ true
  pub whole : Whole s l

module _ (s : Inputs) (l : Lists) (output : Output) where
  -- what number 0 says of them, and of the checks after them
  pub settings_told : (rest : ℕ) → record_number s l output rest ≡ 0 → Passed s l output × (rest ≡ 0)
  unfolding record_number
  settings_told rest h =
      let one = asked 0 _ _ h in
      let ranges = ranges_told _ _ _ _ one.1 in
      let three = asked 2 _ _ ranges.1 in
      let four = asked 3 _ _ three.1 in
      let five = asked 4 _ _ four.1 in
      let also-five = asked 4 _ _ five.1 in
      let six = asked 5 _ _ also-five.1 in
      let allowed = allowed_of _ _ _ _ one.0 ranges.0 three.0 four.0 in
      (record { allowed = allowed; long = long_of _ _ l five.0; output_fits_law = also-five.0; whole = whole_of s l allowed.most six.0 }, six.1)

  -- where they let it through, the number is that of the checks after them
  pub passed_number : Passed s l output → (rest : ℕ) → record_number s l output rest ≡ rest
  unfolding record_number
  passed_number p rest =
      yes_ask 1 _ (one_yes _ _ _ _ p.allowed)
      ∙ ranges_passed _ _ _ (ranged_of _ _ _ _ p.allowed) _
      ∙ yes_ask 3 _ (three_yes _ _ _ _ p.allowed)
      ∙ yes_ask 4 _ (four_yes _ _ _ _ p.allowed)
      ∙ yes_ask 5 _ (five_yes _ _ _ p.long)
      ∙ yes_ask 5 _ p.output_fits_law
      ∙ yes_ask 6 _ (of_whole s l p.whole)

  -- a record with its tables, and a list to write to, that they let through
  pub checked : Sized s → record_number s l output 0 ≡ 0 → Checked s l
  checked sized h =
      let p = (settings_told 0 h).0 in
      record { fitting = record { allowed = p.allowed; long = p.long }; sized = sized; whole = p.whole }

  pub checked_output : record_number s l output 0 ≡ 0 → output_fits s.count output ≡ true
  checked_output h = (settings_told 0 h).0.output_fits_law

  pub of_checked : Checked s l → output_fits s.count output ≡ true → (rest : ℕ) → record_number s l output rest ≡ rest
  of_checked w fit rest = passed_number (record { allowed = w.fitting.allowed; long = w.fitting.long; output_fits_law = fit; whole = w.whole }) rest

  -- the number with other checks after these: theirs where this is 0, else this
  pub number_passed : record_number s l output 0 ≡ 0 → (rest : ℕ) → record_number s l output rest ≡ rest
  number_passed h rest = passed_number (settings_told 0 h).0 rest

  pub number_refused : (record_number s l output 0 ≡ 0 → ⊥) → (rest : ℕ) → record_number s l output rest ≡ record_number s l output 0
  unfolding record_number
  number_refused h rest = same_refusal 1 _ (same_ranges _ _ _ (same_refusal 3 _ (same_refusal 4 _ (same_refusal 5 _ (same_refusal 5 _ (same_refusal 6 _ (λ none. absurd (none refl)))))))) h
