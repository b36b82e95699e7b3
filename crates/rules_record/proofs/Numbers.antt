-- Check 8 after 1 to 7, and the call's own check after it. Assumes nothing.
use Rattle.std.specs.Prelude.{◌≡◌, ℕ, ◌*◌, ◌<◌, ◌≤◌}
use mathlib.Core.Path.{sym, ◌∙◌}
use native.Mathlib.Omega.{arith}
use borrow.Author.Tests.{leb-true, eqb-true, le-leb, lt-leb}
use Rattle.base.specs.Limits.{time_limit, timely, counter_limit}
use Rattle.base.proofs.Choices.{yes_ask, no_ask, asked, by_bool, by_zero}
use Rattle.rules_record.specs.declared.Inputs.{Inputs}
use Rattle.rules_record.specs.Inputs.{slot_at}
use Rattle.rules_record.specs.declared.Output.TheVariants.{Words}
use Rattle.rules_record.specs.Lent.{Lists}
use Rattle.rules_record.specs.Checks.{record_number, input_number, timed_number, Fitting}
use Rattle.rules_record.specs.Facts.{Whole}
use Rattle.rules_record.proofs.Checked.{settings_told, checked_output}
use Rattle.rules_record.proofs.InputNumbers as seven

-- ---- 7 and 8 after 1 to 6
module _ (s : Inputs) (l : Lists) (words input time : ℕ) {n : ℕ} (is-record : n ≡ record_number s l (Words words) 0) where
  pub record_refused : (n ≡ 0 → ⊥) → n ≡ timed_number s l words input time 0
  unfolding timed_number
  record_refused h = seven.record_refused s l (Words words) input is-record h _

  module _ (passed : n ≡ 0) where
    pub input_missing : s.count ≤ input → 7 ≡ timed_number s l words input time 0
    unfolding timed_number
    input_missing h = seven.input_missing s l (Words words) input is-record passed h _

    module _ (there : input < s.count) where
      pub input_late : time_limit < time → 8 ≡ timed_number s l words input time 0
      unfolding timed_number
      input_late h = sym (no_ask 8 0 (lt-leb _ _ h)) ∙ seven.input_there s l (Words words) input is-record passed there _

      pub input_timely : time ≤ time_limit → 0 ≡ timed_number s l words input time 0
      unfolding timed_number
      input_timely h = sym (yes_ask 8 0 (le-leb _ _ h)) ∙ seven.input_there s l (Words words) input is-record passed there _

-- ---- another check after 8
module _ (s : Inputs) (l : Lists) (words input time : ℕ) where
  -- what number 0 says
  pub input_told : (rest : ℕ) → timed_number s l words input time rest ≡ 0 → (record_number s l (Words words) 0 ≡ 0) × (input < s.count) × (time ≤ time_limit) × (rest ≡ 0)
  unfolding timed_number
  input_told rest h =
      let told = seven.input_told s l (Words words) input _ h in
      let eight = asked 7 _ _ told.2 in
      (told.0, told.1, leb-true _ _ eight.0, eight.1)

  input_passed : timed_number s l words input time 0 ≡ 0 → (rest : ℕ) → timed_number s l words input time rest ≡ rest
  unfolding timed_number
  input_passed h rest =
      let told = input_told 0 h in
      seven.input_passed s l (Words words) input told.0 told.1 _ ∙ yes_ask 8 rest (le-leb _ _ told.2)

  input_refused : (timed_number s l words input time 0 ≡ 0 → ⊥) → (rest : ℕ) → timed_number s l words input time rest ≡ timed_number s l words input time 0
  unfolding timed_number
  input_refused h rest =
      by_zero (input_number s l (Words words) input 0)
      (λ e.
      let told = seven.input_told s l (Words words) input 0 e in
      by_bool (timely time)
      (λ soon. absurd (h (seven.input_passed s l (Words words) input told.0 told.1 _ ∙ yes_ask 8 0 soon)))
      (λ late. seven.input_passed s l (Words words) input told.0 told.1 _ ∙ no_ask 8 rest late ∙ sym (seven.input_passed s l (Words words) input told.0 told.1 _ ∙ no_ask 8 0 late)))
      (λ e. seven.input_refused s l (Words words) input e _ ∙ sym (seven.input_refused s l (Words words) input e _))

  module _ {n : ℕ} (is-input : n ≡ timed_number s l words input time 0) where
    pub refused_by : (n ≡ 0 → ⊥) → (rest : ℕ) → n ≡ timed_number s l words input time rest
    refused_by h rest = is-input ∙ sym (input_refused (λ e. h (is-input ∙ e)) rest)

    pub passed_by_law : n ≡ 0 → {rest : ℕ} (number : ℕ) → rest ≡ number → number ≡ timed_number s l words input time rest
    passed_by_law passed number e = sym (input_passed (sym is-input ∙ passed) _ ∙ e)

-- ---- what an accepted call has
module _ (s : Inputs) (l : Lists) (words : ℕ) where
  pub record_fitting : record_number s l (Words words) 0 ≡ 0 → Fitting s l
  record_fitting h = let p = (settings_told s l (Words words) 0 h).0 in record { allowed = p.allowed; long = p.long }

  pub record_whole : record_number s l (Words words) 0 ≡ 0 → Whole s l
  record_whole h = (settings_told s l (Words words) 0 h).0.whole

  pub record_room : record_number s l (Words words) 0 ≡ 0 → 3 ≤ words
  record_room h = omega (arith, eqb-true words (s.count * 12) (checked_output s l (Words words) h), (record_fitting h).allowed.least)

  module _ (input time rest : ℕ) (accepted : timed_number s l words input time rest ≡ 0) where
    abbrev told : (record_number s l (Words words) 0 ≡ 0) × (input < s.count) × (time ≤ time_limit) × (rest ≡ 0)
    told = input_told s l words input time rest accepted

    pub call_fitting : Fitting s l
    call_fitting = record_fitting told.0

    pub call_input : input < s.count
    call_input = told.1

    pub call_low : input < 16
    call_low = omega (arith, told.1, call_fitting.allowed.most)

    pub call_timely : time ≤ time_limit
    call_timely = told.2

    pub call_room : 3 ≤ words
    call_room = record_room told.0

    pub call_changes : (slot_at s input).delay_changes < counter_limit
    call_changes = ((record_whole told.0).inputs input told.1).slot.changes
