-- Check 7 after 1 to 6, of a call that writes to a list or to none, and other checks after it. Assumes nothing.
use Rattle.std.specs.Prelude.{◌≡◌, ℕ, ◌<◌, ◌≤◌, ltb}
use mathlib.Core.Path.{sym, ◌∙◌}
use borrow.Author.Tests.{ltb-true, lt-ltb, le-ltb}
use Rattle.base.proofs.Choices.{yes_ask, no_ask, asked, by_bool, by_zero}
use Rattle.rules_record.specs.declared.Inputs.{Inputs}
use Rattle.rules_record.specs.declared.Output.{Output}
use Rattle.rules_record.specs.Lent.{Lists}
use Rattle.rules_record.specs.Checks.{record_number, input_number}
use Rattle.rules_record.proofs.Checked.{number_passed, number_refused}

module _ (s : Inputs) (l : Lists) (output : Output) (input : ℕ) where
  -- 1 to 6 are asked first
  pub record_refused : {n : ℕ} → n ≡ record_number s l output 0 → (n ≡ 0 → ⊥) → (rest : ℕ) → n ≡ input_number s l output input rest
  unfolding input_number
  record_refused is-record h rest = is-record ∙ sym (number_refused s l output (λ e. h (is-record ∙ e)) _)

  pub input_passed : record_number s l output 0 ≡ 0 → input < s.count → (rest : ℕ) → input_number s l output input rest ≡ rest
  unfolding input_number
  input_passed e there rest = number_passed s l output e _ ∙ yes_ask 7 rest (lt-ltb _ _ there)

  -- what number 0 says
  pub input_told : (rest : ℕ) → input_number s l output input rest ≡ 0 → (record_number s l output 0 ≡ 0) × (input < s.count) × (rest ≡ 0)
  unfolding input_number
  input_told rest h =
      by_zero (record_number s l output 0)
      (λ e. let a = asked 6 _ _ (sym (number_passed s l output e _) ∙ h) in (e, ltb-true _ _ a.0, a.1))
      (λ e. absurd (e (sym (number_refused s l output e _) ∙ h)))

  pub input_refused : (input_number s l output input 0 ≡ 0 → ⊥) → (rest : ℕ) → input_number s l output input rest ≡ input_number s l output input 0
  unfolding input_number
  input_refused h rest =
      by_zero (record_number s l output 0)
      (λ e. by_bool (ltb input s.count) (λ yes. absurd (h (number_passed s l output e _ ∙ yes_ask 7 0 yes))) (λ no. number_passed s l output e _ ∙ no_ask 7 rest no ∙ sym (number_passed s l output e _ ∙ no_ask 7 0 no)))
      (λ e. number_refused s l output e _ ∙ sym (number_refused s l output e _))

  -- ---- from the number of 1 to 6
  module _ {n : ℕ} (is-record : n ≡ record_number s l output 0) (passed : n ≡ 0) where
    pub input_missing : s.count ≤ input → (rest : ℕ) → 7 ≡ input_number s l output input rest
    unfolding input_number
    input_missing h rest = sym (number_passed s l output (sym is-record ∙ passed) _ ∙ no_ask 7 rest (le-ltb _ _ h))

    pub input_there : input < s.count → (rest : ℕ) → rest ≡ input_number s l output input rest
    input_there h rest = sym (input_passed (sym is-record ∙ passed) h rest)

  -- ---- from the number of 1 to 7
  module _ {n : ℕ} (is-input : n ≡ input_number s l output input 0) where
    pub refused_by : (n ≡ 0 → ⊥) → (rest : ℕ) → n ≡ input_number s l output input rest
    refused_by h rest = is-input ∙ sym (input_refused (λ e. h (is-input ∙ e)) rest)

    pub passed_by_law : n ≡ 0 → {rest : ℕ} (number : ℕ) → rest ≡ number → number ≡ input_number s l output input rest
    passed_by_law passed number e = let told = input_told 0 (sym is-input ∙ passed) in sym (input_passed told.0 told.1 _ ∙ e)
