-- The number of `new`: checks 1 to 5, then the time (8), then the room for the loaded flows (9). Assumes nothing.
use Prim.Native.Nat.{ℕ, ◌<◌, ◌≤◌, ◌*◌}
use mathlib.Core.Bool.{true, false}
use mathlib.Core.Path.{◌≡◌, refl, sym, ◌∙◌}
use mathlib.Core.List.{List}
use lib.ListN.{length}
use lib.Dec.{eqb}
use borrow.Author.Tests.{leb-true, lt-leb, le-leb}
use Rattle.base.specs.Limits.{time_limit}
use Rattle.base.proofs.Choices.{yes_ask, no_ask, asked, same_refusal, by_zero}
use Rattle.buckets.specs.Ranges.{Ranged}
use Rattle.buckets.proofs.Told.{ranges_told, ranges_passed, same_ranges}
use Rattle.rules_record.specs.Lent.{Lists, buckets_in}
use Rattle.rules_record.specs.declared.Output.TheVariants.{Words}
use Rattle.rules_record.specs.Checks.{inputs_allowed, pauses_allowed, lists_fit, output_fits}
use Rattle.rules_calls.specs.declared.Settings.{Settings}
use Rattle.rules_calls.specs.NewRecord.{blank_for, policy_of}
use Rattle.rules_calls.specs.NewLoading.{load_fits}
use Rattle.rules_calls.specs.NewChecks.{settings_number, new_number, margin_fits}

-- ---- checks 1 to 5: the number with others after them is theirs where this is 0, else this
module _ (settings : Settings) (bytes delays : ℕ) (l : Lists) (words : ℕ) where
  settings_refused : (settings_number settings bytes delays l words 0 ≡ 0 → ⊥) → (rest : ℕ) → settings_number settings bytes delays l words rest ≡ settings_number settings bytes delays l words 0
  unfolding settings_number
  settings_refused h rest = same_refusal 1 _ (same_ranges _ _ _ (same_refusal 3 _ (same_refusal 4 _ (same_refusal 5 _ (same_refusal 5 _ (same_refusal 5 _ (λ none. absurd (none refl)))))))) h

  -- number 0 says that each of them held, and that those after them gave 0
  pub settings_asked : (rest : ℕ) → settings_number settings bytes delays l words rest ≡ 0
      → (inputs_allowed settings.count ≡ true)
      × Ranged settings.read_offset settings.delay_max settings.width
      × (pauses_allowed (policy_of settings) settings.stall ≡ true)
      × (margin_fits settings ≡ true)
      × (lists_fit settings.count (buckets_in (blank_for settings)) l ≡ true)
      × (output_fits settings.count (Words words) ≡ true)
      × (eqb bytes (delays * 16) ≡ true)
      × (rest ≡ 0)
  unfolding settings_number
  settings_asked rest h =
      let a = asked 0 _ _ h in
      let b = ranges_told _ _ _ _ a.1 in
      let c = asked 2 _ _ b.1 in
      let d = asked 3 _ _ c.1 in
      let e = asked 4 _ _ d.1 in
      let f = asked 4 _ _ e.1 in
      let g = asked 4 _ _ f.1 in
      (a.0, b.0, c.0, d.0, e.0, f.0, g.0, g.1)

  settings_passed : settings_number settings bytes delays l words 0 ≡ 0 → (rest : ℕ) → settings_number settings bytes delays l words rest ≡ rest
  unfolding settings_number
  settings_passed h rest =
      let a = settings_asked 0 h in
      yes_ask 1 _ a.0 ∙ ranges_passed _ _ _ a.1 _ ∙ yes_ask 3 _ a.2 ∙ yes_ask 4 _ a.3 ∙ yes_ask 5 _ a.4 ∙ yes_ask 5 _ a.5 ∙ yes_ask 5 _ a.6

-- ---- 8 and 9 after them
module _ (settings : Settings) (bytes delays : List ℕ) (time : ℕ) (l : Lists) (words : ℕ) where
  pub number_refused : (settings_number settings (length bytes) (length delays) l words 0 ≡ 0 → ⊥) → new_number settings bytes delays time l words ≡ settings_number settings (length bytes) (length delays) l words 0
  unfolding new_number
  number_refused h = settings_refused settings (length bytes) (length delays) l words h _

  module _ (passed : settings_number settings (length bytes) (length delays) l words 0 ≡ 0) where
    -- a late call gets 8, whether its flows have room or not
    pub number_late : time_limit < time → new_number settings bytes delays time l words ≡ 8
    unfolding new_number
    number_late late = settings_passed settings (length bytes) (length delays) l words passed _ ∙ no_ask 8 _ (lt-leb _ _ late)

    pub number_full : time ≤ time_limit → load_fits (length delays) bytes delays (blank_for settings) ≡ false → new_number settings bytes delays time l words ≡ 9
    unfolding new_number
    number_full soon full = settings_passed settings (length bytes) (length delays) l words passed _ ∙ yes_ask 8 _ (le-leb _ _ soon) ∙ no_ask 9 _ full

    pub number_none : time ≤ time_limit → load_fits (length delays) bytes delays (blank_for settings) ≡ true → new_number settings bytes delays time l words ≡ 0
    unfolding new_number
    number_none soon fits = settings_passed settings (length bytes) (length delays) l words passed _ ∙ yes_ask 8 _ (le-leb _ _ soon) ∙ yes_ask 9 _ fits

  -- what number 0 says
  pub number_told : new_number settings bytes delays time l words ≡ 0 → (settings_number settings (length bytes) (length delays) l words 0 ≡ 0) × (time ≤ time_limit) × (load_fits (length delays) bytes delays (blank_for settings) ≡ true)
  unfolding new_number
  number_told h =
      by_zero (settings_number settings (length bytes) (length delays) l words 0)
      (λ e.
      let a = asked 7 _ _ (sym (settings_passed settings (length bytes) (length delays) l words e _) ∙ h) in
      let b = asked 8 _ _ a.1 in
      (e, leb-true _ _ a.0, b.0))
      (λ e. absurd (e (sym (settings_refused settings (length bytes) (length delays) l words e _) ∙ h)))
