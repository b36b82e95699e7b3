-- What an accepted tick has: the number 0 of its checks, as facts. Assumes nothing.
use Prim.Native.Nat.{ℕ, zero, suc, ◌+◌, ◌<◌, ◌≤◌}
use mathlib.Core.Bool.{true}
use mathlib.Core.Path.{◌≡◌, refl, sym, ap, ◌∙◌}
use mathlib.Core.List.{List}
use mathlib.Core.Logic.{⊎_elim}
use native.Mathlib.Nat.{eq-or-lt_of_le, le_of_suc-le-suc}
use native.Mathlib.Omega.{arith}
use borrow.Author.Tests.{leb-true, eqb-true}
use lib.ListN.{length, drop, length-drop}
use lib.Seq.{length-take-le}
use Rattle.base.specs.Limits.{time_limit}
use Rattle.base.specs.Lists.{sum}
use Rattle.base.proofs.Choices.{asked, by_zero}
use Rattle.base.proofs.Points.{both_true, all_at}
use Rattle.rules_window.specs.Checks.{room_for}
use Rattle.rules_record.specs.declared.Inputs.{Inputs}
use Rattle.rules_record.specs.Sized.{Sized}
use Rattle.rules_routing.specs.ReaderCheck.{reader_fits}
use Rattle.rules_record.specs.declared.Output.TheVariants.{Words}
use Rattle.rules_record.specs.Lent.{Lists, window_of}
use Rattle.rules_record.specs.Checks.{record_number}
use Rattle.rules_record.proofs.Checked.{checked, number_passed, number_refused}
use Rattle.rules_record.specs.Facts.{Checked}
use Rattle.rules_tick.specs.declared.Look.{Look}
use Rattle.rules_tick.specs.Looks.{look_at, lags_before, lags_of}
use Rattle.rules_tick.specs.TickChecks.{look_fits, looks_fit, lags_fit, rooms_fit, tick_number}

-- ---- the lags of an input
module _ (looks : List Look) where
  pub before_more : (n : ℕ) → lags_before looks (suc n) ≡ lags_before looks n + (look_at looks n).lags
  unfolding lags_before sum
  before_more n = refl

  -- those of input j stand before those of input n
  pub before_within : (n j : ℕ) → j < n → lags_before looks j + (look_at looks j).lags ≤ lags_before looks n
  before_within zero j h = absurd (omega arith)
  before_within (suc n) j h =
      ⊎_elim
      (λ e. omega (arith, before_more n, ap (λ (k : ℕ). lags_before looks k + (look_at looks k).lags) e))
      (λ k. omega (arith, before_more n, before_within n j k))
      (eq-or-lt_of_le (le_of_suc-le-suc h))

  -- where the counts add up to the lags, an input has as many as its look says
  pub lags_long : (lags : List ℕ) (n j : ℕ) → lags_before looks n ≡ length lags → j < n → length (lags_of looks lags j) ≡ (look_at looks j).lags
  unfolding lags_of
  lags_long lags n j total h =
      length-take-le (look_at looks j).lags (drop (lags_before looks j) lags)
      (omega (arith, length-drop (lags_before looks j) lags, before_within n j h, total))

-- ---- the checks
-- 8, 10 and 11, as facts
pub record Accepted (s : Inputs) (l : Lists) (looks : List Look) (lags : List ℕ) (time : ℕ) : Type 0 where
  pub timely : time ≤ time_limit
  pub applied : (j : ℕ) → j < s.count → (look_at looks j).applied ≤ s.policy.delay_max
  pub readers : (j : ℕ) → j < s.count → reader_fits (look_at looks j).world.reader ≡ true
  pub total : lags_before looks s.count ≡ length lags
  pub rooms : (j : ℕ) → j < s.count → room_for time (look_at looks j).lags (window_of s l j) ≡ true

module _ (s : Inputs) (l : Lists) (words : ℕ) (looks : List Look) (lags : List ℕ) (time : ℕ) (passed : tick_number s l words looks lags time ≡ 0) where
  -- 1 to 6
  pub tick_record : record_number s l (Words words) 0 ≡ 0
  unfolding tick_number
  tick_record =
      by_zero (record_number s l (Words words) 0) (λ e. e)
      (λ e. absurd (e (sym (number_refused s l (Words words) e _) ∙ passed)))

  pub tick_checked : Sized s → Checked s l
  tick_checked sized = checked s l (Words words) sized tick_record

  pub tick_accepted : Accepted s l looks lags time
  unfolding tick_number looks_fit lags_fit rooms_fit
  tick_accepted =
      let a = asked 7 _ _ (sym (number_passed s l (Words words) tick_record _) ∙ passed) in
      let b = asked 9 _ _ a.1 in
      let c = asked 9 _ _ b.1 in
      let d = asked 10 _ _ c.1 in
      record {
        timely = leb-true _ _ a.0;
        applied = λ j h. leb-true _ _ (both_true _ _ (all_at (λ i. look_fits s.policy.delay_max (look_at looks i)) s.count b.0 j h)).0;
        readers = λ j h. (both_true _ _ (all_at (λ i. look_fits s.policy.delay_max (look_at looks i)) s.count b.0 j h)).1;
        total = eqb-true _ _ c.0;
        rooms = λ j h. all_at (λ i. room_for time (look_at looks i).lags (window_of s l i)) s.count d.0 j h;
      }

-- 11 of the lags themselves
pub accepted_room : (s : Inputs) (l : Lists) (looks : List Look) (lags : List ℕ) (time : ℕ) → Accepted s l looks lags time → (j : ℕ) → j < s.count → room_for time (length (lags_of looks lags j)) (window_of s l j) ≡ true
accepted_room s l looks lags time a j h = ap (λ (n : ℕ). room_for time n (window_of s l j)) (lags_long looks lags s.count j a.total h) ∙ a.rooms j h
