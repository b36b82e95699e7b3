-- The 0.999 quantile of an input, case by case, and that it is never more than a bucket above offset + maximum. Assumes nothing.
use Rattle.std.specs.Prelude.{None, Option}
use Prim.Native.Nat.{ℕ, ◌<◌, ◌≤◌}
use mathlib.Core.Bool.{true}
use mathlib.Core.Path.{◌≡◌, refl, sym, ap, ◌∙◌}
use mathlib.Core.List.{List}
use native.Mathlib.Nat.{add-mul}
use native.Mathlib.Omega.{arith}
use borrow.Author.Tests.{le-leb}
use lib.Dec.{leb}
use Rattle.base.specs.Limits.{nanos}
use Rattle.base.proofs.Choices.{le_yes, le_no, pick_rule}
use Rattle.policy.specs.declared.DelayPolicy.{DelayPolicy}
use Rattle.rules_window.specs.Quantile.{Quantile}
use Rattle.base.specs.Rows.{span_of}
use Rattle.rules_window.specs.Window.{Window}
use Rattle.rules_window.specs.Quantile.{quantile_upto, thousandths}
use Rattle.rules_window.specs.ColumnSums.{column_sums, as_one_second}
use Rattle.rules_window.proofs.Laws.{quantile_bucket}
use Rattle.rules_window.proofs.OneSecond.{same_quantile}
use Rattle.delay_hold.specs.Whole.{peak_most}
use Rattle.delay_hold.specs.Checks.{lag_up_to}
use Rattle.rules_tick.specs.AutoDelay.{reach_of, quantile_lag, p999_of}

-- the other arm of `let .. else`: a quantile whose tag is not that of an end
pub none_told : (q : Quantile) → ((end : ℕ) → q ≡ Quantile.End end → ⊥) → None ≡ quantile_lag q
none_told (Quantile.End end) k = absurd (k end refl)
none_told Quantile.NoLags k = refl
none_told (Quantile.Refused number) k = refl

module _ (policy : DelayPolicy) (w : Window) where
  pub p999_short : span_of w.seconds w.starts < nanos → None ≡ p999_of policy w
  unfolding p999_of
  p999_short h = sym (le_no nanos (span_of w.seconds w.starts) _ None h)

  pub p999_long : nanos ≤ span_of w.seconds w.starts → {q : Quantile} → q ≡ quantile_upto (thousandths 999) (reach_of policy) w → quantile_lag q ≡ p999_of policy w
  unfolding p999_of
  p999_long h e = ap quantile_lag e ∙ sym (le_yes nanos (span_of w.seconds w.starts) _ None h)

  -- .. of the row of sums alone: "Past the checks, quantiles read only this row"
  pub p999_row : nanos ≤ span_of w.seconds w.starts → {q : Quantile} {sums : List ℕ} → sums ≡ column_sums w → q ≡ quantile_upto (thousandths 999) (reach_of policy) (as_one_second w.buckets w.width sums) → quantile_lag q ≡ p999_of policy w
  p999_row h own e =
      p999_long h (e ∙ ap (λ (row : List ℕ). quantile_upto (thousandths 999) (reach_of policy) (as_one_second w.buckets w.width row)) own ∙ same_quantile w (reach_of policy) (thousandths 999))

  -- what check 15 asks of it: a bucket that counts starts at most at the limit
  quantile_most : (q : Quantile) → q ≡ quantile_upto (thousandths 999) (reach_of policy) w → lag_up_to (quantile_lag q) (peak_most policy w.width) ≡ true
  quantile_most (Quantile.End end) is =
      let found = quantile_bucket (thousandths 999) (reach_of policy) w end (sym is) in
      le-leb end (peak_most policy w.width) (omega (arith, found.1.0.shown, found.1.1, add-mul found.0 1 w.width))
  quantile_most Quantile.NoLags is = refl
  quantile_most (Quantile.Refused number) is = refl

  pub p999_most : lag_up_to (p999_of policy w) (peak_most policy w.width) ≡ true
  unfolding p999_of
  p999_most = pick_rule (λ (x : Option ℕ). lag_up_to x (peak_most policy w.width) ≡ true) (leb nanos (span_of w.seconds w.starts)) _ _ (λ e. quantile_most _ refl) (λ e. refl)
