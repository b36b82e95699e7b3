-- The 0.999 quantile of an input, as the code works it out. Assumes nothing.
use Rattle.std.specs.Prelude.{◌≡◌, ℕ, ◌*◌, ◌<◌, ◌≤◌, List, None}
use mathlib.Core.Path.{ap, subst, ◌∙◌}
use lib.Ieee.{Float}
use Rattle.base.specs.Limits.{nanos}
use Rattle.base.specs.Lists.{part}
use Rattle.lag_window.specs.declared.LagWindow.{LagWindow}
use Rattle.rules_window.specs.Quantile.{Quantile}
use Rattle.base.specs.Rows.{span_of}
use Rattle.rules_window.specs.ColumnSums.{as_one_second}
use Rattle.rules_window.specs.Quantile.{quantile_upto, thousandths}
use Rattle.rules_record.specs.declared.Slot.{Slot}
use Rattle.rules_record.specs.declared.Inputs.{Inputs}
use Rattle.rules_record.specs.Lent.{lists, buckets_in, window_for}
use Rattle.rules_record.specs.Facts.{OwnSums}
use Rattle.inputs_window.specs.Windows.{window_in}
use Rattle.rules_tick.specs.AutoDelay.{reach_of, quantile_lag, p999_of}
use Rattle.rules_tick.proofs.P999.{p999_short, p999_row}

module _ (s : Inputs) (slot : Slot) (i : ℕ) (starts sums : List ℕ) {w : LagWindow} (is-window : w ≡ window_in s.policy s.width slot) {span : ℕ} (is-span : span ≡ span_of w.seconds (part (i * 11) 11 starts)) where
  span_is : span ≡ span_of slot.lag_seconds (part (i * 11) 11 starts)
  span_is = is-span ∙ ap (λ (x : LagWindow). span_of x.seconds (part (i * 11) 11 starts)) is-window

  pub short_by : span < nanos → (totals counts times peaks : List ℕ) → OwnSums s (lists starts totals counts sums times peaks) i slot → None ≡ p999_of s.policy (window_for s (lists starts totals counts sums times peaks) i slot)
  short_by h totals counts times peaks own = p999_short s.policy (window_for s (lists starts totals counts sums times peaks) i slot) (subst (λ (x : ℕ). x < nanos) span_is h)

  pub long_by : {x : Float} → x ≡ thousandths 999 → nanos ≤ span → {q : Quantile} → q ≡ quantile_upto x (reach_of s.policy) (as_one_second w.buckets w.width (part (i * w.buckets) w.buckets sums)) → (totals counts times peaks : List ℕ)
      → OwnSums s (lists starts totals counts sums times peaks) i slot → quantile_lag q ≡ p999_of s.policy (window_for s (lists starts totals counts sums times peaks) i slot)
  unfolding buckets_in
  long_by is_x h e totals counts times peaks own =
      p999_row s.policy (window_for s (lists starts totals counts sums times peaks) i slot) (subst (λ (x : ℕ). nanos ≤ x) span_is h) own
      (e ∙ (λ t. quantile_upto (is_x t) (reach_of s.policy) (as_one_second (is-window t).buckets (is-window t).width (part (i * (is-window t).buckets) (is-window t).buckets sums))))
