-- The lengths of a window's lists, asked one after the other or at once. Assumes nothing.
use Rattle.std.specs.Prelude.{◌≡◌, ℕ, ◌*◌, Bool, true, false, eqb, length}
use mathlib.Core.Path.{refl}
use borrow.Author.Tests.{eqb-true}
use Rattle.base.specs.Choice.{both, ask}
use Rattle.base.proofs.Points.{both_true}
use Rattle.buckets.specs.Ranges.{width_allowed, buckets_allowed}
use Rattle.buckets.proofs.Told.{width_told, buckets_told}
use Rattle.rules_window.specs.WholeWindow.{Shaped}
use Rattle.rules_window.specs.declared.WindowView.{WindowView}
use Rattle.lag_window.specs.declared.LagWindow.{LagWindow}
use Rattle.lag_window.specs.Lent.{window_seen}
use Rattle.lag_window.specs.Fit.{lists_fit}

asks : (a b c d : Bool) (rest : ℕ) → ask 5 a (ask 5 b (ask 5 c (ask 5 d rest))) ≡ ask 5 (both a (both b (both c d))) rest
unfolding ask both
asks true true true d rest = refl
asks true true false d rest = refl
asks true false c d rest = refl
asks false b c d rest = refl

module _ (buckets starts totals counts sums : ℕ) where
  pub fit_ask : (rest : ℕ) → ask 5 (eqb starts 11) (ask 5 (eqb totals 11) (ask 5 (eqb counts (11 * buckets)) (ask 5 (eqb sums buckets) rest))) ≡ ask 5 (lists_fit buckets starts totals counts sums) rest
  unfolding lists_fit
  fit_ask rest = asks _ _ _ _ rest

-- what the checks 17, 18 and 5 let through
pub fit_asks : (w : LagWindow) (l : WindowView) → width_allowed w.width ≡ true → buckets_allowed w.buckets ≡ true → lists_fit w.buckets (length l.starts.now) (length l.totals.now) (length l.counts.now) (length l.sums.now) ≡ true → Shaped (window_seen w l) × (length l.sums.now ≡ w.buckets)
unfolding lists_fit
fit_asks w l wide some h =
    let a = both_true _ _ h in
    let b = both_true _ _ a.1 in
    let c = both_true _ _ b.1 in
    let widths = width_told _ wide in
    let buckets = buckets_told _ some in (
      record {
        width_low = widths.0;
        width_high = widths.1;
        buckets_low = buckets.0;
        buckets_high = buckets.1;
        starts_long = eqb-true _ _ a.0;
        totals_long = eqb-true _ _ b.0;
        counts_long = eqb-true _ _ c.0;
      },
      eqb-true _ _ c.1,
    )
