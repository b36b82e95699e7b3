-- The quantile of a window is that of its row of sums, read as one second. Assumes nothing.
use Rattle.std.specs.Prelude.{Option, Some}
use Prim.Native.Nat.{ℕ, zero, suc, ◌+◌, ◌*◌, ◌<◌, ◌≤◌}
use mathlib.Core.Path.{◌≡◌, refl, sym, ap, subst, ◌∙◌}
use mathlib.Core.List.{List}
use native.Mathlib.Omega.{arith}
use lib.Dec.{leb, eqb}
use lib.Ieee.{Float}
use lib.ListN.{get_or}
use Rattle.base.specs.Choice.{pick}
use Rattle.base.specs.Lists.{sum}
use Rattle.base.proofs.Points.{sum_cong}
use Rattle.doubles.specs.Quantile as places
use Rattle.rules_window.specs.Quantile.{NoLags}
use Rattle.rules_window.specs.Window.{Window}
use Rattle.rules_window.specs.Quantile.{column, within, running, reach, end_of, quantile_in, quantile_upto, lags_in, total_upto, Placeable}
use Rattle.rules_window.specs.ColumnSums.{column_sums, as_one_second}
use Rattle.rules_window.proofs.ColumnSums.{sums_at}

-- a bucket of one second is its place in the row
pub one_column : (B b : ℕ) (sums : List ℕ) → column B b 1 sums ≡ get_or sums b 0
unfolding column sum
one_column B b sums = let e : 0 * B + b ≡ b = omega arith in rw e (omega arith)

module _ (w : Window) where
  -- the row of sums as one second
  abbrev pub summed_up : Window
  summed_up = as_one_second w.buckets w.width (column_sums w)

  pub same_lags : (b : ℕ) → b < w.buckets → lags_in summed_up b ≡ lags_in w b
  same_lags b l = one_column w.buckets b (column_sums w) ∙ sums_at w b l

  module _ (limit : ℕ) where
    abbrev counted : Window → ℕ → ℕ
    counted v m = running limit v.width v.buckets v.seconds v.counts m

    same_running : (m : ℕ) → m ≤ w.buckets → counted summed_up m ≡ counted w m
    unfolding running within
    same_running m h = sum_cong _ _ m (λ b l. ap (λ (x : ℕ). pick (leb (b * w.width) limit) x 0) (same_lags b (omega arith)))

    pub same_total : total_upto limit summed_up ≡ total_upto limit w
    same_total = same_running w.buckets (omega arith)

    -- a place among the window's lags is one among those of the row
    pub row_placeable : (q : Float) {sums : List ℕ} → sums ≡ column_sums w → Placeable q limit w → Placeable q limit (as_one_second w.buckets w.width sums)
    row_placeable q own p = subst (λ (row : List ℕ). Placeable q limit (as_one_second w.buckets w.width row)) (sym own) (rw same_total p)

    abbrev reached : Window → ℕ → ℕ → ℕ → Option ℕ
    reached v target m b = reach target limit v.width v.buckets v.seconds v.counts m b

    same_reach : (target m b : ℕ) → b + m ≤ w.buckets → reached summed_up target m b ≡ reached w target m b
    unfolding reach
    same_reach target zero b h = refl
    same_reach target (suc m) b h =
        let e = same_running (b + 1) (omega arith) in
        let r = same_reach target m (b + 1) (omega arith) in
        (λ i. pick (leb target (e i)) (Some b) (r i))

    pub same_quantile : (q : Float) → quantile_upto q limit summed_up ≡ quantile_upto q limit w
    unfolding quantile_in
    same_quantile q =
        let t = same_total in
        let r : (n : ℕ) → reached summed_up (places.target_of n q) w.buckets 0 ≡ reached w (places.target_of n q) w.buckets 0 = λ n. same_reach (places.target_of n q) w.buckets 0 (omega arith) in
        (λ i. pick (eqb (t i) 0) NoLags (end_of w.width (r (t i) i)))
