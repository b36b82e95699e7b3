-- A sound window counts at most 4,294,967,295 lags a second, and 11 times that in a bucket and in all. Assumes nothing.
use Prim.Native.Nat.{ℕ, ◌+◌, ◌*◌, ◌<◌, ◌≤◌}
use mathlib.Core.List.{List}
use native.Mathlib.Omega.{arith}
use lib.Dec.{leb}
use lib.ListN.{get_or}
use Rattle.base.specs.Lists.{sum_from, row_sum}
use Rattle.base.proofs.Choices.{pick_all}
use Rattle.base.proofs.Points.{sum_at_le}
use Rattle.rules_window.specs.Window.{Window}
use Rattle.rules_window.specs.WholeWindow.{Sound}
use Rattle.rules_window.specs.Quantile.{column, within, running, lags_in, total_upto}
use Rattle.rules_window.proofs.WholeAt.{Whole, whole_of}
use Rattle.rules_window.proofs.Sums.{sum_swap, sum_le, sum_bound}

-- a bucket brings at most the lags that it holds
pub within_le : (limit W B n : ℕ) (cs : List ℕ) (b : ℕ) → within limit W B n cs b ≤ column B b n cs
unfolding within
within_le limit W B n cs b = pick_all (λ (x : ℕ). x ≤ column B b n cs) (leb (b * W) limit) (omega arith) (omega arith)

-- a second of a whole window counts at most 4,294,967,295 lags
row_few : (w : Window) → Whole w → (r : ℕ) → r < w.seconds → row_sum w.buckets w.counts r ≤ 4294967295
row_few w h r l = omega (arith, h.sums r l, h.small r l)

-- a bucket counts at most 11 times that in all seconds
pub lags_few : (w : Window) → Whole w → (b : ℕ) → b < w.buckets → lags_in w b ≤ 47244640245
unfolding column sum_from
lags_few w h b l =
    omega (
      arith,
      h.few,
      sum_bound (λ r. get_or w.counts (r * w.buckets + b) 0) 4294967295 w.seconds (λ r g. omega (arith, row_few w h r g, sum_at_le (λ i. get_or w.counts (r * w.buckets + i) 0) w.buckets b l)),
    )

pub total_few : (limit : ℕ) (w : Window) → Sound w → total_upto limit w ≤ 47244640245
unfolding running column sum_from
total_few limit w s =
    let h : Whole w = whole_of w s in
    omega (
      arith,
      h.few,
      sum_le (within limit w.width w.buckets w.seconds w.counts) (λ b. column w.buckets b w.seconds w.counts) w.buckets (λ b l. within_le limit w.width w.buckets w.seconds w.counts b),
      sum_swap (λ r b. get_or w.counts (r * w.buckets + b) 0) w.buckets w.seconds,
      sum_bound (λ r. row_sum w.buckets w.counts r) 4294967295 w.seconds (row_few w h),
    )
