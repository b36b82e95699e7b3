-- The row of sums of a window: its length and its places, and that it alone is right. Assumes nothing.
use Prim.Native.Nat.{ℕ, ◌<◌}
use mathlib.Core.Bool.{true}
use mathlib.Core.Path.{◌≡◌}
use mathlib.Core.List.{List}
use borrow.Author.Tests.{eq-eqb, eqb-true}
use lib.ListN.{length, get_or}
use Rattle.base.proofs.Points.{all_at, all_intro}
use Rattle.base.proofs.Listed.{listed_length, listed_at, listed_is}
use Rattle.rules_window.specs.Window.{Window}
use Rattle.rules_window.specs.Quantile.{lags_in}
use Rattle.rules_window.specs.ColumnSums.{column_sums, right_sums}

pub sums_length : (w : Window) → length (column_sums w) ≡ w.buckets
unfolding column_sums
sums_length w = listed_length (lags_in w) w.buckets

pub sums_at : (w : Window) (b : ℕ) → b < w.buckets → get_or (column_sums w) b 0 ≡ lags_in w b
unfolding column_sums
sums_at w b l = listed_at (lags_in w) w.buckets b l

pub sums_are : (w : Window) (sums : List ℕ) → length sums ≡ w.buckets → ((b : ℕ) → b < w.buckets → get_or sums b 0 ≡ lags_in w b) → sums ≡ column_sums w
unfolding column_sums
sums_are w sums e h = listed_is (lags_in w) w.buckets sums e h

pub own_sums_right : (w : Window) → right_sums w (column_sums w) ≡ true
unfolding right_sums
own_sums_right w = all_intro _ w.buckets (λ b l. eq-eqb _ _ (sums_at w b l))

-- as long as the row and each sum right: it is the row
pub right_are_own : (w : Window) (sums : List ℕ) → length sums ≡ w.buckets → right_sums w sums ≡ true → sums ≡ column_sums w
unfolding right_sums
right_are_own w sums e h = sums_are w sums e (λ b l. eqb-true _ _ (all_at _ w.buckets h b l))
