-- Document 02, §5: "Keep one more row for each input: the sums over its seconds." The row is a function of the window. Assumes nothing.
use Rattle.std.specs.Prelude.{ℕ, Bool, List, [], eqb, get_or}
use Rattle.base.specs.Lists.{all, listed}
use Rattle.rules_window.specs.Window.{Window, windowed}
use Rattle.rules_window.specs.Quantile.{lags_in}

-- a sum for each bucket: the lags that it has in all seconds of the window
unfoldable pub column_sums : Window → List ℕ
column_sums w = listed (lags_in w) w.buckets

-- 6: "requires each sum to be right"
unfoldable pub right_sums : (w : Window) (sums : List ℕ) → Bool
right_sums w sums = all (λ b. eqb (get_or sums b 0) (lags_in w b)) w.buckets

-- "Past the checks, quantiles read only this row": it stands for a window of one second, whose counts are the sums
abbrev pub as_one_second : (buckets width : ℕ) (sums : List ℕ) → Window
as_one_second buckets width sums = windowed 1 buckets width [] [] sums
