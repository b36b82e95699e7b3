-- The steps of a push as the code makes them on the 11 lent places: old seconds go first, so that there is room for a new one.
-- A law shows that they leave what document 01's order leaves. Assumes nothing.
use Rattle.std.specs.Prelude.{ℕ, ◌+◌, ◌-◌, ◌*◌, List, get_or, set}
use Rattle.base.specs.Choice.{pick}
use Rattle.base.specs.Lists.{shifted, listed}
use Rattle.rules_window.specs.Window.{Window, stale, opens, counted}
use Rattle.rules_window.specs.Quantile.{column}

-- the k oldest seconds go, and the others move down
abbrev pub shifted_by : (k : ℕ) (w : Window) → Window
shifted_by k w =
    record {
      seconds = w.seconds - k;
      buckets = w.buckets;
      width = w.width;
      starts = shifted k w.starts;
      totals = shifted k w.totals;
      counts = shifted (k * w.buckets) w.counts;
    }

unfoldable pub dropped_in_place : (time : ℕ) (w : Window) → Window
dropped_in_place time w = shifted_by (stale time w.seconds w.starts) w

-- a second opens in the first place that is not in use, which is zero
unfoldable pub opened_in_place : (time : ℕ) (w : Window) → Window
opened_in_place time w =
    record {
      seconds = pick (opens time w.seconds w.starts) (w.seconds + 1) w.seconds;
      buckets = w.buckets;
      width = w.width;
      starts = pick (opens time w.seconds w.starts) (set w.starts w.seconds time) w.starts;
      totals = w.totals;
      counts = w.counts;
    }

unfoldable pub pushed_in_place : (lag time : ℕ) (w : Window) → Window
pushed_in_place lag time w = counted lag (opened_in_place time (dropped_in_place time w))

-- the sums once the lags of row r are taken off, and those of the k oldest seconds
unfoldable pub less_row : (buckets r : ℕ) (counts sums : List ℕ) → List ℕ
less_row buckets r counts sums = listed (λ b. get_or sums b 0 - get_or counts (r * buckets + b) 0) buckets

unfoldable pub less_rows : (buckets k : ℕ) (counts sums : List ℕ) → List ℕ
less_rows buckets k counts sums = listed (λ b. get_or sums b 0 - column buckets b k counts) buckets
