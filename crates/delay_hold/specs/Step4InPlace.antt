-- Step 4 on the lent lists, as the code goes: the old peaks go first, then the lag joins. `proofs/Order` shows it alike with document 01's order. Assumes nothing.
use Rattle.std.specs.Prelude.{◌≡◌, ℕ, ◌+◌, ◌-◌, ◌<◌, ◌≤◌, max, List, length, take, slice_index, slice_set, None, Option, Some}
use Rattle.base.specs.Choice.{pick}
use Rattle.base.specs.Limits.{nanos, span_limit}
use Rattle.base.specs.Lists.{padded}
use Rattle.delay_hold.specs.Step4Peaks.{most_peaks, is_new_at}

abbrev pub count_joined : (n : ℕ) (times : List ℕ) → Option ℕ → (time : ℕ) → ℕ
count_joined n times None time = n
count_joined n times (Some lag) time = pick (is_new_at n times time) (n + 1) n

abbrev pub times_joined : (n : ℕ) (times : List ℕ) → Option ℕ → (time : ℕ) → List ℕ
times_joined n times None time = times
times_joined n times (Some lag) time = pick (is_new_at n times time) (slice_set times n time) times

abbrev pub lags_joined : (n : ℕ) (times lags : List ℕ) → Option ℕ → (time : ℕ) → List ℕ
lags_joined n times lags None time = lags
lags_joined n times lags (Some lag) time = pick (is_new_at n times time) (slice_set lags n lag) (slice_set lags (n - 1) (max (slice_index lags (n - 1)) lag))

-- what step 4 asks of n peaks in two lists of 600: unused places zero, each at least 1 s after the one before; and a window of 1 to 600 s
pub record Placed (n : ℕ) (times lags : List ℕ) (window : ℕ) : Type 0 where
  pub count : n ≤ most_peaks
  pub times_padded : times ≡ padded most_peaks (take n times)
  pub lags_padded : lags ≡ padded most_peaks (take n lags)
  pub times_long : length times ≡ most_peaks
  pub lags_long : length lags ≡ most_peaks
  pub spaced : (i : ℕ) → i + 1 < n → slice_index times i + nanos ≤ slice_index times (i + 1)
  pub window_least : nanos ≤ window
  pub window_most : window ≤ span_limit
