-- Document 01, "DelayHold", step 4: the peaks in use, oldest first, their times and their lags. Assumes nothing.
use Rattle.std.specs.Prelude.{ℕ, suc, ◌-◌, max, Bool, true, List, [], ◌∷◌, ◌++◌, length, drop, ◌==◌, nat_le, slice_index, slice_set, None, Option, Some}
use Rattle.base.specs.Choice.{pick}
use Rattle.base.specs.Limits.{nanos}

-- "600 peaks an input": the places that its lists have
abbrev pub most_peaks : ℕ
most_peaks = 600

-- "The larger of lag and p999", where either may be missing
abbrev pub larger_lag : Option ℕ → (b : Option ℕ) → Option ℕ
larger_lag None b = b
larger_lag (Some x) None = Some x
larger_lag (Some x) (Some y) = Some (max x y)

-- there is no peak, or the newest of the n is at least 1 s old
abbrev pub is_new_at : (n : ℕ) (times : List ℕ) (time : ℕ) → Bool
is_new_at n times time = pick (n == 0) true (nat_le nanos (time - slice_index times (n - 1)))

-- "joins the newest peak if that is under 1 s old, else is a new peak": the times
unfoldable pub join_times : (times : List ℕ) → Option ℕ → (time : ℕ) → List ℕ
join_times times None time = times
join_times times (Some lag) time = pick (is_new_at (length times) times time) (times ++ (time ∷ [])) times

-- and the lags
unfoldable pub join_lags : (times lags : List ℕ) → Option ℕ → (time : ℕ) → List ℕ
join_lags times lags None time = lags
join_lags times lags (Some lag) time =
    pick (is_new_at (length times) times time)
    (lags ++ (lag ∷ []))
    (slice_set lags (length lags - 1) (max (slice_index lags (length lags - 1)) lag))

-- how many of the oldest are of age at least window
unfoldable pub old_count : List ℕ → (window time : ℕ) → ℕ
old_count [] window time = 0
old_count (t ∷ times) window time = pick (nat_le window (time - t)) (suc (old_count times window time)) 0

-- "Peaks of age at least window go", after the lag has joined: the times and the lags that are left
unfoldable pub times_after : (times : List ℕ) (lag : Option ℕ) (window time : ℕ) → List ℕ
times_after times lag window time = drop (old_count (join_times times lag time) window time) (join_times times lag time)

unfoldable pub lags_after : (times lags : List ℕ) (lag : Option ℕ) (window time : ℕ) → List ℕ
lags_after times lags lag window time = drop (old_count (join_times times lag time) window time) (join_lags times lags lag time)

-- "the greatest peak", if there is one
abbrev pub greatest : List ℕ → ℕ
greatest [] = 0
greatest (x ∷ xs) = max x (greatest xs)

abbrev pub worst_of : List ℕ → Option ℕ
worst_of [] = None
worst_of (x ∷ xs) = Some (greatest (x ∷ xs))
