-- Document 01, "LagWindow": a window over its lent lists, made, pushed and cleared. Assumes nothing.
use Rattle.std.specs.Prelude.{ℕ, zero, suc, ◌+◌, ◌-◌, ◌*◌, ◌/◌, min, Bool, true, List, [], ◌∷◌, ◌++◌, leb, ltb, get_or, take, drop, replicate}
use Rattle.base.specs.Choice.{pick}
use Rattle.base.specs.Limits.{nanos, window_reach}
use Rattle.base.specs.Lists.{padded, bumped}

-- a window with the lists lent for it: how many seconds are in use, the buckets of a second, a bucket's width W,
-- and of the seconds, oldest first, the starts, the totals and the rows of counts
pub record Window : Type 0 where
  pub seconds : ℕ
  pub buckets : ℕ
  pub width : ℕ
  pub starts : List ℕ
  pub totals : List ℕ
  pub counts : List ℕ

abbrev pub windowed : (seconds buckets width : ℕ) (starts totals counts : List ℕ) → Window
windowed seconds buckets width starts totals counts =
    record { seconds = seconds; buckets = buckets; width = width; starts = starts; totals = totals; counts = counts }

-- a window without seconds: every lent place is zero
unfoldable pub fresh : (buckets width : ℕ) → Window
fresh buckets width =
    record { seconds = 0; buckets = buckets; width = width; starts = replicate 11 0; totals = replicate 11 0; counts = replicate (11 * buckets) 0 }

-- cleared: as fresh
abbrev pub cleared : Window → Window
cleared w = fresh w.buckets w.width

-- "oldest first, unused places zero": the window with its lists cut to the seconds in use, and laid on its 11 places again
unfoldable pub in_use : Window → Window
in_use w =
    record {
      seconds = w.seconds;
      buckets = w.buckets;
      width = w.width;
      starts = take w.seconds w.starts;
      totals = take w.seconds w.totals;
      counts = take (w.seconds * w.buckets) w.counts;
    }

unfoldable pub laid : Window → Window
laid w =
    record {
      seconds = w.seconds;
      buckets = w.buckets;
      width = w.width;
      starts = padded 11 w.starts;
      totals = padded 11 w.totals;
      counts = padded (11 * w.buckets) w.counts;
    }

-- "A push opens a second if none exists or the newest is at least 1 s old"
abbrev pub opens : (time : ℕ) → ℕ → (starts : List ℕ) → Bool
opens time zero starts = true
opens time (suc n) starts = leb nanos (time - get_or starts n 0)

abbrev pub added : (time : ℕ) (w : Window) → Window
added time w =
    record {
      seconds = w.seconds + 1;
      buckets = w.buckets;
      width = w.width;
      starts = w.starts ++ time ∷ [];
      totals = w.totals ++ 0 ∷ [];
      counts = w.counts ++ replicate w.buckets 0;
    }

unfoldable pub opened : (time : ℕ) (w : Window) → Window
opened time w = pick (opens time w.seconds w.starts) (added time w) w

-- "then seconds more than 10 s old go (10 s exactly stays)": how many of the n oldest these are
abbrev pub stale : (time : ℕ) → ℕ → (starts : List ℕ) → ℕ
stale time zero starts = 0
stale time (suc n) [] = 0
stale time (suc n) (start ∷ starts) = pick (ltb window_reach (time - start)) (suc (stale time n starts)) 0

abbrev pub without : (k : ℕ) (w : Window) → Window
without k w =
    record {
      seconds = w.seconds - k;
      buckets = w.buckets;
      width = w.width;
      starts = drop k w.starts;
      totals = drop k w.totals;
      counts = drop (k * w.buckets) w.counts;
    }

unfoldable pub dropped : (time : ℕ) (w : Window) → Window
dropped time w = without (stale time w.seconds w.starts) w

-- "then the lag counts in bucket lag / W, or the last", of the newest second
abbrev pub bucket_of : (lag width buckets : ℕ) → ℕ
bucket_of lag width buckets = min (lag / width) (buckets - 1)

unfoldable pub counted : (lag : ℕ) (w : Window) → Window
counted lag w =
    record {
      seconds = w.seconds;
      buckets = w.buckets;
      width = w.width;
      starts = w.starts;
      totals = bumped (w.seconds - 1) w.totals;
      counts = bumped ((w.seconds - 1) * w.buckets + bucket_of lag w.width w.buckets) w.counts;
    }

-- a push: a second opens, old ones go, the lag counts
unfoldable pub pushed : (lag time : ℕ) (w : Window) → Window
pushed lag time w = laid (counted lag (dropped time (opened time (in_use w))))

-- the lags of one tick, one after the other
unfoldable pub pushed_all : (time : ℕ) → List ℕ → (w : Window) → Window
pushed_all time [] w = w
pushed_all time (lag ∷ lags) w = pushed_all time lags (pushed lag time w)
