-- Document 01, check 6 of one window: whether it is whole; with document 02's row of sums. Assumes nothing.
use Rattle.std.specs.Prelude.{ℕ, ◌-◌, ◌*◌, ◌≤◌, Bool, true, ◌≡◌, List, [], leb, eqb, length, get_or}
use Rattle.base.specs.Choice.{both}
use Rattle.base.specs.Lists.{all, blank_from, row_sum}
use Rattle.base.specs.Limits.{nanos, time_limit, width_limit, buckets_limit, window_reach}
use Rattle.base.specs.Rows.{apart, up_to, span_of}
use Rattle.rules_window.specs.Window.{Window, windowed}
use Rattle.rules_window.specs.ColumnSums.{right_sums}

-- 6: "row sums equal to totals up to 4,294,967,295"
unfoldable pub summed : (n buckets : ℕ) (totals counts : List ℕ) → Bool
summed n buckets totals counts = all (λ r. both (leb (get_or totals r 0) 4294967295) (eqb (row_sum buckets counts r) (get_or totals r 0))) n

-- 6: "seconds .. within number, each at least 1 s after the one before", "spanning at most 10 s", sums equal to totals, "unused places zero", times within 8
unfoldable pub whole_window : Window → Bool
whole_window w =
    both (leb w.seconds 11)
    (both (apart nanos (w.seconds - 1) w.starts)
    (both (leb (span_of w.seconds w.starts) window_reach)
    (both (summed w.seconds w.buckets w.totals w.counts)
    (both (blank_from w.seconds w.starts)
    (both (blank_from w.seconds w.totals)
    (both (blank_from (w.seconds * w.buckets) w.counts)
    (up_to time_limit w.seconds w.starts)))))))

-- 6 of a window with its row of sums: it is whole and, document 02, §5, "each sum .. right"
abbrev pub whole_with_sums : (w : Window) (sums : List ℕ) → Bool
whole_with_sums w sums = both (whole_window w) (right_sums w sums)

-- totals and sums are those of the counts, over all 11 rows, used or not
abbrev pub tallies_right : (buckets : ℕ) (totals counts sums : List ℕ) → Bool
tallies_right buckets totals counts sums = both (summed 11 buckets totals counts) (right_sums (windowed 11 buckets 0 [] [] counts) sums)

-- a window that 17, 18 and 5 let through
pub record Shaped (w : Window) : Type 0 where
  pub width_low : 1 ≤ w.width
  pub width_high : w.width ≤ width_limit
  pub buckets_low : 1 ≤ w.buckets
  pub buckets_high : w.buckets ≤ buckets_limit
  pub starts_long : length w.starts ≡ 11
  pub totals_long : length w.totals ≡ 11
  pub counts_long : length w.counts ≡ 11 * w.buckets

-- a window that 17, 18, 5 and 6 let through: what the inner functions ask
pub record Sound (w : Window) : Type 0 where
  pub shaped : Shaped w
  pub whole : whole_window w ≡ true
