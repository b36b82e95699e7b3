-- The window of input j among those of all inputs, whose lists stand one after the other. Assumes nothing.
use Rattle.std.specs.Prelude.{ℕ, ◌+◌, ◌*◌, ◌≤◌, length}
use Rattle.base.specs.Lists.{part, patched}
use Rattle.base.specs.Limits.{width_limit, buckets_limit}
use Rattle.rules_window.specs.Window.{Window}

-- the window of input j, of a window that holds the lists of all inputs
abbrev pub part_of : (j : ℕ) (w : Window) → Window
part_of j w =
    record {
      seconds = w.seconds;
      buckets = w.buckets;
      width = w.width;
      starts = part (j * 11) 11 w.starts;
      totals = part (j * 11) 11 w.totals;
      counts = part (j * (11 * w.buckets)) (11 * w.buckets) w.counts;
    }

-- the lists of all inputs with v as the window of input j
abbrev pub placed : (j : ℕ) (v w : Window) → Window
placed j v w =
    record {
      seconds = v.seconds;
      buckets = w.buckets;
      width = w.width;
      starts = patched (j * 11) 11 v.starts w.starts;
      totals = patched (j * 11) 11 v.totals w.totals;
      counts = patched (j * (11 * w.buckets)) (11 * w.buckets) v.counts w.counts;
    }

-- what the inner functions ask of the settings and of the lists of all inputs: input j has its part of each
pub record PartsIn (j : ℕ) (w : Window) : Type 0 where
  pub width_low : 1 ≤ w.width
  pub width_high : w.width ≤ width_limit
  pub buckets_low : 1 ≤ w.buckets
  pub buckets_high : w.buckets ≤ buckets_limit
  pub starts_in : j * 11 + 11 ≤ length w.starts
  pub totals_in : j * 11 + 11 ≤ length w.totals
  pub counts_in : j * (11 * w.buckets) + 11 * w.buckets ≤ length w.counts
