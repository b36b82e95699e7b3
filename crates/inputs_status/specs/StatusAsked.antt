-- What the inner functions ask of their caller, who has made the checks. Assumes nothing.
use Rattle.std.specs.Prelude.{◌≡◌, ℕ, ◌+◌, ◌*◌, ◌<◌, ◌≤◌, true, List, length}
use Rattle.std.specs.Prelude.{Float}
use Rattle.base.specs.Lists.{part}
use Rattle.base.specs.Limits.{width_limit, buckets_limit}
use Rattle.lag_window.specs.declared.LagWindow.{LagWindow}
use Rattle.rules_window.specs.Checks.{from_zero_to_one}
use Rattle.rules_window.specs.Quantile.{Placeable}
use Rattle.rules_window.specs.ColumnSums.{as_one_second}
use Rattle.rules_record.specs.declared.Inputs.{Inputs}
use Rattle.rules_record.specs.Lent.{lists}
use Rattle.rules_record.specs.Facts.{Checked}

-- a window whose quantiles without limit can be worked out from the rows of sums of all inputs
pub record Countable (w : LagWindow) (i : ℕ) (sums : List ℕ) : Type 0 where
  pub buckets_most : w.buckets ≤ buckets_limit
  pub width_least : 1 ≤ w.width
  pub width_most : w.width ≤ width_limit
  pub sums_in : i * w.buckets + w.buckets ≤ length sums
  pub placeable : (q : Float) → from_zero_to_one q ≡ true → Placeable q 4294967295 (as_one_second w.buckets w.width (part (i * w.buckets) w.buckets sums))

-- what `status` asks of the lists that it reads: that with some starts, totals, counts and times they are those of a record that the checks let through; an input of it, and an applied delay
pub record Showable (s : Inputs) (i applied : ℕ) (sums peaks : List ℕ) : Type 0 where
  pub starts : List ℕ
  pub totals : List ℕ
  pub counts : List ℕ
  pub times : List ℕ
  pub checked : Checked s (lists starts totals counts sums times peaks)
  pub input : i < s.count
  pub applied_most : applied ≤ s.policy.delay_max
