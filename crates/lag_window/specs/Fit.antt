-- Check 5 of a window's lent lists, by their lengths. Assumes nothing.
use Rattle.std.specs.Prelude.{ℕ, ◌*◌, Bool, ◌==◌}
use Rattle.base.specs.Choice.{both}

-- "each lent list its exact length": 11 starts, 11 totals, 11 rows of counts and one of sums
unfoldable pub lists_fit : (buckets starts totals counts sums : ℕ) → Bool
lists_fit buckets starts totals counts sums = both (starts == 11) (both (totals == 11) (both (counts == 11 * buckets) (sums == buckets)))
