-- The sums of blocks of 64 buckets. Assumes nothing.
use Rattle.std.specs.Prelude.{◌≡◌, ℕ, ◌+◌, ◌*◌, ◌≤◌, List, slice_index}
use Rattle.base.specs.Lists.{sum_from}

-- the blocks of 64 of the first m sums
pub record Blocks (m : ℕ) (sums blocks : List ℕ) : Type 0 where
  pub at : (i : ℕ) → 64 * i + 64 ≤ m → slice_index blocks i ≡ sum_from (64 * i) 64 sums
