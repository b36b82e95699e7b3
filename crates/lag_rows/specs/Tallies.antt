-- Sums of all rows and columns at once, in 32 bits: what stands in the places of the code on the way. Assumes nothing.
use Rattle.std.specs.Prelude.{◌≡◌, ℕ, ◌+◌, ◌*◌, ◌%◌, ◌<◌, ◌≤◌, Bool, List, nat_eq, slice_index}
use Rattle.base.specs.Lists.{all, listed, sum_from}
use Rattle.rules_window.specs.Quantile.{column}

-- where each of the eleven rows begins
unfoldable pub row_places : (buckets : ℕ) → List ℕ
row_places buckets = listed (λ r. r * buckets) 11

-- the sums of the eleven rows over the first b buckets, each modulo 2^32
unfoldable pub rows_to : (buckets b : ℕ) (counts : List ℕ) → List ℕ
rows_to buckets b counts = listed (λ r. sum_from (r * buckets) b counts % 4294967296) 11

-- no count of the first b buckets is larger than bits
pub record Covered (buckets b bits : ℕ) (counts : List ℕ) : Type 0 where
  pub at : (r i : ℕ) → r < 11 → i < b → slice_index counts (r * buckets + i) ≤ bits

-- the sums of k columns from a bucket on, each modulo 2^32
pub record Columns (buckets from k : ℕ) (counts columns : List ℕ) : Type 0 where
  pub at : (i : ℕ) → i < k → slice_index columns i ≡ column buckets (from + i) 11 counts % 4294967296

-- k columns have the sums from a bucket on
unfoldable pub alike : (from k : ℕ) (columns sums : List ℕ) → Bool
alike from k columns sums = all (λ i. nat_eq (slice_index sums (from + i)) (slice_index columns i)) k

-- the sums of the first b buckets, compared modulo 2^32
unfoldable pub alike_to : (buckets b : ℕ) (counts sums : List ℕ) → Bool
alike_to buckets b counts sums = all (λ i. nat_eq (slice_index sums i) (column buckets i 11 counts % 4294967296)) b

-- each row's sum is its total
unfoldable pub totals_are : (n : ℕ) (rows totals : List ℕ) → Bool
totals_are n rows totals = all (λ r. nat_eq (slice_index rows r) (slice_index totals r)) n
