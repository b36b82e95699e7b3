-- A row summed by blocks of 64 buckets, whose sums are kept. Assumes nothing.
use Rattle.std.proofs.Common.{◌≡◌, ℕ, ◌+◌, ◌-◌, ◌*◌, ◌/◌, ◌<◌, ◌≤◌, List, length, take, drop, get_or, set, sum, le_antisymm, refl, ap, ◌∙◌, zero-add, arith, length-take}
use lib.Seq.{get_or-take}
use Rattle.base.specs.Lists.{sum_from}
use Rattle.rules_window.proofs.Sums.{from_split}
use Rattle.lag_rows.proofs.Parts.{part_sum, set_next}
use Rattle.lag_rows.specs.Blocks.{Blocks}

-- the first i blocks
pub record Kept (i : ℕ) (us xs : List ℕ) : Type 0 where
  pub at : (j : ℕ) → j < i → get_or xs j 0 ≡ sum_from (64 * j) 64 us

module _ (us : List ℕ) where
  pub kept_none : (xs : List ℕ) → Kept 0 us xs
  kept_none xs = record { at = λ j l. absurd (omega arith) }

  pub kept_more : (i v : ℕ) (xs : List ℕ) → Kept i us xs → i < length xs → v ≡ sum_from (64 * i) 64 us → Kept (i + 1) us (set xs i v)
  kept_more i v xs h l ev =
      record { at = set_next (λ j. sum_from (64 * j) 64 us) i v xs h.at l ev }

  pub kept_end : (i m : ℕ) (xs : List ℕ) → Kept i us xs → m / 64 ≤ i → Blocks m us xs
  kept_end i m xs h l = record { at = λ j k. h.at j (omega arith) }

  -- a block that was kept, of the whole ones among the first m numbers
  module _ (i m n : ℕ) (xs : List ℕ) (h : Blocks n us xs) (em : m ≡ n) (l : i < length (take (m / 64) xs)) where
    pub kept_in : 64 * i + 64 ≤ m
    kept_in = omega (arith, length-take (m / 64) xs)

    pub kept_at : get_or (take (m / 64) xs) i 0 ≡ sum_from (64 * i) 64 us
    kept_at = get_or-take (m / 64) xs i 0 (omega (arith, length-take (m / 64) xs)) ∙ h.at i (omega (arith, kept_in))

  -- ---- the sum of a block, of the numbers after the whole blocks, and of all up to there
  pub block_sum : (i m : ℕ) → i < m / 64 → m ≤ length us → sum (take (64 * i + 64 - 64 * i) (drop (64 * i) us)) ≡ sum_from (64 * i) 64 us
  block_sum i m l h = part_sum (64 * i) 64 (64 * i + 64 - 64 * i) us (omega arith) (omega arith)

  pub left_sum : (m : ℕ) → m ≤ length us → sum (take (m - 64 * (m / 64)) (drop (64 * (m / 64)) us)) ≡ sum_from (64 * (m / 64)) (m - 64 * (m / 64)) us
  left_sum m h = part_sum (64 * (m / 64)) (m - 64 * (m / 64)) (m - 64 * (m / 64)) us refl (omega arith)

  pub total_more : (b k s v : ℕ) → s ≡ sum_from 0 b us → v ≡ sum_from b k us → s + v ≡ sum_from 0 (b + k) us
  total_more b k s v e h = omega (arith, from_split 0 b k us, ap (λ (y : ℕ). sum_from y k us) (zero-add b))

  pub total_end : (b m s v : ℕ) → s ≡ sum_from 0 b us → v ≡ sum_from b (m - b) us → b ≤ m → s + v ≡ sum_from 0 m us
  total_end b m s v e h l = let q : b + (m - b) ≡ m = omega arith in rw q at (total_more b (m - b) s v e h)

  -- no part is more than the whole
  pub total_few : (b k m s most : ℕ) → s ≡ sum_from 0 b us → b + k ≤ m → sum_from 0 m us ≤ most → s + sum_from b k us ≤ most
  total_few b k m s most e l g =
      let q : b + k + (m - (b + k)) ≡ m = omega arith in
      omega (arith, total_more b k s (sum_from b k us) e refl, rw q at (from_split 0 (b + k) (m - (b + k)) us))

  pub block_more : (i s v : ℕ) → s ≡ sum_from 0 (64 * i) us → v ≡ sum_from (64 * i) 64 us → s + v ≡ sum_from 0 (64 * (i + 1)) us
  block_more i s v e h = let q : 64 * i + 64 ≡ 64 * (i + 1) = omega arith in rw q at (total_more (64 * i) 64 s v e h)

  pub blocks_all : (i m s v : ℕ) → s ≡ sum_from 0 (64 * i) us → i ≤ m / 64 → m / 64 ≤ i → v ≡ sum_from (64 * (m / 64)) (m - 64 * (m / 64)) us → s + v ≡ sum_from 0 m us
  blocks_all i m s v e l g h = total_end (64 * (m / 64)) m s v (rw (← le_antisymm l g) e) h (omega arith)
