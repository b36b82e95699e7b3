-- Offset, maximum and W, from which the buckets of a second follow: their ranges, and checks 2, 17 and 18 in their order. Assumes nothing.
use Rattle.std.specs.Prelude.{ℕ, ◌+◌, ◌/◌, ◌≤◌, Bool, nat_le}
use Rattle.base.specs.Choice.{both, ask}
use Rattle.base.specs.Limits.{samples_limit, width_limit, buckets_limit}

-- 2: "Are offset and maximum at most 96,000"; document 02: "Number 2 is to mean offset or maximum only"
unfoldable pub reaches_allowed : (offset maximum : ℕ) → Bool
reaches_allowed offset maximum = both (nat_le offset samples_limit) (nat_le maximum samples_limit)

-- 17: "W outside 1 to 4,800"
unfoldable pub width_allowed : (width : ℕ) → Bool
width_allowed width = both (nat_le 1 width) (nat_le width width_limit)

-- "(offset + maximum + 4,800) / W + 2 buckets, division rounding down": 4,800 samples are a tenth of a second
abbrev pub tenth : ℕ
tenth = 4_800

unfoldable pub buckets_of : (offset maximum width : ℕ) → ℕ
buckets_of offset maximum width = (offset + maximum + tenth) / width + 2

-- 18: "more than 4,096 buckets"
unfoldable pub buckets_few : (buckets : ℕ) → Bool
buckets_few buckets = nat_le buckets buckets_limit

-- 18, of a window alone: none at all is too few, for a lag would have no bucket to count in
unfoldable pub buckets_allowed : (buckets : ℕ) → Bool
buckets_allowed buckets = both (nat_le 1 buckets) (buckets_few buckets)

-- "Number 17 is for W, asked straight after 2; 18 for buckets, asked straight after 17": the number of the first that says no,
-- or the number that the checks after them give
unfoldable pub ranges_number : (offset maximum width rest : ℕ) → ℕ
ranges_number offset maximum width rest =
    ask 2 (reaches_allowed offset maximum)
    (ask 17 (width_allowed width)
    (ask 18 (buckets_few (buckets_of offset maximum width)) rest))

-- what they let through, as facts
pub record Ranged (offset maximum width : ℕ) : Type 0 where
  pub offset_most : offset ≤ samples_limit
  pub maximum_most : maximum ≤ samples_limit
  pub width_least : 1 ≤ width
  pub width_most : width ≤ width_limit
  pub buckets_most : buckets_of offset maximum width ≤ buckets_limit
