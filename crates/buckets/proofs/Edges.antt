-- The sentences about offset, maximum, W and the buckets, each at its edge, computed on the definitions. Assumes nothing.
use Rattle.std.specs.Prelude.{◌≡◌, true, false, [], ◌∷◌}
use mathlib.Core.Path.{refl}
use Rattle.base.specs.Choice.{both, ask}
use Rattle.buckets.specs.Ranges.{reaches_allowed, width_allowed, buckets_of, buckets_few, buckets_allowed, ranges_number}

-- "(offset + maximum + 4,800) / W + 2 buckets, division rounding down"
pub buckets_round_down :
    buckets_of 480 4800 48 ∷ buckets_of 480 4847 48 ∷ buckets_of 480 4848 48 ∷ buckets_of 0 0 4800 ∷ []
    ≡ 212 ∷ 212 ∷ 213 ∷ 3 ∷ []
unfolding buckets_of
buckets_round_down = refl

-- 2 alone: "offset or maximum only", each up to 96,000
pub reaches_to_96000 :
    ranges_number 96000 0 4800 0 ∷ ranges_number 96001 0 4800 0 ∷ ranges_number 0 96000 4800 0 ∷ ranges_number 0 96001 4800 0 ∷ [] ≡ 0 ∷ 2 ∷ 0 ∷ 2 ∷ []
unfolding ask both reaches_allowed width_allowed buckets_of buckets_few ranges_number
reaches_to_96000 = refl

-- 17 alone: "W outside 1 to 4,800"
pub widths_from_1_to_4800 : ranges_number 0 0 0 0 ∷ ranges_number 0 0 2 0 ∷ ranges_number 0 0 4800 0 ∷ ranges_number 0 0 4801 0 ∷ [] ≡ 17 ∷ 0 ∷ 0 ∷ 17 ∷ []
unfolding ask both reaches_allowed width_allowed buckets_of buckets_few ranges_number
widths_from_1_to_4800 = refl

-- 18 alone: "more than 4,096 buckets"; W 1 is wide enough for 17 and makes 4,802
pub buckets_to_4096 :
    ranges_number 96000 95712 48 0 ∷ ranges_number 96000 95759 48 0 ∷ ranges_number 96000 95760 48 0 ∷ ranges_number 0 0 1 0 ∷ [] ≡ 0 ∷ 0 ∷ 18 ∷ 18 ∷ []
unfolding ask both reaches_allowed width_allowed buckets_of buckets_few ranges_number
buckets_to_4096 = refl

-- two and three faults at once give the first in order, before the checks after them: 2, 17 and 18 together give 2
pub first_fault_answers :
    ranges_number 4294967295 4294967295 4801 3 ∷ ranges_number 96001 0 0 3 ∷ ranges_number 96001 96000 1 3 ∷ ranges_number 0 96001 4801 3 ∷ ranges_number 96000 96000 0 3 ∷ ranges_number 96000 96000 1 3 ∷ ranges_number 0 0 48 3 ∷ []
    ≡ 2 ∷ 2 ∷ 2 ∷ 2 ∷ 17 ∷ 18 ∷ 3 ∷ []
unfolding ask both reaches_allowed width_allowed buckets_of buckets_few ranges_number
first_fault_answers = refl

-- of a window alone, none is too few
pub windows_have_buckets : buckets_allowed 0 ∷ buckets_allowed 1 ∷ buckets_allowed 4096 ∷ buckets_allowed 4097 ∷ [] ≡ false ∷ true ∷ true ∷ false ∷ []
unfolding both buckets_few buckets_allowed
windows_have_buckets = refl
