-- Document 01's sentences about the settings, each at its edge, computed on the definitions. Assumes nothing.
use Rattle.std.specs.Prelude.{◌≡◌, ℕ, true, false, [], ◌∷◌, pos, negsuc}
use mathlib.Core.Path.{refl}
use lib.Ieee.{Float, nan, fin, binary64, round, div, le}
use Rattle.base.specs.Choice.{both, ask}
use Rattle.buckets.specs.Ranges.{reaches_allowed}
use Rattle.policy.specs.declared.DelayPolicy.{DelayPolicy}
use Rattle.policy.specs.Settings.{Of, Refused}
use Rattle.policy.specs.Settings.{times_allowed, margins_allowed, percent_allowed, share_of_percent, share_number, share_reply}
use Rattle.policy.specs.Need.{need_number}

-- 4: "percent 0 to 1,000 and no NaN": the doubles next to 0 and 1,000 on the outer side are not
pub percent_from_0_to_1000 :
    percent_allowed (fin false 0 (pos 0))
    ∷ percent_allowed (fin false 125 (pos 3))
    ∷ percent_allowed (fin true 1 (negsuc 1073))
    ∷ percent_allowed (round binary64 false 8796093022208001 8796093022208)
    ∷ percent_allowed nan
    ∷ []
    ≡ true ∷ true ∷ false ∷ false ∷ false ∷ []
unfolding both percent_allowed round le
percent_from_0_to_1000 = refl

-- "its margin share as a double, percent / 100": 50 is 0.5, 1,000 is 10; a refusal has number 4
pub share_is_a_hundredth :
    share_reply (fin false 25 (pos 1)) ∷ share_reply (fin false 125 (pos 3)) ∷ share_reply nan ∷ []
    ≡ Of (fin false 1 (negsuc 0)) ∷ Of (fin false 5 (pos 1)) ∷ Refused 4 ∷ []
unfolding both ask percent_allowed share_of_percent share_number share_reply round div le
share_is_a_hundredth = refl

-- a policy with this offset, maximum, hold, window, margin and share
abbrev with : (offset maximum hold window margin : ℕ) → Float → DelayPolicy
with offset maximum hold window margin share =
    record { read_offset = offset; delay_max = maximum; hold = hold; window = window; margin = margin; margin_share = share }

-- 2: "Are offset and maximum at most 96,000", before 4: "Is margin at most 96,000, percent 0 to 1,000 and no NaN"
pub reaches_asked_before_margins :
    need_number (with 96000 96000 0 0 96000 (fin false 5 (pos 1)))
    ∷ need_number (with 96001 96000 0 0 96000 nan)
    ∷ need_number (with 96000 96001 0 0 96000 nan)
    ∷ need_number (with 96000 96000 0 0 96001 (fin false 0 (pos 0)))
    ∷ need_number (with 96000 96000 0 0 96000 nan)
    ∷ []
    ≡ 0 ∷ 2 ∷ 2 ∷ 4 ∷ 4 ∷ []
unfolding both ask reaches_allowed margins_allowed need_number le
reaches_asked_before_margins = refl

-- 3: "Are hold and stall at most 600 s, window 1 to 600 s"
pub times_up_to_600_s :
    times_allowed (with 0 0 600_000_000_000 1_000_000_000 0 nan)
    ∷ times_allowed (with 0 0 600_000_000_001 1_000_000_000 0 nan)
    ∷ times_allowed (with 0 0 0 999_999_999 0 nan)
    ∷ times_allowed (with 0 0 0 600_000_000_000 0 nan)
    ∷ times_allowed (with 0 0 0 600_000_000_001 0 nan)
    ∷ []
    ≡ true ∷ false ∷ false ∷ true ∷ false ∷ []
unfolding both times_allowed
times_up_to_600_s = refl
