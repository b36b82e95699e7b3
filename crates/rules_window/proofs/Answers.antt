-- Document 01's four quantile answers, computed on the definitions. Assumes nothing.
use Prim.Native.Nat.{ℕ}
use mathlib.Core.Bool.{false}
use mathlib.Core.Path.{◌≡◌, refl}
use mathlib.Core.List.{List, [], ◌∷◌, ◌++◌}
use lib.IntN.{pos}
use lib.Ieee.{Float, fin, round, mul, of_int}
use lib.ListN.{replicate}
use Rattle.base.specs.Lists.{padded, sum}
use Rattle.buckets.specs.Ranges.{buckets_of}
use Rattle.doubles.specs.Doubles.{ceil_of}
use Rattle.doubles.specs.Quantile.{target_of}
use Rattle.rules_window.specs.Quantile.{End}
use Rattle.rules_window.specs.Window.{Window, fresh, in_use, laid, opened, dropped, counted, pushed, pushed_all}
use Rattle.rules_window.specs.Quantile.{column, within, running, reach, quantile_in, quantile_upto, quantile_of, thousandths}

-- a window of W 48, fresh and then pushed these lags at one time
abbrev pub after : List ℕ → Window
after lags = pushed_all 5 lags (fresh (buckets_of 480 4800 48) 48)

-- q 1
abbrev pub one : Float
one = fin false 1 (pos 0)

-- "W 48, lags 0 and 100, q 1: limit 95 gives 48, limit 96 gives 144. 999 lags of 0 and one of 48 at 0.999: 48. 998 and two: 96."
pub answers :
    quantile_upto one 95 (after (0 ∷ 100 ∷ []))
    ∷ quantile_upto one 96 (after (0 ∷ 100 ∷ []))
    ∷ quantile_of (thousandths 999) (after (replicate 999 0 ++ 48 ∷ []))
    ∷ quantile_of (thousandths 999) (after (replicate 998 0 ++ 48 ∷ 48 ∷ []))
    ∷ []
    ≡ End 48 ∷ End 144 ∷ End 48 ∷ End 96 ∷ []
unfolding padded sum buckets_of fresh in_use laid opened dropped counted pushed pushed_all column within running reach quantile_in thousandths target_of ceil_of round mul of_int
answers = refl
