-- Document 01's three examples of Doubles and three of Need, computed on the definitions. Assumes nothing.
use Rattle.std.specs.Prelude.{◌≡◌, false, [], ◌∷◌, pos, negsuc}
use mathlib.Core.Path.{refl}
use lib.Ieee.{fin, binary64, round, mul, div, of_int}
use Rattle.doubles.specs.Doubles.{ms_of, samples_of}
use Rattle.policy.specs.declared.DelayPolicy.{DelayPolicy}
use Rattle.policy.specs.Need.{need_of}

-- offset 480, maximum 4,800, margin 96, share 0.5; hold 30 s, window 10 s
abbrev pub example_policy : DelayPolicy
example_policy = record { read_offset = 480; delay_max = 4800; hold = 30000000000; window = 10000000000; margin = 96; margin_share = fin false 1 (negsuc 0) }

-- ms(48) = 1; samples of 0.03125, which is 2 ^ -5, is 2, and of the double nearest to 0.010416 is 0; need(480) = 96, need(485) = 104, need(5280) = 4800
pub answers : (ms_of 48 ≡ fin false 1 (pos 0))
    × (samples_of (fin false 1 (negsuc 4)) ∷ samples_of (round binary64 false 10416 1000000) ∷ need_of example_policy 480 ∷ need_of example_policy 485 ∷ need_of example_policy 5280 ∷ [] ≡ 2 ∷ 0 ∷ 96 ∷ 104 ∷ 4800 ∷ [])
unfolding ms_of samples_of need_of round div mul of_int
answers = (refl, refl)
