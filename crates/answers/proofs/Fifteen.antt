-- The fifteen answers hold. Assumes nothing.
use mathlib.Core.Path.{◌≡◌, refl}
use mathlib.Core.List.{[], ◌∷◌}
use mathlib.Core.Bool.{false}
use lib.IntN.{pos, negsuc}
use lib.Ieee.{fin, binary64, round, mul, div, of_int, le}
use Rattle.base.specs.Choice.{ask, both}
use Rattle.buckets.specs.Ranges.{reaches_allowed}
use Rattle.doubles.specs.Doubles.{ms_of, samples_of, half_away}
use Rattle.policy.specs.Need as Need
use Rattle.policy.specs.Settings.{margins_allowed}
use Rattle.policy.specs.Need.{need_of, need_number, need_reply}
use Rattle.answers.specs.Fifteen.{settings, Fifteen}
use Rattle.answers.proofs.Windows.{limited_are, one_above_is, two_above_is}
use Rattle.answers.proofs.Holds.{decisions_are}

one_millisecond_law : ms_of 48 ≡ fin false 1 (pos 0)
unfolding ms_of round div mul of_int
one_millisecond_law = refl

samples_are : samples_of (fin false 1 (negsuc 4)) ∷ samples_of (round binary64 false 10416 1000000) ∷ [] ≡ 2 ∷ 0 ∷ []
unfolding samples_of half_away round div mul of_int
samples_are = refl

needs_are : need_reply settings 480 ∷ need_reply settings 485 ∷ need_reply settings 5280 ∷ [] ≡ Need.Of 96 ∷ Need.Of 104 ∷ Need.Of 4800 ∷ []
unfolding need_reply need_number reaches_allowed margins_allowed ask both need_of half_away round mul of_int le
needs_are = refl

pub fifteen : Fifteen
fifteen = record { milliseconds = one_millisecond_law; samples = samples_are; needs = needs_are; limited = limited_are; one_above = one_above_is; two_above = two_above_is; decisions = decisions_are }
