-- The five answers of `next`, computed on what `DelayHold::new` and `next` answer. Assumes nothing.
use Rattle.std.specs.Prelude.{None, Some}
use mathlib.Core.Path.{◌≡◌, refl}
use mathlib.Core.List.{[], ◌∷◌}
use lib.Ieee.{round, mul, of_int, le}
use Rattle.base.specs.Choice.{ask, both}
use Rattle.base.specs.Lists.{padded, all, each_from}
use Rattle.base.specs.Rows.{apart, up_to}
use Rattle.buckets.specs.Ranges.{reaches_allowed, width_allowed, buckets_of, buckets_few, ranges_number}
use Rattle.doubles.specs.Doubles.{half_away}
use Rattle.policy.specs.Settings.{times_allowed, margins_allowed}
use Rattle.policy.specs.Need.{need_of}
use Rattle.delay_hold.specs.Checks.{Kept, Changed}
use Rattle.delay_hold.specs.Steps1To3.{noted}
use Rattle.delay_hold.specs.Step4Peaks.{join_times, join_lags, old_count, times_after, lags_after}
use Rattle.delay_hold.specs.Steps5To8.{lowering, weighed, decide_at, decide}
use Rattle.delay_hold.specs.Next.{next_of}
use Rattle.delay_hold.specs.Whole.{whole_peaks, whole_times, whole_hold}
use Rattle.delay_hold.specs.Checks.{lists_fit, new_number, new_reply, settings_number, held_number, next_number, next_reply}
use Rattle.answers.specs.Fifteen.{first_next}

pub decisions_are :
    first_next None (Some 485) 0 ∷ first_next None (Some 480) 0 ∷ first_next None (Some 5281) 0 ∷ first_next (Some 480) None 47 ∷ first_next (Some 480) None 48 ∷ []
    ≡ Changed 104 ∷ Kept ∷ Kept ∷ Changed 96 ∷ Kept ∷ []
unfolding new_reply new_number next_reply next_number settings_number held_number lists_fit whole_hold whole_peaks whole_times apart up_to all each_from ask both reaches_allowed width_allowed buckets_of buckets_few ranges_number times_allowed margins_allowed next_of noted join_times join_lags old_count times_after lags_after padded decide decide_at weighed lowering need_of half_away round mul of_int le
decisions_are = refl
