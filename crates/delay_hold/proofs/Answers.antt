-- Document 01's five answers of `next` as far as current 48, computed on the definition of the call. Assumes nothing.
-- a fresh hold, W 48, one hour after the clock's start
use Rattle.std.specs.Prelude.{◌≡◌, ℕ, [], ◌∷◌, replicate, None, Option, Some}
use mathlib.Core.Path.{refl}
use lib.Ieee.{round, mul, of_int, le}
use Rattle.base.specs.Choice.{ask, both}
use Rattle.base.specs.Lists.{padded, all, each_from}
use Rattle.doubles.specs.Doubles.{half_away}
use Rattle.policy.specs.Settings.{times_allowed, margins_allowed}
use Rattle.policy.specs.Need.{need_of}
use Rattle.policy.proofs.Answers.{example_policy}
use Rattle.delay_hold.specs.Checks.{Answer}
use Rattle.delay_hold.specs.Checks.{Kept, Changed}
use Rattle.delay_hold.specs.Steps1To3.{noted}
use Rattle.delay_hold.specs.Step4Peaks.{join_times, join_lags, old_count, times_after, lags_after, most_peaks}
use Rattle.delay_hold.specs.Steps5To8.{lowering, weighed, decide_at, decide}
use Rattle.delay_hold.specs.Next.{Held, held, fresh_hold, next_of}
use Rattle.base.specs.Rows.{apart, up_to}
use Rattle.buckets.specs.Ranges.{reaches_allowed, width_allowed, buckets_of, buckets_few, ranges_number}
use Rattle.delay_hold.specs.Whole.{whole_peaks, whole_times, whole_hold}
use Rattle.delay_hold.specs.Checks.{lists_fit, settings_number, held_number, next_number, next_reply}

abbrev pub fresh : Held
fresh = held fresh_hold (replicate most_peaks 0) (replicate most_peaks 0)

abbrev pub first : Option ℕ → Option ℕ → ℕ → Answer
first p999 largest current = (next_reply example_policy 48 fresh p999 largest current 3_600_000_000_000).answer

-- "Current 0: lag 485 gives 104, lag 480 none, lag 5281 none. p999 480, no lag: current 47 raises to 96, 48 does not"
pub answers : first None (Some 485) 0 ∷ first None (Some 480) 0 ∷ first None (Some 5281) 0 ∷ first (Some 480) None 47 ∷ first (Some 480) None 48 ∷ [] ≡ Changed 104 ∷ Kept ∷ Kept ∷ Changed 96 ∷ Kept ∷ []
unfolding next_reply next_number settings_number held_number lists_fit whole_hold whole_peaks whole_times apart up_to all each_from ask both reaches_allowed width_allowed buckets_of buckets_few ranges_number times_allowed margins_allowed next_of noted join_times join_lags old_count times_after lags_after padded decide decide_at weighed lowering need_of half_away round mul of_int le
answers = refl
