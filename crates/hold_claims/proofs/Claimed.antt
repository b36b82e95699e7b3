-- The claims, each computed on the definitions. Assumes nothing.
use mathlib.Core.Path.{refl}
use lib.Ieee.{round, mul, of_int, le}
use Rattle.base.specs.Choice.{ask, both}
use Rattle.base.specs.Lists.{all, each_from}
use Rattle.base.specs.Rows.{apart, up_to}
use Rattle.buckets.specs.Ranges.{reaches_allowed, width_allowed, buckets_of, buckets_few, ranges_number}
use Rattle.doubles.specs.Doubles.{half_away}
use Rattle.policy.specs.Settings.{times_allowed, margins_allowed}
use Rattle.policy.specs.Need.{need_of}
use Rattle.delay_hold.specs.Steps1To3.{noted}
use Rattle.delay_hold.specs.Step4Peaks.{join_times, join_lags, old_count, times_after, lags_after}
use Rattle.delay_hold.specs.Steps5To8.{lowering, weighed, decide_at, decide}
use Rattle.delay_hold.specs.Next.{next_of}
use Rattle.delay_hold.specs.Whole.{whole_peaks, whole_times, whole_hold}
use Rattle.delay_hold.specs.Checks.{lists_fit, new_number, new_reply, settings_number, held_number, next_number, next_reply}
use Rattle.hold_claims.specs.Claims.{StartupUnder60Seconds, StartupUnderTwoLates, LateCountedInStartup, SeedEndsStartup, PeakJoinedUnder1Second, NothingToGoBy, TimerStartsOrKeeps, ChangeStored, StartupOf5Seconds, SeedByThePolicysHold, FarLagDropped, LateCountedOnce, HalfRoundedDown, TimerOffNearTheNeed, LoweredToTheHighest, LoweringLooksAtTheLastChange, ReachesWidthBucketsChecked, CurrentAndP999Checked, PeaksSpanLessThanWindow, RefusalLeavesTheLists, NewZeroesBothLists, NewOf599Refused}

pub startup_of_5_seconds : StartupOf5Seconds
unfolding next_of noted join_times join_lags old_count times_after lags_after decide decide_at weighed lowering need_of half_away round mul of_int
startup_of_5_seconds = refl

pub seed_by_the_policys_hold : SeedByThePolicysHold
unfolding next_of noted join_times join_lags old_count times_after lags_after decide decide_at weighed lowering need_of half_away round mul of_int
seed_by_the_policys_hold = refl

pub far_lag_dropped : FarLagDropped
unfolding next_of noted join_times join_lags old_count times_after lags_after decide decide_at weighed lowering need_of half_away round mul of_int
far_lag_dropped = (refl, refl)

pub late_counted_once : LateCountedOnce
unfolding next_of noted join_times join_lags old_count times_after lags_after decide decide_at weighed lowering need_of half_away round mul of_int
late_counted_once = refl

pub half_rounded_down : HalfRoundedDown
unfolding next_of noted join_times join_lags old_count times_after lags_after decide decide_at weighed lowering need_of half_away round mul of_int
half_rounded_down = refl

pub timer_off_near_the_need : TimerOffNearTheNeed
unfolding next_of noted join_times join_lags old_count times_after lags_after decide decide_at weighed lowering need_of half_away round mul of_int
timer_off_near_the_need = refl

pub lowered_to_the_highest : LoweredToTheHighest
unfolding next_of noted join_times join_lags old_count times_after lags_after decide decide_at weighed lowering need_of half_away round mul of_int
lowered_to_the_highest = refl

pub lowering_looks_at_the_last_change : LoweringLooksAtTheLastChange
unfolding next_of noted join_times join_lags old_count times_after lags_after decide decide_at weighed lowering need_of half_away round mul of_int
lowering_looks_at_the_last_change = refl

pub reaches_width_buckets_checked : ReachesWidthBucketsChecked
unfolding next_number settings_number held_number lists_fit whole_hold whole_peaks whole_times apart up_to all each_from ask both reaches_allowed width_allowed buckets_of buckets_few ranges_number times_allowed margins_allowed le
reaches_width_buckets_checked = refl

pub current_and_p999_checked : CurrentAndP999Checked
unfolding next_number settings_number held_number lists_fit whole_hold whole_peaks whole_times apart up_to all each_from ask both reaches_allowed width_allowed buckets_of buckets_few ranges_number times_allowed margins_allowed le
current_and_p999_checked = refl

pub peaks_span_less_than_window : PeaksSpanLessThanWindow
unfolding next_number settings_number held_number lists_fit whole_hold whole_peaks whole_times apart up_to all each_from ask both reaches_allowed width_allowed buckets_of buckets_few ranges_number times_allowed margins_allowed le
peaks_span_less_than_window = refl

pub refusal_leaves_the_lists : RefusalLeavesTheLists
unfolding next_reply next_number settings_number held_number lists_fit whole_hold whole_peaks whole_times apart up_to all each_from ask both reaches_allowed width_allowed buckets_of buckets_few ranges_number times_allowed margins_allowed le
refusal_leaves_the_lists = refl

pub new_zeroes_both_lists : NewZeroesBothLists
unfolding new_reply new_number lists_fit ask both
new_zeroes_both_lists = refl

pub new_of_599_refused : NewOf599Refused
unfolding new_reply new_number lists_fit ask both
new_of_599_refused = refl

pub startup_under_60_seconds : StartupUnder60Seconds
unfolding next_of noted join_times join_lags old_count times_after lags_after decide decide_at weighed lowering need_of half_away round mul of_int
startup_under_60_seconds = refl

pub startup_under_two_lates : StartupUnderTwoLates
unfolding next_of noted join_times join_lags old_count times_after lags_after decide decide_at weighed lowering need_of half_away round mul of_int
startup_under_two_lates = refl

pub late_counted_in_startup : LateCountedInStartup
unfolding next_of noted join_times join_lags old_count times_after lags_after decide decide_at weighed lowering need_of half_away round mul of_int
late_counted_in_startup = refl

pub seed_ends_startup : SeedEndsStartup
unfolding next_of noted join_times join_lags old_count times_after lags_after decide decide_at weighed lowering need_of half_away round mul of_int
seed_ends_startup = refl

pub peak_joined_under_1_second : PeakJoinedUnder1Second
unfolding next_of noted join_times join_lags old_count times_after lags_after decide decide_at weighed lowering need_of half_away round mul of_int
peak_joined_under_1_second = refl

pub nothing_to_go_by : NothingToGoBy
unfolding next_of noted join_times join_lags old_count times_after lags_after decide decide_at weighed lowering need_of half_away round mul of_int
nothing_to_go_by = (refl, refl)

pub timer_starts_or_keeps : TimerStartsOrKeeps
unfolding next_of noted join_times join_lags old_count times_after lags_after decide decide_at weighed lowering need_of half_away round mul of_int
timer_starts_or_keeps = refl

pub change_stored : ChangeStored
unfolding next_of noted join_times join_lags old_count times_after lags_after decide decide_at weighed lowering need_of half_away round mul of_int
change_stored = refl
