-- Document 01, check 6, of one hold: "`next` alone sees one hold". Assumes nothing.
use Rattle.std.specs.Prelude.{ℕ, ◌+◌, ◌-◌, Bool, true, nat_le, nat_lt, None, Option, Some}
use Rattle.base.specs.Choice.{both}
use Rattle.base.specs.Limits.{nanos, time_limit, timely, samples_limit, width_limit}
use Rattle.base.specs.Lists.{blank_from}
use Rattle.policy.specs.declared.DelayPolicy.{DelayPolicy}
use Rattle.delay_hold.specs.declared.Seed.{Seed}
use Rattle.delay_hold.specs.declared.LowerTimer.{LowerTimer}
use Rattle.delay_hold.specs.declared.DelayHold.{DelayHold}
use Rattle.base.specs.Rows.{apart, up_to, span_of}
use Rattle.delay_hold.specs.Step4Peaks.{most_peaks}
use Rattle.delay_hold.specs.Next.{Held}

-- "times within 8"
abbrev pub moment_timely : Option ℕ → Bool
moment_timely None = true
moment_timely (Some t) = timely t

-- "seeds .. at most maximum", and its time
abbrev pub seed_fits : Option Seed → (maximum : ℕ) → Bool
seed_fits None maximum = true
seed_fits (Some seed) maximum = nat_le seed.delay maximum

abbrev pub seed_timely : Option Seed → Bool
seed_timely None = true
seed_timely (Some seed) = timely seed.since

-- "timer needs at most maximum", and its time; a timer that is off is None, of which nothing is left to be zero
abbrev pub timer_fits : Option LowerTimer → (maximum : ℕ) → Bool
timer_fits None maximum = true
timer_fits (Some timer) maximum = nat_le timer.highest maximum

abbrev pub timer_timely : Option LowerTimer → Bool
timer_timely None = true
timer_timely (Some timer) = timely timer.since

-- the largest lag that a peak may hold, and p999: "offset + maximum + W"
abbrev pub peak_most : (policy : DelayPolicy) (width : ℕ) → ℕ
peak_most policy width = policy.read_offset + policy.delay_max + width

-- and the most that this is, whatever the settings
abbrev pub peak_limit : ℕ
peak_limit = samples_limit + samples_limit + width_limit

-- "peaks within number, each at least 1 s after the one before, .. less than window; .. unused places zero; peaks at most offset + maximum + W"
unfoldable pub whole_peaks : (policy : DelayPolicy) (width : ℕ) (s : Held) → Bool
whole_peaks policy width s =
    both (nat_le s.hold.peaks most_peaks)
    (both (apart nanos (s.hold.peaks - 1) s.times)
    (both (nat_lt (span_of s.hold.peaks s.times) policy.window)
    (both (blank_from s.hold.peaks s.times)
    (both (blank_from s.hold.peaks s.lags)
    (both (up_to (peak_most policy width) s.hold.peaks s.lags)
    (up_to time_limit s.hold.peaks s.times))))))

-- "seeds, timer needs at most maximum; .. times within 8"
unfoldable pub whole_times : (policy : DelayPolicy) (h : DelayHold) → Bool
whole_times policy h =
    both (seed_fits h.seeded policy.delay_max)
    (both (timer_fits h.lower policy.delay_max)
    (both (moment_timely h.last_change)
    (both (timer_timely h.lower)
    (both (moment_timely h.started)
    (seed_timely h.seeded)))))

unfoldable pub whole_hold : (policy : DelayPolicy) (width : ℕ) (s : Held) → Bool
whole_hold policy width s = both (whole_peaks policy width s) (whole_times policy s.hold)
