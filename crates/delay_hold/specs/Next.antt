-- Document 01, "DelayHold": steps 1 to 8 in their order, on a hold with its two lent lists of 600; and what is left of it. Assumes nothing.
-- What each step does stands in Steps1To3, Step4Peaks and Steps5To8.
use Rattle.std.specs.Prelude.{ℕ, Bool, true, false, List, length, take, replicate, None, Option, Some}
use Rattle.base.specs.Lists.{padded}
use Rattle.policy.specs.declared.DelayPolicy.{DelayPolicy}
use Rattle.delay_hold.specs.declared.DelayHold.{DelayHold}
use Rattle.delay_hold.specs.declared.Next.{Next}
use Rattle.delay_hold.specs.Steps1To3.{in_startup, capped, lag_of, late_of, noted}
use Rattle.delay_hold.specs.Step4Peaks.{most_peaks, larger_lag, times_after, lags_after, worst_of}
use Rattle.delay_hold.specs.Steps5To8.{decide, timer_off}

-- document 01's 48: one millisecond of samples
abbrev pub one_millisecond : ℕ
one_millisecond = 48

-- a due lowering never waits
abbrev pub always_lower : Bool
always_lower = true

-- a hold with its two lent lists: the times and the lags of its peaks, oldest first, unused places zero
pub record Held : Type 0 where
  pub hold : DelayHold
  pub times : List ℕ
  pub lags : List ℕ

abbrev pub held : (h : DelayHold) (times lags : List ℕ) → Held
held h times lags = record { hold = h; times = times; lags = lags }

-- what `next` decides and leaves
pub record Decided : Type 0 where
  pub change : Option ℕ
  pub held : Held

abbrev pub decided : (r : Next) (times lags : List ℕ) → Decided
decided r times lags = record { change = r.change; held = held r.hold times lags }

-- the times and the lags of the peaks in use
abbrev pub times_in : Held → List ℕ
times_in s = take s.hold.peaks s.times

abbrev pub lags_in : Held → List ℕ
lags_in s = take s.hold.peaks s.lags

-- the hold with another number of peaks
abbrev pub with_peaks : (h : DelayHold) (n : ℕ) → DelayHold
with_peaks h n =
    record {
      peaks = n;
      last_change = h.last_change;
      lower = h.lower;
      started = h.started;
      startup_late = h.startup_late;
      late_before = h.late_before;
      seeded = h.seeded;
    }

-- 1. the hold and the window of this call
abbrev pub hold_now : (policy : DelayPolicy) (h : DelayHold) (time : ℕ) → ℕ
hold_now policy h time = capped (in_startup h time) policy.hold

abbrev pub window_now : (policy : DelayPolicy) (h : DelayHold) (time : ℕ) → ℕ
window_now policy h time = capped (in_startup h time) policy.window

-- 4. the peaks that are left
abbrev pub times_now : (policy : DelayPolicy) (s : Held) (p999 largest : Option ℕ) (time : ℕ) → List ℕ
times_now policy s p999 largest time = times_after (times_in s) (larger_lag (lag_of policy largest) p999) (window_now policy s.hold time) time

abbrev pub lags_now : (policy : DelayPolicy) (s : Held) (p999 largest : Option ℕ) (time : ℕ) → List ℕ
lags_now policy s p999 largest time =
    lags_after (times_in s) (lags_in s) (larger_lag (lag_of policy largest) p999) (window_now policy s.hold time) time

-- 1 to 4: the hold that decides
abbrev pub hold_before : (millisecond : ℕ) (policy : DelayPolicy) (s : Held) (p999 largest : Option ℕ) (current time : ℕ) → DelayHold
hold_before millisecond policy s p999 largest current time =
    with_peaks
    (noted millisecond policy s.hold (lag_of policy largest) (in_startup s.hold time) (late_of policy largest current) time)
    (length (times_now policy s p999 largest time))

-- 5 to 8
abbrev pub decision : (millisecond : ℕ) (may_lower : Bool) (policy : DelayPolicy) (s : Held) (p999 largest : Option ℕ) (current time : ℕ) → Next
decision millisecond may_lower policy s p999 largest current time =
    decide millisecond may_lower policy (hold_before millisecond policy s p999 largest current time) (late_of policy largest current) p999
    (worst_of (lags_now policy s p999 largest time))
    current
    (hold_now policy s.hold time)
    time

-- "`next` takes p999, the largest lag, current, time. In order:" 1 to 8
unfoldable pub next_of : (millisecond : ℕ) (may_lower : Bool) (policy : DelayPolicy) (s : Held) (p999 largest : Option ℕ) (current time : ℕ) → Decided
next_of millisecond may_lower policy s p999 largest current time =
    decided (decision millisecond may_lower policy s p999 largest current time)
    (padded most_peaks (times_now policy s p999 largest time))
    (padded most_peaks (lags_now policy s p999 largest time))

-- the delay after a change
abbrev pub delay_after : (current : ℕ) → Option ℕ → ℕ
delay_after current None = current
delay_after current (Some delay) = delay

-- a fresh hold
abbrev pub fresh_hold : DelayHold
fresh_hold =
    record {
      peaks = 0;
      last_change = None;
      lower = timer_off;
      started = None;
      startup_late = 0;
      late_before = false;
      seeded = None;
    }

-- a hold that is made or cleared: fresh, with every lent place zero
abbrev pub cleared_hold : Held → Held
cleared_hold s = held fresh_hold (replicate (length s.times) 0) (replicate (length s.lags) 0)

-- "seed": the remembered delay, from now on
abbrev pub seeded_hold : (h : DelayHold) (delay time : ℕ) → DelayHold
seeded_hold h delay time =
    record {
      peaks = h.peaks;
      last_change = h.last_change;
      lower = h.lower;
      started = h.started;
      startup_late = h.startup_late;
      late_before = h.late_before;
      seeded = Some (record { since = time; delay = delay });
    }
