-- Document 01, "DelayHold", steps 5 to 8: whether the delay changes, and to what. Assumes nothing.
-- `millisecond` is document 01's 48 samples; `may_lower` says whether a due lowering happens at this call or waits.
use Rattle.std.specs.Prelude.{ℕ, ◌+◌, ◌-◌, ◌/◌, max, Bool, true, false, not, ◌&&◌, ◌||◌, nat_le, nat_lt, None, Option, Some}
use Rattle.base.specs.Choice.{pick}
use Rattle.policy.specs.declared.DelayPolicy.{DelayPolicy}
use Rattle.policy.specs.Need.{need_of}
use Rattle.delay_hold.specs.declared.Seed.{Seed}
use Rattle.delay_hold.specs.declared.LowerTimer.{LowerTimer}
use Rattle.delay_hold.specs.declared.DelayHold.{DelayHold}
use Rattle.delay_hold.specs.declared.Next.{Next}
use Rattle.delay_hold.specs.Step4Peaks.{larger_lag}

-- the timer that is off
abbrev pub timer_off : Option LowerTimer
timer_off = None

-- the hold with another timer
abbrev pub with_lower : (h : DelayHold) (timer : Option LowerTimer) → DelayHold
with_lower h timer =
    record {
      peaks = h.peaks;
      last_change = h.last_change;
      lower = timer;
      started = h.started;
      startup_late = h.startup_late;
      late_before = h.late_before;
      seeded = h.seeded;
    }

-- 8. "A raise or lowering stores now as the last change"; both turn the timer off
abbrev pub after_change : (h : DelayHold) (time : ℕ) → DelayHold
after_change h time =
    record {
      peaks = h.peaks;
      last_change = Some time;
      lower = timer_off;
      started = h.started;
      startup_late = h.startup_late;
      late_before = h.late_before;
      seeded = h.seeded;
    }

abbrev pub keeps : DelayHold → Next
keeps h = record { hold = h; change = None }

abbrev pub changes : (h : DelayHold) (delay time : ℕ) → Next
changes h delay time = record { hold = after_change h time; change = Some delay }

-- 5. the seed, as a floor of the need
abbrev pub floor_of : Option Seed → ℕ
floor_of None = 0
floor_of (Some seed) = seed.delay

-- 5. "need = the larger of need(worst) and the seed"
abbrev pub need_for : (policy : DelayPolicy) (seed : Option Seed) (worst : ℕ) → ℕ
need_for policy seed worst = max (need_of policy worst) (floor_of seed)

-- 6. "half = (need(worst) + offset − worst, or 0) / 2"
abbrev pub half_for : (policy : DelayPolicy) (worst : ℕ) → ℕ
half_for policy worst = (need_of policy worst + policy.read_offset - worst) / 2

-- 6. "late or worst + half > offset + current"
abbrev pub urgent_at : (policy : DelayPolicy) (late : Bool) (worst current : ℕ) → Bool
urgent_at policy late worst current = late || nat_lt (policy.read_offset + current) (worst + half_for policy worst)

-- 8. a timer that is on ".. keeps the highest need met"
abbrev pub highest_kept : (timer : LowerTimer) (need : ℕ) → LowerTimer
highest_kept timer need = record { since = timer.since; highest = max timer.highest need }

-- 8. "The timer starts, or keeps the highest need met."
abbrev pub timer_met : Option LowerTimer → (need time : ℕ) → LowerTimer
timer_met None need time = record { since = time; highest = need }
timer_met (Some timer) need time = highest_kept timer need

-- 8. the last change (if any) is at least hold old
abbrev pub held_since : Option ℕ → (hold time : ℕ) → Bool
held_since None hold time = true
held_since (Some t) hold time = nat_le hold (time - t)

-- 8. "Once it and the last change (if any) are at least hold old: timer off, lower to that highest."
unfoldable pub lowering : (may_lower : Bool) (h : DelayHold) (need hold time : ℕ) → Next
lowering may_lower h need hold time =
    let timer : LowerTimer = timer_met h.lower need time in
    pick (may_lower && nat_le hold (time - timer.since) && held_since h.last_change hold time)
    (changes h timer.highest time)
    (keeps (with_lower h (Some timer)))

-- 6. "If need > current and (..): timer off, raise to need." 7. "If need + 48 > current: timer off, no change." 8.
unfoldable pub weighed : (millisecond : ℕ) (may_lower : Bool) (h : DelayHold) (need : ℕ) (urgent : Bool) (current hold time : ℕ) → Next
weighed millisecond may_lower h need urgent current hold time =
    pick (nat_lt current need && urgent) (changes h need time)
    (pick (nat_lt current (need + millisecond)) (keeps (with_lower h timer_off)) (lowering may_lower h need hold time))

-- 6 to 8 at a worst lag
unfoldable pub decide_at : (millisecond : ℕ) (may_lower : Bool) (policy : DelayPolicy) (h : DelayHold) (late : Bool) (worst current hold time : ℕ) → Next
decide_at millisecond may_lower policy h late worst current hold time =
    weighed millisecond may_lower h (need_for policy h.seeded worst) (urgent_at policy late worst current) current hold time

abbrev pub decide_for : (millisecond : ℕ) (may_lower : Bool) (policy : DelayPolicy) (h : DelayHold) (late : Bool) → Option ℕ → (current hold time : ℕ) → Next
decide_for millisecond may_lower policy h late None current hold time = keeps h
decide_for millisecond may_lower policy h late (Some worst) current hold time = decide_at millisecond may_lower policy h late worst current hold time

abbrev pub missing : Option ℕ → Bool
missing None = true
missing (Some lag) = false

-- 5. "No p999 and not late: no change, timer kept. worst = the larger of p999 and the greatest peak"
unfoldable pub decide : (millisecond : ℕ) (may_lower : Bool) (policy : DelayPolicy) (h : DelayHold) (late : Bool) (p999 peak : Option ℕ) (current hold time : ℕ) → Next
decide millisecond may_lower policy h late p999 peak current hold time =
    pick (missing p999 && not late) (keeps h)
    (decide_for millisecond may_lower policy h late (larger_lag p999 peak) current hold time)
