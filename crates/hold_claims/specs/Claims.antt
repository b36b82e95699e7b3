-- Document 01, "DelayHold", step by step: what `next` answers at the edges of its rules, as numbers. Assumes nothing.
-- Settings: offset 480, maximum 4,800, margin 96, share 0.5, hold 30 s, window 10 s; W 48.
use Rattle.std.specs.Prelude.{ℕ, Bool, true, false, ◌≡◌, List, [], ◌∷◌, ◌++◌, negsuc, replicate, None, Option, Some}
use Rattle.std.specs.Float.{fin}
use Rattle.policy.specs.declared.DelayPolicy.{DelayPolicy}
use Rattle.delay_hold.specs.declared.Seed.{Seed}
use Rattle.delay_hold.specs.declared.LowerTimer.{LowerTimer}
use Rattle.delay_hold.specs.declared.DelayHold.{DelayHold}
use Rattle.delay_hold.specs.Checks.{Refused}
use Rattle.delay_hold.specs.Steps5To8.{timer_off}
use Rattle.delay_hold.specs.Next.{Held, held, Decided, next_of, fresh_hold, one_millisecond, always_lower}
use Rattle.delay_hold.specs.Checks.{new_reply, next_number, next_reply}

abbrev pub settings : DelayPolicy
settings = record { read_offset = 480; delay_max = 4800; hold = 30_000_000_000; window = 10_000_000_000; margin = 96; margin_share = fin false 1 (negsuc 0) }

-- a hold that was started at 0, with so many startup lates, this last change, timer, late before and seed, and so many peaks
abbrev pub holding_after : (lates peaks : ℕ) (change : Option ℕ) (timer : Option LowerTimer) (lateBefore : Bool) (seed : Option Seed) → DelayHold
holding_after lates peaks change timer lateBefore seed =
    record { peaks = peaks; last_change = change; lower = timer; started = Some 0; startup_late = lates; late_before = lateBefore; seeded = seed }

abbrev pub holding : (peaks : ℕ) (change : Option ℕ) (timer : Option LowerTimer) (lateBefore : Bool) (seed : Option Seed) → DelayHold
holding peaks change timer lateBefore seed = holding_after 0 peaks change timer lateBefore seed

-- a timer that is on since then, with the highest need met
abbrev pub timing : (since highest : ℕ) → Option LowerTimer
timing since highest = Some (record { since = since; highest = highest })

-- steps 1 to 8 on a hold without peaks, or with these
abbrev pub next_with : (h : DelayHold) (times lags : List ℕ) (p999 largest : Option ℕ) (current time : ℕ) → Decided
next_with h times lags p999 largest current time = next_of one_millisecond always_lower settings (held h times lags) p999 largest current time

abbrev pub next : (h : DelayHold) (p999 largest : Option ℕ) (current time : ℕ) → Decided
next h p999 largest current time = next_with h [] [] p999 largest current time

-- 600 places with these numbers first
abbrev pub places : (first : List ℕ) (rest : ℕ) → List ℕ
places first rest = first ++ replicate rest 0

-- the whole call on a fresh hold, at 1 s
abbrev pub fresh : Held
fresh = held fresh_hold (replicate 600 0) (replicate 600 0)

abbrev pub number_of : (p999 : Option ℕ) (current : ℕ) → ℕ
number_of p999 current = next_number settings 48 fresh p999 current 1_000_000_000

-- 1. "In startup hold and window are each at most 5 s": the timer is due at 5 s and not 1 ns before; a peak goes at 5 s and not 1 ns before
abbrev pub StartupOf5Seconds : Type 0
StartupOf5Seconds =
    (next (holding 0 None (timing 0 96) false None) (Some 480) None 200 4_999_999_999).change
    ∷ (next (holding 0 None (timing 0 96) false None) (Some 480) None 200 5_000_000_000).change
    ∷ (next_with (holding 1 None timer_off false None) (0 ∷ []) (900 ∷ []) (Some 480) None 0 4_999_999_999).change
    ∷ (next_with (holding 1 None timer_off false None) (0 ∷ []) (900 ∷ []) (Some 480) None 0 5_000_000_000).change
    ∷ []
    ≡ None ∷ Some 96 ∷ Some 726 ∷ Some 96 ∷ []

-- 1. "Startup is: under 60 s since, and fewer than two startup lates": a timer is due at 5 s in startup, and not at 7 s after it
abbrev pub StartupUnder60Seconds : Type 0
StartupUnder60Seconds =
    (next (holding 0 None (timing 53_000_000_000 96) false None) (Some 480) None 200 57_999_999_999).change
    ∷ (next (holding 0 None (timing 53_000_000_000 96) false None) (Some 480) None 200 59_999_999_999).change
    ∷ (next (holding 0 None (timing 53_000_000_000 96) false None) (Some 480) None 200 60_000_000_000).change
    ∷ []
    ≡ None ∷ Some 96 ∷ None ∷ []

abbrev pub StartupUnderTwoLates : Type 0
StartupUnderTwoLates =
    (next (holding_after 1 0 None (timing 0 96) false None) (Some 480) None 200 6_000_000_000).change
    ∷ (next (holding_after 2 0 None (timing 0 96) false None) (Some 480) None 200 6_000_000_000).change
    ∷ []
    ≡ Some 96 ∷ None ∷ []

-- 2. "A seed of age at least the policy's hold (not the startup one) goes": in startup a seed of 1,000 goes at 30 s, not 1 ns before
abbrev pub SeedByThePolicysHold : Type 0
SeedByThePolicysHold =
    (next (holding 0 None timer_off false (Some (record { since = 0; delay = 1000 }))) (Some 480) None 0 29_999_999_999).change
    ∷ (next (holding 0 None timer_off false (Some (record { since = 0; delay = 1000 }))) (Some 480) None 0 30_000_000_000).change
    ∷ []
    ≡ Some 1000 ∷ Some 96 ∷ []

-- 3. "A largest lag above offset + maximum is dropped": 5,280 raises to the maximum and is a peak, 5,281 neither
abbrev pub FarLagDropped : Type 0
FarLagDropped =
    (((next fresh_hold None (Some 5280) 0 0).change ∷ (next fresh_hold None (Some 5281) 0 0).change ∷ []) ≡ (Some 4800 ∷ None ∷ []))
    × (((next fresh_hold None (Some 5280) 0 0).held.hold.peaks ∷ (next fresh_hold None (Some 5281) 0 0).held.hold.peaks ∷ []) ≡ (1 ∷ 0 ∷ []))

-- 3. "A late after a not-late, in startup, with an earlier change, adds a startup late": not a late after a late, nor one before any change
abbrev pub LateCountedOnce : Type 0
LateCountedOnce =
    (next (holding 0 (Some 0) timer_off false None) None (Some 600) 0 1_000_000_000).held.hold.startup_late
    ∷ (next (holding 0 (Some 0) timer_off true None) None (Some 600) 0 1_000_000_000).held.hold.startup_late
    ∷ (next (holding 0 None timer_off false None) None (Some 600) 0 1_000_000_000).held.hold.startup_late
    ∷ []
    ≡ 1 ∷ 0 ∷ 0 ∷ []

-- 3. ".. in startup ..": no late counts from 60 s on
abbrev pub LateCountedInStartup : Type 0
LateCountedInStartup =
    (next (holding 0 (Some 0) timer_off false None) None (Some 600) 0 59_999_999_999).held.hold.startup_late
    ∷ (next (holding 0 (Some 0) timer_off false None) None (Some 600) 0 60_000_000_000).held.hold.startup_late
    ∷ []
    ≡ 1 ∷ 0 ∷ []

-- 3. "With a largest lag, a seed not above its need + 48 sets startup lates to 2": the need of 485 is 104
abbrev pub SeedEndsStartup : Type 0
SeedEndsStartup =
    (next (holding 0 None timer_off false (Some (record { since = 0; delay = 152 }))) None (Some 485) 4800 1_000_000_000).held.hold.startup_late
    ∷ (next (holding 0 None timer_off false (Some (record { since = 0; delay = 153 }))) None (Some 485) 4800 1_000_000_000).held.hold.startup_late
    ∷ (next (holding 0 None timer_off false (Some (record { since = 0; delay = 152 }))) (Some 485) None 4800 1_000_000_000).held.hold.startup_late
    ∷ []
    ≡ 2 ∷ 0 ∷ 0 ∷ []

-- 4. "The larger of lag and p999 joins the newest peak if that is under 1 s old, else is a new peak"
abbrev pub PeakJoinedUnder1Second : Type 0
PeakJoinedUnder1Second =
    (next_with (holding 1 None timer_off false None) (0 ∷ []) (500 ∷ []) (Some 480) None 0 999_999_999).held.hold.peaks
    ∷ (next_with (holding 1 None timer_off false None) (0 ∷ []) (500 ∷ []) (Some 480) None 0 1_000_000_000).held.hold.peaks
    ∷ []
    ≡ 1 ∷ 2 ∷ []

-- 5. "No p999 and not late: no change, timer kept": a timer that is due long since
abbrev pub NothingToGoBy : Type 0
NothingToGoBy =
    ((next (holding 0 None (timing 0 120) false None) None (Some 480) 200 100_000_000_000).change ≡ None)
    × ((next (holding 0 None (timing 0 120) false None) None (Some 480) 200 100_000_000_000).held.hold.lower ≡ timing 0 120)

-- 6. "half = (need(worst) + offset − worst, or 0) / 2": of 97 it is 48, so that at lag 481 a current of 48 raises and 49 does not
abbrev pub HalfRoundedDown : Type 0
HalfRoundedDown = (next fresh_hold (Some 481) None 48 0).change ∷ (next fresh_hold (Some 481) None 49 0).change ∷ [] ≡ Some 98 ∷ None ∷ []

-- 7. "If need + 48 > current: timer off": at need 96 a current of 143 turns it off, 144 does not
abbrev pub TimerOffNearTheNeed : Type 0
TimerOffNearTheNeed =
    (next (holding 0 None (timing 0 120) false None) (Some 480) None 143 1_000_000_000).held.hold.lower
    ∷ (next (holding 0 None (timing 0 120) false None) (Some 480) None 144 1_000_000_000).held.hold.lower
    ∷ []
    ≡ timer_off ∷ timing 0 120 ∷ []

-- 8. "The timer starts, or keeps the highest need met": at need 96
abbrev pub TimerStartsOrKeeps : Type 0
TimerStartsOrKeeps =
    (next (holding 0 None timer_off false None) (Some 480) None 200 7_000_000_000).held.hold.lower
    ∷ (next (holding 0 None (timing 6_000_000_000 90) false None) (Some 480) None 200 7_000_000_000).held.hold.lower
    ∷ (next (holding 0 None (timing 6_000_000_000 120) false None) (Some 480) None 200 7_000_000_000).held.hold.lower
    ∷ []
    ≡ timing 7_000_000_000 96 ∷ timing 6_000_000_000 96 ∷ timing 6_000_000_000 120 ∷ []

-- 8. "A raise or lowering stores now as the last change"; what is kept does not
abbrev pub ChangeStored : Type 0
ChangeStored =
    (next (holding 0 (Some 3) timer_off false None) (Some 480) None 0 7_000_000_000).held.hold.last_change
    ∷ (next (holding 0 (Some 3) (timing 0 96) false None) (Some 480) None 200 7_000_000_000).held.hold.last_change
    ∷ (next (holding 0 (Some 3) timer_off false None) (Some 480) None 100 7_000_000_000).held.hold.last_change
    ∷ []
    ≡ Some 7_000_000_000 ∷ Some 7_000_000_000 ∷ Some 3 ∷ []

-- 8. ".. lower to that highest": need 96 now, and 150 the highest met
abbrev pub LoweredToTheHighest : Type 0
LoweredToTheHighest = (next (holding 0 None (timing 0 150) false None) (Some 480) None 200 100_000_000_000).change ≡ Some 150

-- 8. "Once it and the last change (if any) are at least hold old": the timer since 60 s, the last change at 80 s, hold 30 s
abbrev pub LoweringLooksAtTheLastChange : Type 0
LoweringLooksAtTheLastChange =
    (next (holding 0 (Some 80_000_000_000) (timing 60_000_000_000 96) false None) (Some 480) None 200 109_999_999_999).change
    ∷ (next (holding 0 (Some 80_000_000_000) (timing 60_000_000_000 96) false None) (Some 480) None 200 110_000_000_000).change
    ∷ []
    ≡ None ∷ Some 96 ∷ []

-- "Number 17 is for W, asked straight after 2; 18 for buckets, asked straight after 17": of `next` alone too, before 3
abbrev pub reaching : (offset maximum : ℕ) → DelayPolicy
reaching offset maximum = record { read_offset = offset; delay_max = maximum; hold = 0; window = 0; margin = 96; margin_share = fin false 1 (negsuc 0) }

abbrev pub number_for : (offset maximum width : ℕ) → ℕ
number_for offset maximum width = next_number (reaching offset maximum) width fresh None 0 1_000_000_000

abbrev pub ReachesWidthBucketsChecked : Type 0
ReachesWidthBucketsChecked =
    number_for 96001 96000 0 ∷ number_for 96000 96001 1 ∷ number_for 96000 96000 0 ∷ number_for 0 0 4801 ∷ number_for 96000 95760 48 ∷ number_for 96000 95759 48 ∷ [] ≡ 2 ∷ 2 ∷ 17 ∷ 17 ∷ 18 ∷ 3 ∷ []

-- 15: "current at most maximum, p999 at most offset + maximum + W"
abbrev pub CurrentAndP999Checked : Type 0
CurrentAndP999Checked = number_of (Some 480) 4800 ∷ number_of (Some 480) 4801 ∷ number_of (Some 5328) 0 ∷ number_of (Some 5329) 0 ∷ [] ≡ 0 ∷ 15 ∷ 0 ∷ 15 ∷ []

-- 6: "peaks less than window": two peaks 10 s apart are refused, 1 ns nearer they are not
abbrev pub PeaksSpanLessThanWindow : Type 0
PeaksSpanLessThanWindow =
    next_number settings 48 (held (holding 2 None timer_off false None) (places (1 ∷ 10_000_000_000 ∷ []) 598) (replicate 600 0)) None 0 10_000_000_000
    ∷ next_number settings 48 (held (holding 2 None timer_off false None) (places (1 ∷ 10_000_000_001 ∷ []) 598) (replicate 600 0)) None 0 10_000_000_001
    ∷ []
    ≡ 0 ∷ 6 ∷ []

-- "a no ends it with that number, .. record and buffers unchanged": p999 480 would be a peak
abbrev pub RefusalLeavesTheLists : Type 0
RefusalLeavesTheLists = next_reply settings 48 fresh (Some 480) None 4801 1_000_000_000 ≡ record { answer = Refused 15; held = fresh }

-- "the making of a window or hold, which writes every lent place"
abbrev pub NewZeroesBothLists : Type 0
NewZeroesBothLists = new_reply (replicate 600 5) (replicate 600 7) ≡ record { number = 0; held = held fresh_hold (replicate 600 0) (replicate 600 0) }

-- 5: "Has each lent list its exact length": a refusal leaves both as they came
abbrev pub NewOf599Refused : Type 0
NewOf599Refused = new_reply (replicate 600 5) (replicate 599 7) ≡ record { number = 5; held = held fresh_hold (replicate 600 5) (replicate 599 7) }
