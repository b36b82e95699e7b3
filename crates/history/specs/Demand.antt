-- The mission's third demand, of one input: what holds of its delay after every list of events from a fresh input on. Assumes nothing.
use Rattle.std.specs.Prelude.{ℕ, ◌+◌, ◌*◌, ◌≤◌, ◌≡◌, true, List, [], ◌∷◌, ◌++◌, Some}
use Rattle.base.specs.Limits.{nanos}
use Rattle.policy.specs.declared.DelayPolicy.{DelayPolicy}
use Rattle.policy.specs.Need.{need_of}
use Rattle.delay_hold.specs.Step4Peaks.{worst_of}
use Rattle.history.specs.View.{rules_of, Tick, rules_with}
use Rattle.delay_hold.specs.Next.{one_millisecond}
use Rattle.history.specs.Events.{Event, ticks, fresh_view, history, Lawful}
use Rattle.history.specs.Whole.{whole_view}
use Rattle.history.specs.Stretch.{running_ticks, NonEmpty, NoneAbove, TickStretch, ending, bucket_end}

-- the delay after events, with so many samples to a millisecond
abbrev pub delay_with : (millisecond : ℕ) (policy : DelayPolicy) (width : ℕ) (events : List Event) → ℕ
delay_with millisecond policy width events = (history (rules_with policy millisecond) (fresh_view policy width) events).delay

-- the events are of accepted calls, from fresh on
abbrev pub AcceptedWith : (millisecond : ℕ) → DelayPolicy → ℕ → List Event → Type 0
AcceptedWith millisecond policy width events = Lawful (rules_with policy millisecond) 0 (fresh_view policy width) events

-- with document 01's 48 samples
abbrev pub delay_of : (policy : DelayPolicy) (width : ℕ) (events : List Event) → ℕ
delay_of = delay_with one_millisecond

abbrev pub Accepted : DelayPolicy → ℕ → List Event → Type 0
Accepted = AcceptedWith one_millisecond

-- what the calls leave is whole: check 6 never refuses it
abbrev pub StaysWhole : DelayPolicy → ℕ → Type 0
StaysWhole policy width =
    (events : List Event) → Accepted policy width events → whole_view policy width (history (rules_of policy) (fresh_view policy width) events) ≡ true

-- "After every accepted tick that leaves it running on automatic and brings it lags, the largest at most read offset + maximum delay,
-- its delay + read offset is at least that lag." It holds of every tick, whether or not a due lowering happens at it
abbrev pub FloorWith : (millisecond : ℕ) → DelayPolicy → ℕ → Type 0
FloorWith millisecond policy width =
    (events : List Event) (tick : Tick) (lag : ℕ) → AcceptedWith millisecond policy width (events ++ (ticks tick ∷ [])) →
    worst_of tick.lags ≡ Some lag →
    lag ≤ policy.read_offset + policy.delay_max →
    lag ≤ policy.read_offset + delay_with millisecond policy width (events ++ (ticks tick ∷ []))

abbrev pub Floor : DelayPolicy → ℕ → Type 0
Floor = FloorWith one_millisecond

-- "take any stretch of successive accepted ticks, each at most 5 s after the one before, that all leave it running on automatic and bring it
-- lags, none above L, with no accepted route or delay setting for it between them. After each of them that comes 30 s + window + 3 holds or
-- more after the first, its delay is at most the need at the end of L's bucket .., plus 47" (`more`): it is the last of `first` and `later`.
-- At each of them a due lowering happens
abbrev pub CeilingWith : (millisecond more : ℕ) → DelayPolicy → ℕ → Type 0
CeilingWith millisecond more policy width =
    (events : List Event) (first : Tick) (later : List Tick) (L : ℕ) → AcceptedWith millisecond policy width (events ++ running_ticks (first ∷ later)) →
    first.may_lower ≡ true → NonEmpty first.lags → NoneAbove L first.lags → TickStretch L first.time later →
    first.time + (30 * nanos + policy.window + 3 * policy.hold) ≤ ending first.time later →
    delay_with millisecond policy width (events ++ running_ticks (first ∷ later)) ≤ need_of policy (bucket_end policy width L) + more

abbrev pub Ceiling : DelayPolicy → ℕ → Type 0
Ceiling = CeilingWith one_millisecond 47
