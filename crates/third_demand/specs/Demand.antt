-- The mission's third demand, sentence by sentence. Assumes nothing.
use Rattle.std.specs.Prelude.{ℕ, ◌+◌, ◌*◌, ◌≤◌, ◌<◌, true, false, ◌≡◌, List, [], ◌∷◌, ◌++◌, length, Some}
use Rattle.base.specs.Limits.{nanos, time_limit}
use Rattle.base.specs.Choice.{accepted}
use Rattle.policy.specs.declared.DelayPolicy.{DelayPolicy}
use Rattle.policy.specs.Need.{need_of}
use Rattle.rules_record.specs.Inputs.{slot_at}
use Rattle.rules_record.specs.Checks.{own_number}
use Rattle.rules_record.specs.WholeRecord.{whole_record}
use Rattle.rules_record.specs.Reply.{Reply}
use Rattle.rules_tick.specs.Lags.{largest_of}
use Rattle.rules_tick.specs.AutoDelay.{goes_on}
use Rattle.rules_calls.specs.NewRecord.{policy_of}
use Rattle.rules_tick.specs.declared.Look.{Look}
use Rattle.rules_tick.specs.Looks.{lags_of}
use Rattle.rules_tick.specs.TickChecks.{looks_fit, lags_fit, rooms_fit}
use Rattle.history.specs.Stretch.{NonEmpty, NoneAbove, bucket_end}
use Rattle.third_demand.specs.Calls.{Call, routes, updates, ticks, after, Accepted, Night, fresh, Admitted, left_by, delay_of}

abbrev pub policy_in : Night → DelayPolicy
policy_in night = policy_of night.settings

-- "Running on automatic: state 2, kind Auto."
abbrev pub RunsOn : ℕ → Reply → Type 0
RunsOn i r = goes_on (slot_at r.inputs i) ≡ true

-- ---- "Then, whatever the calls bring, each is answered and recorded as the first two demands say"
-- the answers are those of the definitions (Calls.after); the record is whole after every list of calls, and no call is refused by a check of the
-- record, its settings and its lists (1 2 17 18 3 4 5 6); a tick is refused only for what it brings
pub record Whole (night : Night) (calls : List Call) : Type 0 where
  pub record_whole : whole_record (left_by night calls).inputs (left_by night calls).lists ≡ true
  pub beyond_its_own : (call : Call) → own_number (after (left_by night calls) call).number ≡ false
  -- a tick whose time, looks, lag counts and rooms fit (8, 10, 11) is accepted
  pub takes_ticks :
      (looks : List Look) (lags : List ℕ) (time : ℕ) → time ≤ time_limit → looks_fit (left_by night calls).inputs looks ≡ true → lags_fit (left_by night calls).inputs looks lags ≡ true →
      rooms_fit (left_by night calls).inputs (left_by night calls).lists looks time ≡ true → Accepted (left_by night calls) (ticks looks lags time)

abbrev pub StaysWhole : Type 0
StaysWhole = (night : Night) (calls : List Call) → Admitted night calls → Whole night calls

-- more than is asked: with confirmation too, and whatever the clock does
abbrev pub StaysWholeAlways : Type 0
StaysWholeAlways = (night : Night) (calls : List Call) → (fresh night).number ≡ 0 → length calls < 1_000_000_000_000_000_000 → Whole night calls

-- ---- "After every accepted tick that leaves it running on automatic and brings it lags, the largest at most read offset + maximum delay,
-- its delay + read offset is at least that lag."
abbrev pub Floor : Type 0
Floor =
    (night : Night) (calls : List Call) (looks : List Look) (lags : List ℕ) (time i lag : ℕ) →
    Admitted night (calls ++ (ticks looks lags time ∷ [])) →
    i < night.settings.count →
    Accepted (left_by night calls) (ticks looks lags time) →
    RunsOn i (left_by night (calls ++ (ticks looks lags time ∷ []))) →
    largest_of (lags_of looks lags i) ≡ Some lag →
    lag ≤ (policy_in night).read_offset + (policy_in night).delay_max →
    lag ≤ delay_of i night (calls ++ (ticks looks lags time ∷ [])) + (policy_in night).read_offset

-- ---- "And take any stretch of successive accepted ticks, each at most 5 s after the one before, that all leave it running on automatic and
-- bring it lags, none above L, with no accepted route or delay setting for it between them."
-- A tick at this time that is one of them
pub record InStretch (i L before : ℕ) (looks : List Look) (lags : List ℕ) (time : ℕ) (r : Reply) : Type 0 where
  pub soon : time ≤ before + 5 * nanos
  pub runs : RunsOn i r
  pub lagged : NonEmpty (lags_of looks lags i)
  pub none_above : NoneAbove L (lags_of looks lags i)

-- what an accepted call of the stretch is: a tick of it, or a call for another input
abbrev pub Goes : (i L before : ℕ) → Reply → Call → Type 0
Goes i L before r (routes input wanted time world) = input ≡ i → ⊥
Goes i L before r (updates input setting time) = input ≡ i → ⊥
Goes i L before r (ticks looks lags time) = InStretch i L before looks lags time (after r (ticks looks lags time))

-- the time of the stretch's last tick, after an accepted call
abbrev pub tick_time : (before : ℕ) → Call → ℕ
tick_time before (routes input wanted time world) = before
tick_time before (updates input setting time) = before
tick_time before (ticks looks lags time) = time

unfoldable pub last_tick : (before : ℕ) (r : Reply) (call : Call) → ℕ
last_tick before r call = accepted (after r call).number before (tick_time before call)

-- the calls after a tick of the stretch at `before`: refused ones, and accepted ones that go with it
abbrev pub Stretch : (i L before : ℕ) → Reply → List Call → Type 0
Stretch i L before r [] = Unit {0}
Stretch i L before r (call ∷ calls) = (Accepted r call → Goes i L before r call) × Stretch i L (last_tick before r call) (after r call) calls

-- the time of its last tick
unfoldable pub ending : (before : ℕ) (r : Reply) → List Call → ℕ
ending before r [] = before
ending before r (call ∷ calls) = ending (last_tick before r call) (after r call) calls

-- "After each of them that comes 30 s + window + 3 holds or more after the first, its delay is at most the need at the end of L's bucket (the end
-- that `quantile_upto` answers), plus 47."
abbrev pub Ceiling : Type 0
Ceiling =
    (night : Night) (calls : List Call) (looks : List Look) (lags : List ℕ) (first i L : ℕ) (later : List Call) →
    Admitted night (calls ++ (ticks looks lags first ∷ later)) →
    i < night.settings.count →
    Accepted (left_by night calls) (ticks looks lags first) →
    InStretch i L first looks lags first (after (left_by night calls) (ticks looks lags first)) →
    Stretch i L first (after (left_by night calls) (ticks looks lags first)) later →
    first + (30 * nanos + (policy_in night).window + 3 * (policy_in night).hold) ≤ ending first (after (left_by night calls) (ticks looks lags first)) later →
    delay_of i night (calls ++ (ticks looks lags first ∷ later)) ≤ need_of (policy_in night) (bucket_end (policy_in night) night.settings.width L) + 47

-- the third demand, "one claim about its list"
pub record ThirdDemand : Type 0 where
  pub whole : StaysWhole
  pub floor : Floor
  pub ceiling : Ceiling
