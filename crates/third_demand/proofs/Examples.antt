-- A night of calls that meets what the floor and the ceiling ask, computed on the definitions: neither is empty. `new`, a route, a tick with a lag
-- of 4,000, then one every 5 s with a lag of 480 and a refused call among them. Hold 0, window 1 s, W 480. Assumes nothing.
use Rattle.std.specs.Prelude.{Some}
use Prim.Native.Nat.{ℕ, ◌+◌, ◌*◌, ◌≤◌}
use mathlib.Core.Path.{◌≡◌, refl, sym, subst, ◌∙◌}
use mathlib.Core.Bool.{Bool, true, false}
use mathlib.Core.List.{List, [], ◌∷◌}
use native.Mathlib.Omega.{arith}
use borrow.Author.Tests.{leb-true, eq-eqb, ne_eqb}
use lib.Dec.{leb, eqb}
use lib.IntN.{pos}
use lib.Ieee.{fin}
use lib.ListN.{replicate}
use Rattle.base.specs.Limits.{nanos}
use Rattle.base.specs.Choice.{pick, both}
use Rattle.base.proofs.Choices.{yes_pick, no_pick, by_zero, accepted_new, refused_old}
use Rattle.base.proofs.Points.{both_true}
use Rattle.base.proofs.Tests.{not_both}
use Rattle.policy.specs.Need.{need_of}
use Rattle.rules_record.specs.declared.AutoTag.TheVariants as AutoTag
use Rattle.rules_record.specs.declared.ExtraDelay.TheVariants as ExtraDelay
use Rattle.rules_calls.specs.declared.DelaySetting.TheVariants as DelaySetting
use Rattle.rules_record.specs.Lent.{lists}
use Rattle.rules_record.specs.Reply.{Reply}
use Rattle.rules_record.specs.Inputs.{slot_at}
use Rattle.rules_routing.specs.declared.World.{World}
use Rattle.rules_calls.specs.declared.Settings.{Settings}
use Rattle.rules_calls.specs.NewRecord.{policy_of}
use Rattle.rules_tick.specs.declared.Look.{Look}
use Rattle.rules_tick.specs.Lags.{largest_of}
use Rattle.rules_tick.specs.AutoDelay.{goes_on}
use Rattle.rules_tick.specs.Looks.{lags_of}
use Rattle.sent_delays.specs.Last.{last_delay, delay_told}
use Rattle.history.specs.Stretch.{NonEmpty, NoneAbove, bucket_end}
use Rattle.third_demand.specs.Calls.{Call, routes, updates, ticks, time_of, after, run, Accepted, clock_after, Orderly, told_by, told, Night, fresh, left_by, delay_of}
use Rattle.third_demand.specs.Demand.{policy_in, RunsOn, InStretch, Goes, tick_time, last_tick, Stretch, ending}
use Rattle.third_demand.proofs.ThirdDemand.{third_demand}
use Rattle.third_demand.proofs.Opened.{base_opened, window_opened, hold_opened, record_opened, routing_opened, calls_opened, tick_opened}

-- ---- the calls
abbrev small : Settings
small = record { count = 1; read_offset = 480; delay_max = 4800; width = 480; hold = 0; window = nanos; stall = 600 * nanos; margin = 96; percent = fin false 25 (pos 1); confirm = false }

-- one input on automatic; 23 buckets a second
abbrev night : Night
night = record {
  settings = small;
  kinds = ExtraDelay.Auto AutoTag.Auto ∷ [];
  bytes = [];
  delays = [];
  time = 0;
  lists = lists (replicate 11 0) (replicate 11 0) (replicate 253 0) (replicate 23 0) (replicate 600 0) (replicate 600 0);
  commands = replicate 12 0;
}

-- the flow is there, with one channel
abbrev world : World
world = record { inode = Some 7; made = true; reader = Some 1; head = 1 }

abbrev opens : Call
opens = routes 0 (Some (record { domain = 0; flow = record { high = 0; low = 1 } })) 0 world

-- each tick brings one lag
abbrev looks : List Look
looks = record { seen = Some 7; world = world; applied = 0; lags = 1 } ∷ []

-- a tick with this lag, at so many seconds
abbrev tick_at : (second lag : ℕ) → Call
tick_at second lag = ticks looks (lag ∷ []) (second * nanos)

-- refused by 7: there is no input 5
abbrev refused : Call
refused = updates 5 (DelaySetting.Auto AutoTag.Auto) (18 * nanos)

-- the ticks of the stretch after its first, at 5 s
abbrev later : List Call
later = tick_at 10 480 ∷ tick_at 15 480 ∷ refused ∷ tick_at 20 480 ∷ tick_at 25 480 ∷ tick_at 30 480 ∷ tick_at 35 480 ∷ tick_at 40 480 ∷ []

-- ---- the clock
-- times that do not go back
abbrev Rising : (clock : ℕ) → List Call → Type 0
Rising clock [] = Unit {0}
Rising clock (call ∷ calls) = (clock ≤ time_of call) × Rising (time_of call) calls

-- .. are orderly, whichever calls are refused
rising_orderly : (clock bound : ℕ) (r : Reply) (calls : List Call) → clock ≤ bound → Rising bound calls → Orderly clock r calls
unfolding clock_after
rising_orderly clock bound r [] le rising = tt
rising_orderly clock bound r (call ∷ calls) le rising = (
  λ took. omega (arith, rising.0),
  rising_orderly (clock_after clock r call) (time_of call) (after r call) calls
      (by_zero (after r call).number
      (λ took. omega (arith, accepted_new (after r call).number clock (time_of call) took))
      (λ no_call. omega (arith, rising.0, refused_old (after r call).number clock (time_of call) no_call)))
      rising.1,
)

-- ---- a stretch, by a test
-- one lag, at most L
abbrev one_up_to : (L : ℕ) → List ℕ → Bool
one_up_to L [] = false
one_up_to L (lag ∷ []) = leb lag L
one_up_to L (lag ∷ (more ∷ lags)) = false

-- an accepted call that left z is a tick of the stretch
abbrev goes_by : (i L before : ℕ) → Call → (z : Reply) → Bool
goes_by i L before (routes input wanted time world) z = false
goes_by i L before (updates input setting time) z = false
goes_by i L before (ticks seen lags time) z = both (leb time (before + 5 * nanos)) (both (goes_on (slot_at z.inputs i)) (one_up_to L (lags_of seen lags i)))

-- the calls after a tick of the stretch at `before`: refused ones, and ticks of it
unfoldable along : (i L before : ℕ) → Reply → List Call → Bool
along i L before r [] = true
along i L before r (call ∷ calls) =
    pick (eqb (after r call).number 0)
    (both (goes_by i L before call (after r call)) (along i L (tick_time before call) (after r call) calls))
    (along i L before (after r call) calls)

one_lag : (L : ℕ) (lags : List ℕ) → one_up_to L lags ≡ true → NonEmpty lags × NoneAbove L lags
one_lag L [] h = absurd (not_both h refl)
one_lag L (lag ∷ []) h = (tt, (leb-true _ _ h, tt))
one_lag L (lag ∷ (more ∷ lags)) h = absurd (not_both h refl)

goes_of : (i L before : ℕ) (r : Reply) (call : Call) → goes_by i L before call (after r call) ≡ true → Goes i L before r call
goes_of i L before r (routes input wanted time world) h = absurd (not_both h refl)
goes_of i L before r (updates input setting time) h = absurd (not_both h refl)
goes_of i L before r (ticks seen lags time) h =
    let a = both_true _ _ h in
    let b = both_true _ _ a.1 in
    let c = one_lag L (lags_of seen lags i) b.1 in
    record { soon = leb-true _ _ a.0; runs = b.0; lagged = c.0; none_above = c.1 }

along_stretch : (i L before : ℕ) (r : Reply) (calls : List Call) → along i L before r calls ≡ true → Stretch i L before r calls
unfolding along last_tick
along_stretch i L before r [] h = tt
along_stretch i L before r (call ∷ calls) h =
    by_zero (after r call).number
    (λ took.
    let a = both_true _ _ (sym (yes_pick _ _ (eq-eqb _ _ took)) ∙ h) in (
      λ again. goes_of i L before r call a.0,
      subst (λ (x : ℕ). Stretch i L x (after r call) calls) (sym (accepted_new (after r call).number before (tick_time before call) took))
          (along_stretch i L (tick_time before call) (after r call) calls a.1),
    ))
    (λ none. (
      λ took. absurd (none took),
      subst (λ (x : ℕ). Stretch i L x (after r call) calls) (sym (refused_old (after r call).number before (tick_time before call) none))
          (along_stretch i L before (after r call) calls (sym (no_pick _ _ (ne_eqb _ _ none)) ∙ h)),
    ))

-- ---- what is computed
-- what the floor asks of the late tick, what the ceiling asks of the stretch, and the delays
record Computed : Type 0 where
  new : (fresh night).number ≡ 0
  late_taken : Accepted (left_by night (opens ∷ [])) (tick_at 0 4000)
  late_runs : RunsOn 0 (left_by night (opens ∷ tick_at 0 4000 ∷ []))
  late_lag : largest_of (lags_of looks (4000 ∷ []) 0) ≡ Some 4000
  late_delay : delay_of 0 night (opens ∷ tick_at 0 4000 ∷ []) ≡ 4800
  first_taken : Accepted (left_by night (opens ∷ tick_at 0 4000 ∷ [])) (tick_at 5 480)
  first_in : InStretch 0 480 (5 * nanos) looks (480 ∷ []) (5 * nanos) (after (left_by night (opens ∷ tick_at 0 4000 ∷ [])) (tick_at 5 480))
  goes_along : along 0 480 (5 * nanos) (after (left_by night (opens ∷ tick_at 0 4000 ∷ [])) (tick_at 5 480)) later ≡ true
  long : 5 * nanos + (30 * nanos + (policy_in night).window + 3 * (policy_in night).hold) ≤ ending (5 * nanos) (after (left_by night (opens ∷ tick_at 0 4000 ∷ [])) (tick_at 5 480)) later
  last_delay_law : delay_of 0 night (opens ∷ tick_at 0 4000 ∷ tick_at 5 480 ∷ later) ≡ 816
  last_need : need_of (policy_in night) (bucket_end (policy_in night) 480 480) ≡ 816

computed : Computed
unfolding along base_opened window_opened hold_opened record_opened routing_opened calls_opened tick_opened last_delay delay_told bucket_end after run told told_by delay_of last_tick ending
computed = record {
  new = refl;
  late_taken = refl;
  late_runs = refl;
  late_lag = refl;
  late_delay = refl;
  first_taken = refl;
  first_in = record { soon = leb-true _ _ refl; runs = refl; lagged = tt; none_above = (leb-true _ _ refl, tt) };
  goes_along = refl;
  long = leb-true _ _ refl;
  last_delay_law = refl;
  last_need = refl;
}

-- ---- the theorems of this night
floor_here : 4000 ≤ delay_of 0 night (opens ∷ tick_at 0 4000 ∷ []) + 480
unfolding policy_of
floor_here =
    third_demand.floor night (opens ∷ []) looks (4000 ∷ []) (0 * nanos) 0 4000
    (record { new = computed.new; unconfirmed = refl; few = omega arith; orderly = rising_orderly 0 0 (fresh night) (opens ∷ tick_at 0 4000 ∷ []) (omega arith) (omega arith, (omega arith, tt)) })
    (omega arith) computed.late_taken computed.late_runs computed.late_lag (omega arith)

ceiling_here : delay_of 0 night (opens ∷ tick_at 0 4000 ∷ tick_at 5 480 ∷ later) ≤ need_of (policy_in night) (bucket_end (policy_in night) 480 480) + 47
ceiling_here =
    third_demand.ceiling night (opens ∷ tick_at 0 4000 ∷ []) looks (480 ∷ []) (5 * nanos) 0 480 later
    (record {
      new = computed.new;
      unconfirmed = refl;
      few = omega arith;
      orderly =
          rising_orderly 0 0 (fresh night) (opens ∷ tick_at 0 4000 ∷ tick_at 5 480 ∷ later) (omega arith)
          (omega arith, (omega arith, (omega arith, (omega arith, (omega arith, (omega arith, (omega arith, (omega arith, (omega arith, (omega arith, (omega arith, tt)))))))))));
    })
    (omega arith) computed.first_taken computed.first_in (along_stretch 0 480 (5 * nanos) _ later computed.goes_along) computed.long
