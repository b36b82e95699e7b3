-- The third demand is met, given the laws of one call and of `new`. Assumes nothing.
use Rattle.std.specs.Prelude.{Some}
use Prim.Native.Nat.{ℕ, suc, ◌+◌, ◌*◌, ◌≤◌, ◌<◌}
use mathlib.Core.Bool.{Bool, true, false}
use mathlib.Core.Path.{◌≡◌, refl, sym, ap, subst, ◌∙◌}
use mathlib.Core.List.{List, [], ◌∷◌, ◌++◌}
use native.Mathlib.Omega.{arith}
use lib.ListN.{length}
use Rattle.base.specs.Limits.{nanos}
use Rattle.base.proofs.Choices.{accepted_new}
use Rattle.policy.specs.Need.{need_of}
use Rattle.rules_record.specs.declared.Inputs.{Inputs}
use Rattle.rules_record.specs.States.{is_running}
use Rattle.rules_record.specs.Inputs.{slot_at}
use Rattle.rules_record.specs.Reply.{Reply}
use Rattle.rules_record.proofs.Facts.{of_whole}
use Rattle.rules_record.specs.Checks as checks
use Rattle.rules_tick.specs.Lags.{largest_of}
use Rattle.rules_calls.specs.declared.Settings.{Settings}
use Rattle.rules_calls.specs.NewRecord.{policy_of, blank_for, blank}
use Rattle.rules_tick.specs.declared.Look.{Look}
use Rattle.rules_tick.specs.Looks.{lags_of}
use Rattle.sent_delays.specs.Last.{last_delay}
use Rattle.history.specs.View.{Rules, rules_of, InputView, Tick, tick_of}
use Rattle.history.specs.Events.{Event, fresh_view, history, Lawful, clock}
use Rattle.history.specs.Events as events
use Rattle.history.specs.Stretch.{Allowed, running_ticks, bucket_end}
use Rattle.history.proofs.Demand.{history_append, floor_after, ceiling_after}
use Rattle.third_demand.specs.Calls.{Call, ticks, after, run, Accepted, clock_after, Orderly, Night, fresh, left_by, delay_of}
use Rattle.third_demand.specs.Demand.{RunsOn, InStretch, Stretch, ending, StaysWhole, StaysWholeAlways, Floor, Ceiling, ThirdDemand}
use Rattle.third_demand.proofs.Lifted.{TickLifted}
use Rattle.third_demand.proofs.Good.{Sure, Good, most, seen_at, Laws}
use Rattle.third_demand.proofs.Runs.{run_append, clocks, orderly_append, clock_append, Lived, sure_run, good_after, good_run, lived_run, told_run}
use Rattle.third_demand.proofs.Stretches.{Steadily, stretch_run}
use Rattle.third_demand.proofs.Beyond.{beyond, takes}
use Rattle.third_demand.proofs.Ends.{lawful_then}

-- what an accepted `new` leaves, with confirmation or without
pub record Born (night : Night) : Type 0 where
  pub good : Good night.settings 0 (fresh night)
  pub lived : (i : ℕ) → i < night.settings.count → Lived night.settings 0 (seen_at (fresh night) i)
  pub told : (i : ℕ) → i < night.settings.count → (slot_at (fresh night).inputs i).delay ≡ last_delay i 0 (fresh night).commands

append_length : (calls : List Call) (call : Call) (later : List Call) → length (calls ++ (call ∷ later)) ≡ length calls + suc (length later)
append_length [] call later = omega arith
append_length (one ∷ calls) call later = omega (arith, append_length calls call later)

append_assoc : (a b c : List Event) → (a ++ b) ++ c ≡ a ++ (b ++ c)
append_assoc [] b c = refl
append_assoc (event ∷ a) b c = ap (λ (x : List Event). event ∷ x) (append_assoc a b c)

-- the record stays whole, and a tick is refused only for what it brings
pub whole_always : ((night : Night) → (fresh night).number ≡ 0 → Born night) → StaysWholeAlways
whole_always born night calls is_new few =
    let g : Sure night.settings (length calls) (left_by night calls) =
    subst (λ (x : ℕ). Sure night.settings x (left_by night calls)) (omega arith) (sure_run night.settings 0 (fresh night) calls (omega (arith, few)) (born night is_new).good.sure)
    in
    record { record_whole = of_whole _ _ g.checked.whole; beyond_its_own = beyond night.settings (length calls) (left_by night calls) g; takes_ticks = takes night.settings (length calls) (left_by night calls) g }

module _ (laws : (settings : Settings) → settings.confirm ≡ false → Laws settings) (born : (night : Night) → (fresh night).number ≡ 0 → Born night) where
  module _ (night : Night) (is_new : (fresh night).number ≡ 0) (unconfirmed : night.settings.confirm ≡ false) where
    abbrev settings : Settings
    settings = night.settings

    abbrev law : Laws settings
    law = laws settings unconfirmed

    abbrev birth : Born night
    birth = born night is_new

    abbrev rules : Rules
    rules = rules_of (policy_of settings)

    abbrev start : InputView
    start = fresh_view (policy_of settings) settings.width

    allowed : Allowed (policy_of settings) settings.width
    unfolding blank_for blank
    allowed =
        let s : Inputs = (fresh night).inputs in
        let e : s ≡ _ = birth.good.sure.same in
        let a = subst (λ (x : Inputs). checks.Allowed x.count x.policy x.width x.stall) e birth.good.sure.checked.fitting.allowed in
        record {
          sound = a.sound;
          hold_most = a.hold_most;
          window_least = a.window_least;
          window_most = a.window_most;
          width_least = a.width_least;
          width_most = a.width_most;
          buckets_most = a.buckets_most;
        }

    good_at : (calls : List Call) → length calls < most → Good settings (length calls) (left_by night calls)
    good_at calls few = subst (λ (x : ℕ). Good settings x (left_by night calls)) (omega arith) (good_run settings law 0 (fresh night) calls (omega (arith, few)) birth.good)

    -- the delay that the commands tell is the one in the record
    told_at : (calls : List Call) (i : ℕ) → length calls < most → i < settings.count → delay_of i night calls ≡ (slot_at (left_by night calls).inputs i).delay
    unfolding delay_of
    told_at calls i few h = told_run settings 0 (fresh night) calls i _ (omega (arith, few)) h birth.good.sure (sym (birth.told i h))

    module _ (calls : List Call) (looks : List Look) (lags : List ℕ) (first i : ℕ) (later : List Call)
        (few : length (calls ++ (ticks looks lags first ∷ later)) < most)
        (orderly : Orderly 0 (fresh night) (calls ++ (ticks looks lags first ∷ later)))
        (h : i < settings.count)
        (took : Accepted (left_by night calls) (ticks looks lags first)) where
      abbrev call : Call
      call = ticks looks lags first

      abbrev tick : Tick
      tick = tick_of first (lags_of looks lags i)

      fewer : length calls + suc (length later) < most
      fewer = subst (λ (x : ℕ). x < most) (append_length calls call later) few

      abbrev apart : Orderly 0 (fresh night) calls × Orderly (clocks 0 (fresh night) calls) (left_by night calls) (call ∷ later)
      apart = orderly_append 0 (fresh night) calls (call ∷ later) orderly

      good : Good settings (length calls) (left_by night calls)
      good = good_at calls (omega (arith, fewer))

      life : Lived settings (clocks 0 (fresh night) calls) (seen_at (left_by night calls) i)
      life = lived_run settings law 0 0 (fresh night) calls i (omega (arith, fewer)) h birth.good apart.0 (birth.lived i h)

      -- the events before the tick's own, where the tick leaves the input running on automatic
      module _ (runs : RunsOn i (after (left_by night calls) call)) where
        lift : TickLifted (policy_of settings) tick (is_running (slot_at (left_by night calls).inputs i).state) true (seen_at (left_by night calls) i) (seen_at (after (left_by night calls) call) i)
        lift =
            subst (λ (b : Bool). TickLifted (policy_of settings) tick (is_running (slot_at (left_by night calls).inputs i).state) b (seen_at (left_by night calls) i) (seen_at (after (left_by night calls) call) i)) runs
            (law.tick (length calls) (left_by night calls) looks lags first i (omega (arith, fewer)) good took h)

        past : List Event
        past = life.past ++ lift.seeding

        is_past : life.past ++ (lift.seeding ++ (lift.last ∷ [])) ≡ past ++ (events.ticks tick ∷ [])
        unfolding past
        is_past = ap (λ (x : Event). life.past ++ (lift.seeding ++ (x ∷ []))) (lift.runs_on refl) ∙ sym (append_assoc life.past lift.seeding (events.ticks tick ∷ []))

        soon : clock 0 life.past ≤ first
        soon = omega (arith, life.clocked, apart.1.0 took)

        past_leads : history rules start (past ++ (events.ticks tick ∷ [])) ≡ seen_at (after (left_by night calls) call) i
        past_leads =
            ap (history rules start) (sym is_past)
            ∙ history_append rules start life.past (lift.seeding ++ (lift.last ∷ []))
            ∙ ap (λ (x : InputView). history rules x (lift.seeding ++ (lift.last ∷ []))) life.leads
            ∙ lift.leads

        past_lawful : Lawful rules 0 start (past ++ (events.ticks tick ∷ []))
        past_lawful =
            subst (Lawful rules 0 start) is_past
            (lawful_then rules 0 start life.past (lift.seeding ++ (lift.last ∷ [])) life.lawful
            (subst (λ (x : InputView). Lawful rules (clock 0 life.past) x (lift.seeding ++ (lift.last ∷ []))) (sym life.leads) (lift.lawful _ soon)))

        past_clock : clock 0 (past ++ (events.ticks tick ∷ [])) ≡ first
        past_clock = clock_append 0 past (events.ticks tick ∷ [])

        -- ---- the floor
        floor_here : (lag : ℕ) → largest_of (lags_of looks lags i) ≡ Some lag → lag ≤ (policy_of settings).read_offset + (policy_of settings).delay_max
            → lag ≤ (policy_of settings).read_offset + (slot_at (after (left_by night calls) call).inputs i).delay
        floor_here lag e fits =
            subst (λ (x : InputView). lag ≤ (policy_of settings).read_offset + x.delay) past_leads
            (floor_after (policy_of settings) settings.width allowed past tick lag past_lawful e fits)

        -- ---- the ceiling
        module _ (L : ℕ) (in-it : InStretch i L first looks lags first (after (left_by night calls) call)) (stretch : Stretch i L first (after (left_by night calls) call) later) where
          steady : Steadily settings L first (seen_at (after (left_by night calls) call) i) (seen_at (run (after (left_by night calls) call) later) i) (ending first (after (left_by night calls) call) later)
          unfolding clock_after
          steady =
              stretch_run settings law i L h (length calls + 1) (clock_after (clocks 0 (fresh night) calls) (left_by night calls) call) first (after (left_by night calls) call) later
              (omega (arith, fewer)) (good_after settings law (length calls) (left_by night calls) call (omega (arith, fewer)) good)
              (subst (λ (x : ℕ). first ≤ x) (sym (accepted_new (after (left_by night calls) call).number (clocks 0 (fresh night) calls) first took)) (omega arith))
              runs apart.1.1 stretch

          all : past ++ running_ticks (tick ∷ steady.passed) ≡ (past ++ (events.ticks tick ∷ [])) ++ running_ticks steady.passed
          all = sym (append_assoc past (events.ticks tick ∷ []) (running_ticks steady.passed))

          all_leads : history rules start (past ++ running_ticks (tick ∷ steady.passed)) ≡ seen_at (run (after (left_by night calls) call) later) i
          all_leads =
              ap (history rules start) all
              ∙ history_append rules start (past ++ (events.ticks tick ∷ [])) (running_ticks steady.passed)
              ∙ ap (λ (x : InputView). history rules x (running_ticks steady.passed)) past_leads
              ∙ steady.leads

          all_lawful : Lawful rules 0 start (past ++ running_ticks (tick ∷ steady.passed))
          all_lawful =
              subst (Lawful rules 0 start) (sym all)
              (lawful_then rules 0 start (past ++ (events.ticks tick ∷ [])) (running_ticks steady.passed) past_lawful
              (subst (λ (x : InputView). Lawful rules (clock 0 (past ++ (events.ticks tick ∷ []))) x (running_ticks steady.passed)) (sym past_leads)
              (subst (λ (x : ℕ). Lawful rules x (seen_at (after (left_by night calls) call) i) (running_ticks steady.passed)) (sym past_clock) steady.lawful)))

          ceiling_here :
              first + (30 * nanos + (policy_of settings).window + 3 * (policy_of settings).hold) ≤ ending first (after (left_by night calls) call) later →
              (slot_at (run (after (left_by night calls) call) later).inputs i).delay ≤ need_of (policy_of settings) (bucket_end (policy_of settings) settings.width L) + 47
          ceiling_here long =
              subst (λ (x : InputView). x.delay ≤ need_of (policy_of settings) (bucket_end (policy_of settings) settings.width L) + 47) all_leads
              (ceiling_after (policy_of settings) settings.width allowed past tick steady.passed L all_lawful refl in-it.lagged in-it.none_above steady.stretch
              (subst (λ (x : ℕ). first + (30 * nanos + (policy_of settings).window + 3 * (policy_of settings).hold) ≤ x) (sym steady.ends) long))

  whole_met : StaysWhole
  whole_met night calls a = whole_always born night calls a.new (omega (arith, a.few))

  -- what is left by the calls and one more, and by later ones
  left_tick : (night : Night) (calls : List Call) (call : Call) (later : List Call) → left_by night (calls ++ (call ∷ later)) ≡ run (after (left_by night calls) call) later
  unfolding run
  left_tick night calls call later = run_append (fresh night) calls (call ∷ later)

  floor_met : Floor
  unfolding run
  floor_met night calls looks lags time i lag a h took runs e fits =
      let call : Call = ticks looks lags time in
      let here : left_by night (calls ++ (call ∷ [])) ≡ after (left_by night calls) call = left_tick night calls call [] in
      let runs_here : RunsOn i (after (left_by night calls) call) = subst (RunsOn i) here runs in
      let bound = floor_here night a.new a.unconfirmed calls looks lags time i [] (omega (arith, a.few)) a.orderly h took runs_here lag e (omega (arith, fits)) in
      let is-told : delay_of i night (calls ++ (call ∷ [])) ≡ (slot_at (after (left_by night calls) call).inputs i).delay =
      told_at night a.new a.unconfirmed (calls ++ (call ∷ [])) i (omega (arith, a.few)) h ∙ ap (λ (r : Reply). (slot_at r.inputs i).delay) here
      in
      omega (arith, bound, is-told)

  ceiling_met : Ceiling
  ceiling_met night calls looks lags first i L later a h took in-it stretch long =
      let call : Call = ticks looks lags first in
      let here : left_by night (calls ++ (call ∷ later)) ≡ run (after (left_by night calls) call) later = left_tick night calls call later in
      let bound = ceiling_here night a.new a.unconfirmed calls looks lags first i later (omega (arith, a.few)) a.orderly h took in-it.runs L in-it stretch (omega (arith, long)) in
      let is-told : delay_of i night (calls ++ (call ∷ later)) ≡ (slot_at (run (after (left_by night calls) call) later).inputs i).delay =
      told_at night a.new a.unconfirmed (calls ++ (call ∷ later)) i (omega (arith, a.few)) h ∙ ap (λ (r : Reply). (slot_at r.inputs i).delay) here
      in
      omega (arith, bound, is-told)

  pub met : ThirdDemand
  met = record { whole = whole_met; floor = floor_met; ceiling = ceiling_met }
