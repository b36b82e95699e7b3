-- A stretch of ticks, with refused calls and calls for other inputs between them, is a stretch of ticks of one input's history. Assumes nothing.
use Prim.Native.Nat.{ℕ, ◌+◌, ◌*◌, ◌≤◌, ◌<◌}
use mathlib.Core.Bool.{Bool, true}
use mathlib.Core.Path.{◌≡◌, refl, sym, ap, subst, ◌∙◌}
use mathlib.Core.List.{List, [], ◌∷◌, ◌++◌}
use native.Mathlib.Omega.{arith}
use lib.ListN.{length}
use Rattle.base.specs.Limits.{nanos}
use Rattle.base.proofs.Choices.{accepted_new, refused_old, by_zero}
use Rattle.base.proofs.Points.{both_true}
use Rattle.rules_record.specs.declared.Slot.{Slot}
use Rattle.rules_record.specs.declared.Inputs.{Inputs}
use Rattle.rules_record.specs.Slots.{is_auto}
use Rattle.rules_record.specs.States.{is_running}
use Rattle.rules_record.specs.Inputs.{slot_at}
use Rattle.rules_record.specs.Reply.{Reply}
use Rattle.rules_tick.specs.AutoDelay.{goes_on}
use Rattle.rules_calls.specs.declared.Settings.{Settings}
use Rattle.rules_calls.specs.NewRecord.{policy_of}
use Rattle.rules_tick.specs.Looks.{lags_of}
use Rattle.history.specs.View.{Rules, rules_of, InputView, Tick, tick_of}
use Rattle.history.specs.Events.{history, Lawful}
use Rattle.history.specs.Events as events
use Rattle.history.specs.Stretch.{running_ticks}
use Rattle.history.specs.Stretch as stretches
use Rattle.third_demand.specs.Calls.{Call, routes, updates, ticks, time_of, after, run, Accepted, clock_after, Orderly}
use Rattle.third_demand.specs.Demand.{RunsOn, Goes, tick_time, last_tick, Stretch, ending}
use Rattle.third_demand.proofs.Lifted.{TickLifted}
use Rattle.third_demand.proofs.Good.{Good, most, seen_at, Alone, Laws}
use Rattle.third_demand.proofs.Refused.{Unchanged, refused_after}
use Rattle.third_demand.proofs.Runs.{seen_unchanged, good_after}

-- ticks of a stretch after one at `before`, the last at `end`, lead from one view to the next
pub record Steadily (settings : Settings) (L before : ℕ) (view next : InputView) (end : ℕ) : Type 0 where
  pub passed : List Tick
  pub leads : history (rules_of (policy_of settings)) view (running_ticks passed) ≡ next
  pub lawful : Lawful (rules_of (policy_of settings)) before view (running_ticks passed)
  pub stretch : stretches.TickStretch L before passed
  pub ends : stretches.ending before passed ≡ end

-- what a call of the stretch leaves, after which the stretch goes on from `last`
record Onward (settings : Settings) (i L before : ℕ) (view : InputView) (z : Reply) (last now : ℕ) : Type 0 where
  runs : RunsOn i z
  bound : last ≤ now
  prefix : {next : InputView} {end : ℕ} → Steadily settings L last (seen_at z i) next end → Steadily settings L before view next end

-- an input that runs on automatic is Running
ran_of : (slot : Slot) → goes_on slot ≡ true → is_running slot.state ≡ true
unfolding goes_on
ran_of slot h = (both_true (is_running slot.state) (is_auto slot.config.extra_delay) h).0

module _ (settings : Settings) (laws : Laws settings) (i L : ℕ) (h : i < settings.count) where
  abbrev rules : Rules
  rules = rules_of (policy_of settings)

  -- one tick, then the others
  joined :
      (before : ℕ) (view : InputView) (tick : Tick) (mid next : InputView) (end : ℕ) → TickLifted (policy_of settings) tick true true view mid → before ≤ tick.time →
      tick.time ≤ before + 5 * nanos → tick.may_lower ≡ true → stretches.NonEmpty tick.lags → stretches.NoneAbove L tick.lags → Steadily settings L tick.time mid next end →
      Steadily settings L before view next end
  unfolding history
  joined before view tick mid next end lift le soon may some none_above st =
      let is_one : lift.seeding ++ (lift.last ∷ []) ≡ events.ticks tick ∷ [] = (λ t. lift.unseeded refl t ++ (lift.runs_on refl t ∷ [])) in
      let leads : history rules view (events.ticks tick ∷ []) ≡ mid = ap (history rules view) (sym is_one) ∙ lift.leads in
      let law : Lawful rules before view (events.ticks tick ∷ []) = subst (Lawful rules before view) is_one (lift.lawful before le) in
      record {
        passed = tick ∷ st.passed;
        leads = ap (λ (x : InputView). history rules x (running_ticks st.passed)) leads ∙ st.leads;
        lawful = (law.0, law.1, law.2, law.3, subst (λ (x : InputView). Lawful rules tick.time x (running_ticks st.passed)) (sym leads) st.lawful);
        stretch = (soon, may, some, none_above, st.stretch);
        ends = st.ends;
      }

  module _ (n clock before : ℕ) (r : Reply) (few : n < most) (g : Good settings n r) (le : before ≤ clock) (runs : RunsOn i r) where
    still : (call : Call) → Alone i r (after r call) → last_tick before r call ≡ before → before ≤ clock_after clock r call
        → Onward settings i L before (seen_at r i) (after r call) (last_tick before r call) (clock_after clock r call)
    still call alone same later =
        record {
          runs = subst (λ (x : Slot). goes_on x ≡ true) (sym alone.slot) runs;
          bound = subst (λ (x : ℕ). x ≤ clock_after clock r call) (sym same) later;
          prefix = λ {next} {end} st. subst (λ (x : InputView). Steadily settings L before x next end) alone.view
              (subst (λ (x : ℕ). Steadily settings L x (seen_at (after r call) i) next end) same st);
        }

    module _ (call : Call) (took : Accepted r call) (order : clock ≤ time_of call) where
      accepted_last : last_tick before r call ≡ tick_time before call
      unfolding last_tick
      accepted_last = accepted_new (after r call).number before (tick_time before call) took

      accepted_clock : clock_after clock r call ≡ time_of call
      unfolding clock_after
      accepted_clock = accepted_new (after r call).number clock (time_of call) took

    onward_taken : (call : Call) → Accepted r call → clock ≤ time_of call → Goes i L before r call → Onward settings i L before (seen_at r i) (after r call) (last_tick before r call) (clock_after clock r call)
    onward_taken (routes input wanted time world) took order goes =
        still (routes input wanted time world) (laws.route_other n r input wanted time world i g.sure took h goes) (accepted_last _ took order)
        (subst (λ (x : ℕ). before ≤ x) (sym (accepted_clock (routes input wanted time world) took order)) (omega (arith, le, order)))
    onward_taken (updates input setting time) took order goes =
        still (updates input setting time) (laws.update_other n r input setting time i g.sure took h goes) (accepted_last _ took order)
        (subst (λ (x : ℕ). before ≤ x) (sym (accepted_clock (updates input setting time) took order)) (omega (arith, le, order)))
    onward_taken (ticks looks lags time) took order goes =
        let call : Call = ticks looks lags time in
        let tick : Tick = tick_of time (lags_of looks lags i) in
        let lift : TickLifted (policy_of settings) tick true true (seen_at r i) (seen_at (after r call) i) =
        subst (λ (b : Bool). TickLifted (policy_of settings) tick true b (seen_at r i) (seen_at (after r call) i)) goes.runs
        (subst (λ (b : Bool). TickLifted (policy_of settings) tick b (goes_on (slot_at (after r call).inputs i)) (seen_at r i) (seen_at (after r call) i)) (ran_of (slot_at r.inputs i) runs)
        (laws.tick n r looks lags time i few g took h))
        in
        record {
          runs = goes.runs;
          bound =
              subst (λ (x : ℕ). x ≤ clock_after clock r call) (sym (accepted_last call took order))
              (subst (λ (x : ℕ). time ≤ x) (sym (accepted_clock call took order)) (omega arith));
          prefix = λ {next} {end} st.
              joined before (seen_at r i) tick (seen_at (after r call) i) next end lift (omega (arith, le, order)) (omega (arith, goes.soon)) refl goes.lagged goes.none_above
              (subst (λ (x : ℕ). Steadily settings L x (seen_at (after r call) i) next end) (accepted_last call took order) st);
        }

    onward_refused : (call : Call) → (Accepted r call → ⊥) → Onward settings i L before (seen_at r i) (after r call) (last_tick before r call) (clock_after clock r call)
    unfolding last_tick clock_after
    onward_refused call refused =
        let u : Unchanged r (after r call) = refused_after r call refused in
        still call
        (record { slot = ap (λ (s : Inputs). slot_at s i) u.inputs; view = seen_unchanged r (after r call) i u })
        (refused_old (after r call).number before (tick_time before call) refused)
        (subst (λ (x : ℕ). before ≤ x) (sym (refused_old (after r call).number clock (time_of call) refused)) le)

    onward : (call : Call) → (Accepted r call → clock ≤ time_of call) → (Accepted r call → Goes i L before r call)
        → Onward settings i L before (seen_at r i) (after r call) (last_tick before r call) (clock_after clock r call)
    onward call order goes = by_zero (after r call).number (λ took. onward_taken call took (order took) (goes took)) (onward_refused call)

  pub stretch_run :
      (n clock before : ℕ) (r : Reply) (later : List Call) → n + length later < most → Good settings n r → before ≤ clock → RunsOn i r → Orderly clock r later →
      Stretch i L before r later → Steadily settings L before (seen_at r i) (seen_at (run r later) i) (ending before r later)
  unfolding run ending history
  stretch_run n clock before r [] few g le runs order st = record { passed = []; leads = refl; lawful = tt; stretch = tt; ends = refl }
  stretch_run n clock before r (call ∷ later) few g le runs order st =
      let on = onward n clock before r (omega (arith, few)) g le runs call order.0 st.0 in
      on.prefix
      (stretch_run (n + 1) (clock_after clock r call) (last_tick before r call) (after r call) later (omega (arith, few)) (good_after settings laws n r call (omega (arith, few)) g) on.bound on.runs order.1 st.1)
