-- What the tick of one input makes of it, as events of its history: seeded perhaps, then the event of its lags. Assumes nothing.
use Rattle.std.specs.Prelude.{None}
use Prim.Native.Nat.{ℕ, ◌≤◌, ◌<◌}
use mathlib.Core.Bool.{Bool, true, false}
use mathlib.Core.Path.{◌≡◌, refl, sym, ap, subst, ◌∙◌}
use mathlib.Core.List.{List}
use lib.ListN.{length}
use Rattle.base.specs.Limits.{time_limit}
use Rattle.policy.specs.declared.DelayPolicy.{DelayPolicy}
use Rattle.rules_window.specs.Checks.{room_for}
use Rattle.rules_record.specs.declared.State.{State}
use Rattle.rules_record.specs.declared.Inputs.{Inputs}
use Rattle.rules_record.specs.States.{is_running}
use Rattle.rules_record.specs.Inputs.{slot_at}
use Rattle.rules_record.specs.Sized.{Sized}
use Rattle.rules_record.specs.Lent.{Lists, window_of}
use Rattle.rules_record.specs.Effects.{Effect, followed_by}
use Rattle.rules_tick.specs.Lags.{largest_of}
use Rattle.rules_tick.specs.AutoDelay.{goes_on, auto_delayed}
use Rattle.rules_tick.specs.InputReady.{Ready}
use Rattle.rules_tick.proofs.Readiness.{ready_low}
use Rattle.rules_tick.specs.declared.Look.{Look}
use Rattle.rules_tick.specs.Tick.{ticked_input}
use Rattle.rules_tick.proofs.Looked.{looked_slot}
use Rattle.rules_tick.proofs.TickFrames.{heard_settings, heard_sized, between_settings, between_sized, between_ready}
use Rattle.rules_tick.proofs.TickProposals.{heard_proposed}
use Rattle.rules_tick.proofs.TickSteps.{heard_inputs, heard_lists, looked_inputs}
use Rattle.history.specs.View.{rules_of, InputView, Tick, tick_of}
use Rattle.history.specs.Events.{history}
use Rattle.third_demand.proofs.Lifted.{view_of, TickLifted}
use Rattle.third_demand.proofs.Ends.{Seeded, Last, seeded_then}
use Rattle.third_demand.proofs.StepViews.{heard_state, heard_config, heard_view, looked_seeded}
use Rattle.third_demand.proofs.AutoViews.{auto_config, auto_goes, auto_last}

module _ (i : ℕ) (look : Look) (lags : List ℕ) (time : ℕ) (s : Inputs) (l : Lists) where
  abbrev tick : Tick
  tick = tick_of time lags

  abbrev answer : Effect
  answer = auto_delayed i (largest_of lags) time (looked_inputs i look lags time s l) (heard_lists i look lags time s l)

  module _ (low : i < 16) (sized : Sized s) where
    -- the kind stays throughout
    pub input_config : (slot_at (ticked_input i look lags time s l).inputs i).config ≡ (slot_at s i).config
    unfolding ticked_input followed_by
    input_config =
        auto_config i (largest_of lags) time (looked_inputs i look lags time s l) (heard_lists i look lags time s l) low (between_sized i look lags time s l sized)
        ∙ (looked_slot i look time (heard_inputs i look lags time s l) low (heard_sized i look lags time s l sized)).config
        ∙ heard_config i look lags time s l low sized

    between_proposed : (slot_at (looked_inputs i look lags time s l) i).proposed ≡ (slot_at s i).proposed
    between_proposed = (looked_slot i look time (heard_inputs i look lags time s l) low (heard_sized i look lags time s l sized)).proposed ∙ heard_proposed i look lags time s l low sized

  module _ (r : Ready s l i) (sized : Sized s) (soon : time ≤ time_limit) (room : room_for time (length lags) (window_of s l i) ≡ true) (off : s.confirm ≡ false) (none : (slot_at s i).proposed ≡ None) where
    input : i < 16
    input = ready_low s l i r

    begun : Seeded s.policy tick (is_running (slot_at s i).state) (view_of s l i) (view_of (looked_inputs i look lags time s l) (heard_lists i look lags time s l) i)
    begun =
        subst (λ (x : DelayPolicy). Seeded x tick (is_running (slot_at s i).state) (view_of s l i) (view_of (looked_inputs i look lags time s l) (heard_lists i look lags time s l) i)) (ap (λ (x : Inputs). x.policy) (heard_settings i look lags time s l))
        (subst (λ (x : State). Seeded (heard_inputs i look lags time s l).policy tick (is_running x) (view_of s l i) (view_of (looked_inputs i look lags time s l) (heard_lists i look lags time s l) i)) (heard_state i look lags time s l input sized)
        (looked_seeded i look (heard_inputs i look lags time s l) (heard_lists i look lags time s l) tick input (heard_sized i look lags time s l sized) soon (view_of s l i) (heard_view i look lags time s l input sized r soon room)))

    -- the view from which the last event leads on
    abbrev from : InputView
    from = history (rules_of s.policy) (view_of s l i) begun.seeding

    ended : Last s.policy tick (goes_on (slot_at answer.inputs i)) from (view_of answer.inputs answer.lists i)
    ended =
        subst (λ (x : DelayPolicy). Last x tick (goes_on (slot_at answer.inputs i)) from (view_of answer.inputs answer.lists i)) (ap (λ (x : Inputs). x.policy) (between_settings i look lags time s l))
        (subst (λ (x : Bool). Last (looked_inputs i look lags time s l).policy tick x from (view_of answer.inputs answer.lists i)) (sym (auto_goes i (largest_of lags) time (looked_inputs i look lags time s l) (heard_lists i look lags time s l) input (between_sized i look lags time s l sized)))
        (auto_last i tick (looked_inputs i look lags time s l) (heard_lists i look lags time s l) (between_ready i look lags time s l r sized soon room) (between_sized i look lags time s l sized) soon refl
        (ap (λ (x : Inputs). x.confirm) (between_settings i look lags time s l) ∙ off) (between_proposed input sized ∙ none) from begun.leads))

    pub input_lifted :
        TickLifted s.policy tick (is_running (slot_at s i).state) (goes_on (slot_at (ticked_input i look lags time s l).inputs i)) (view_of s l i)
        (view_of (ticked_input i look lags time s l).inputs (ticked_input i look lags time s l).lists i)
    unfolding ticked_input followed_by
    input_lifted =
        seeded_then s.policy tick (is_running (slot_at s i).state) (goes_on (slot_at answer.inputs i)) (view_of s l i) (view_of (looked_inputs i look lags time s l) (heard_lists i look lags time s l) i) (view_of answer.inputs answer.lists i) soon room begun
        ended
