-- What `auto_delay` makes of an input's view: the last event of its tick. Assumes nothing.
use Rattle.std.specs.Prelude.{None, Option, Some}
use Prim.Native.Nat.{ℕ, ◌+◌, ◌≤◌, ◌<◌}
use mathlib.Core.Bool.{true, false}
use mathlib.Core.Path.{◌≡◌, refl, sym, ap, ◌∙◌}
use Rattle.base.specs.Limits.{time_limit}
use Rattle.base.specs.Choice.{both}
use Rattle.base.proofs.Choices.{by_bool}
use Rattle.delay_hold.specs.Steps5To8.{timer_off, with_lower}
use Rattle.delay_hold.specs.Next.{held, Decided, next_of, delay_after, one_millisecond, always_lower}
use Rattle.rules_record.specs.declared.Slot.{Slot}
use Rattle.rules_record.specs.declared.Inputs.{Inputs}
use Rattle.rules_record.specs.Slots.{is_auto, with_hold, with_proposed, with_delay_changes, with_delay}
use Rattle.rules_record.specs.States.{is_running}
use Rattle.rules_record.specs.Inputs.{slot_at, put_slot}
use Rattle.rules_record.proofs.SlotFrame.{slot_same}
use Rattle.rules_record.proofs.Sized.{sized_put}
use Rattle.rules_record.specs.Sized.{Sized}
use Rattle.base.proofs.Tests.{not_both}
use Rattle.rules_record.specs.Commands.{quiet, send_first}
use Rattle.rules_routing.specs.SetDelay.{delay_stored, set_delay_of}
use Rattle.rules_routing.proofs.SetDelayStored.{stored_same}
use Rattle.rules_record.specs.Lent.{Lists, window_of, held_for, held_of}
use Rattle.rules_record.specs.Effects.{Effect}
use Rattle.rules_routing.proofs.SettingsKept.{settings_put}
use Rattle.rules_tick.specs.Lags.{largest_of}
use Rattle.rules_tick.specs.AutoDelay.{p999_of, proposed_or, current_of, next_for, changing, goes_on, auto_delayed}
use Rattle.rules_tick.specs.AutoDelay as auto
use Rattle.rules_tick.specs.InputReady.{Ready}
use Rattle.rules_tick.proofs.Readiness.{ready_low}
use Rattle.rules_tick.proofs.AutoDelayKeeps.{auto_rule}
use Rattle.rules_tick.proofs.InputViews.{window_kept, auto_window, auto_held, auto_delay}
use Rattle.history.specs.View.{rules_of, InputView, Tick, decided_at, ticked_view}
use Rattle.history.specs.Events.{ticks, rests, after}
use Rattle.third_demand.proofs.Lifted.{view_of}
use Rattle.third_demand.proofs.Ends.{pushed_view, Last}

-- ---- `auto_delay`
module _ (i : ℕ) (largest : Option ℕ) (time : ℕ) (s : Inputs) (l : Lists) (low : i < 16) (sized : Sized s) where
  abbrev decided : Slot
  decided = with_hold (slot_at s i) (next_for i largest time s l).held.hold

  put : (new : Slot) → slot_at (put_slot s i new) i ≡ new
  put new = slot_same s i new low sized.slots

  changed : (delay : ℕ) → slot_at (delay_stored (changing i decided s) i delay time) i ≡ with_delay (with_delay_changes decided (decided.delay_changes + 1)) delay time
  changed delay =
      stored_same (changing i decided s) i delay time low (sized_put s i _ sized) ∙ ap (λ (x : Slot). with_delay x delay time) (put (with_delay_changes decided (decided.delay_changes + 1)))

  -- the state and the kind stay
  pub auto_state : (slot_at (auto_delayed i largest time s l).inputs i).state ≡ (slot_at s i).state
  unfolding set_delay_of send_first quiet
  auto_state =
      auto_rule i largest time s l (λ effect. (slot_at effect.inputs i).state ≡ (slot_at s i).state)
      (λ e. ap (λ (x : Slot). x.state) (put _))
      (λ e. refl)
      (λ on e. ap (λ (x : Slot). x.state) (put decided))
      (λ on delay e h. ap (λ (x : Slot). x.state) (put (with_proposed decided (Some delay))))
      (λ on delay e h. ap (λ (x : Slot). x.state) (changed delay))

  pub auto_config : (slot_at (auto_delayed i largest time s l).inputs i).config ≡ (slot_at s i).config
  unfolding set_delay_of send_first quiet
  auto_config =
      auto_rule i largest time s l (λ effect. (slot_at effect.inputs i).config ≡ (slot_at s i).config)
      (λ e. ap (λ (x : Slot). x.config) (put _))
      (λ e. refl)
      (λ on e. ap (λ (x : Slot). x.config) (put decided))
      (λ on delay e h. ap (λ (x : Slot). x.config) (put (with_proposed decided (Some delay))))
      (λ on delay e h. ap (λ (x : Slot). x.config) (changed delay))

  pub auto_goes : goes_on (slot_at (auto_delayed i largest time s l).inputs i) ≡ goes_on (slot_at s i)
  unfolding goes_on
  auto_goes = λ t. both (is_running (auto_state t)) (is_auto (auto_config t).extra_delay)

module _ (i : ℕ) (tick : Tick) (s : Inputs) (l : Lists) (r : Ready s l i) (sized : Sized s) (soon : tick.time ≤ time_limit) (lowers : tick.may_lower ≡ always_lower) (off : s.confirm ≡ false) (none : (slot_at s i).proposed ≡ None)
    (view : InputView) (is : pushed_view tick view ≡ view_of s l i) where
  abbrev answer : Effect
  answer = auto_delayed i (largest_of tick.lags) tick.time s l

  -- "current is .. the delay", without a proposal
  current_is : (slot_at s i).delay ≡ current_of (slot_at s i)
  current_is = sym (ap (λ (x : Option ℕ). proposed_or x (slot_at s i).delay) none)

  decision_is : decided_at (rules_of s.policy) view tick ≡ next_for i (largest_of tick.lags) tick.time s l
  unfolding next_for
  decision_is =
      (λ t. next_of one_millisecond (lowers t) s.policy (is t).held (p999_of s.policy (is t).window) (largest_of tick.lags) (is t).delay tick.time)
      ∙ ap (λ (x : ℕ). next_of one_millisecond always_lower s.policy (held_of s l i) (p999_of s.policy (window_of s l i)) (largest_of tick.lags) x tick.time) current_is

  abbrev Ends : Effect → Type 0
  Ends effect = Last s.policy tick (goes_on (slot_at s i)) view (view_of effect.inputs effect.lists i)

  -- automatic and Running
  goes : goes_on (slot_at s i) ≡ true → Ends answer
  unfolding after ticked_view
  goes going = record {
    event = ticks tick;
    leads = λ t. record {
      window = (ap (λ (x : InputView). x.window) is ∙ sym (auto_window i (largest_of tick.lags) tick.time s l r sized)) t;
      held = (ap (λ (x : Decided). x.held) decision_is ∙ sym (auto_held i (largest_of tick.lags) tick.time s l r sized going soon)) t;
      delay = ((λ k. delay_after (is k).delay (decision_is k).change) ∙ sym (auto_delay i (largest_of tick.lags) tick.time s l r sized going off)) t;
    };
    timed = refl;
    fits = tt;
    room = λ h. h;
    runs_on = λ h. refl;
  }

  -- any other: Stalled, or neither
  module _ (resting : goes_on (slot_at s i) ≡ false) where
    stopped_slot : slot_at (auto.interrupted i s) i ≡ with_hold (slot_at s i) (with_lower (slot_at s i).hold timer_off)
    stopped_slot = slot_same s i (with_hold (slot_at s i) (with_lower (slot_at s i).hold timer_off)) (ready_low s l i r) sized.slots

    stops : Last s.policy tick (goes_on (slot_at s i)) view (view_of (auto.interrupted i s) l i)
    unfolding after
    stops = record {
      event = rests true tick;
      leads = λ t. record {
        window =
            (ap (λ (x : InputView). x.window) is
            ∙ sym (window_kept s (auto.interrupted i s) l i (settings_put s i _) (ap (λ (x : Slot). x.lag_seconds) stopped_slot))) t;
        held =
            (ap (λ (x : InputView). held (with_lower x.held.hold timer_off) x.held.times x.held.lags) is
            ∙ sym (ap (λ (x : Slot). held_for l i x) stopped_slot)) t;
        delay = (ap (λ (x : InputView). x.delay) is ∙ sym (ap (λ (x : Slot). x.delay) stopped_slot)) t;
      };
      timed = refl;
      fits = tt;
      room = λ h. h;
      runs_on = λ h. absurd (not_both h resting);
    }

    idles : Last s.policy tick (goes_on (slot_at s i)) view (view_of s l i)
    unfolding after
    idles = record { event = rests false tick; leads = is; timed = refl; fits = tt; room = λ h. h; runs_on = λ h. absurd (not_both h resting) }

    rests_so : Ends answer
    rests_so =
        auto_rule i (largest_of tick.lags) tick.time s l Ends
        (λ e. stops)
        (λ e. idles)
        (λ on e. absurd (not_both on resting))
        (λ on delay e h. absurd (not_both on resting))
        (λ on delay e h. absurd (not_both on resting))

  pub auto_last : Last s.policy tick (goes_on (slot_at s i)) view (view_of answer.inputs answer.lists i)
  auto_last = by_bool (goes_on (slot_at s i)) goes rests_so
