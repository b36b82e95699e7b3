-- What an accepted `new` leaves of every input: a fresh one, whose delay is set where it is manual. Assumes nothing.
use Prim.Native.Nat.{ℕ, ◌<◌}
use mathlib.Core.Path.{◌≡◌, sym, subst}
use mathlib.Core.List.{List, [], ◌∷◌}
use native.Mathlib.Omega.{arith}
use lib.ListN.{length}
use Rattle.base.proofs.Choices.{accepted_new}
use Rattle.rules_record.specs.declared.ExtraDelay.{ExtraDelay}
use Rattle.rules_record.specs.declared.ExtraDelay.TheVariants.{Auto, Ms}
use Rattle.rules_record.specs.declared.Inputs.{Inputs}
use Rattle.rules_record.specs.Inputs.{slot_at}
use Rattle.rules_record.specs.Lent.{Lists, buckets_in}
use Rattle.rules_record.specs.Effects.{Effect}
use Rattle.rules_record.specs.Reply.{Reply, carried_out}
use Rattle.rules_record.specs.Facts.{Checked}
use Rattle.rules_routing.proofs.SettingsKept.{SameSettings}
use Rattle.rules_calls.specs.declared.Settings.{Settings}
use Rattle.rules_calls.specs.NewRecord.{policy_of, blank, blank_for}
use Rattle.rules_calls.specs.NewStart.{kind_at, started}
use Rattle.rules_calls.specs.NewChecks.{new_number}
use Rattle.rules_calls.specs.NewReply.{new_reply}
use Rattle.rules_calls.proofs.NewAccepted.{started_delay, AsStarted, new_checked, new_settings, new_started, new_window, new_held}
use Rattle.history.specs.View.{InputView}
use Rattle.history.specs.Events.{sets, fresh_view, after, history}
use Rattle.third_demand.proofs.Lifted.{view_of, Lifted}
use Rattle.third_demand.proofs.CallViews.{lifted_none}

-- ---- one input
-- the fresh input with the delay that it starts with
abbrev started_view : Settings → ExtraDelay → InputView
started_view settings kind = record {
  window = (fresh_view (policy_of settings) settings.width).window;
  held = (fresh_view (policy_of settings) settings.width).held;
  delay = started_delay kind settings.delay_max;
}

-- no window and no hold has the time of `new`, so its events are those of time 0: nothing happens to an automatic input; "A Ms input then gets `set_delay` with the smaller of `samples` and maximum"
started_lifted : (settings : Settings) (kind : ExtraDelay) (view : InputView) → view ≡ started_view settings kind
    → Lifted (policy_of settings) 0 (fresh_view (policy_of settings) settings.width) view
unfolding fresh_view history after policy_of
started_lifted settings (Auto tag) view is_view = lifted_none (policy_of settings) 0 (fresh_view (policy_of settings) settings.width) view is_view
started_lifted settings (Ms delay) view is_view = record {
  events = sets 0 (started_delay (Ms delay) settings.delay_max) ∷ [];
  leads = sym is_view;
  lawful = λ before first. (first, omega arith, omega arith, tt, tt);
  clocked = λ before first. omega arith;
}

-- ---- what an accepted `new` leaves
pub record Started (settings : Settings) (kinds : List ExtraDelay) (time : ℕ) (z : Inputs) (m : Lists) : Type 0 where
  pub checked : Checked z m
  pub given : SameSettings (blank_for settings) z
  pub lifted : (i : ℕ) → i < settings.count → Lifted (policy_of settings) 0 (fresh_view (policy_of settings) settings.width) (view_of z m i)
  pub slot : (i : ℕ) → i < settings.count → AsStarted (kind_at kinds i) time settings.delay_max (slot_at z i)

module _ (settings : Settings) (kinds : List ExtraDelay) (bytes delays : List ℕ) (time : ℕ) (l : Lists) (commands : List ℕ) (accepted : new_number settings bytes delays time l (length commands) ≡ 0) where
  abbrev effect : Effect
  effect = started settings kinds bytes delays time l

  pub new_reply_law : new_reply settings kinds bytes delays time l commands ≡ carried_out (new_number settings bytes delays time l (length commands)) commands effect
  unfolding new_reply
  new_reply_law = accepted_new _ _ _ accepted

  view_is : (i : ℕ) → i < settings.count → view_of effect.inputs effect.lists i ≡ started_view settings (kind_at kinds i)
  unfolding fresh_view buckets_in blank_for blank
  view_is i there = λ t. record {
    window = new_window settings kinds bytes delays time l (length commands) accepted i there t;
    held = new_held settings kinds bytes delays time l (length commands) accepted i there t;
    delay = (new_started settings kinds bytes delays time l (length commands) accepted i there).delay t;
  }

  pub started_fresh : Started settings kinds time effect.inputs effect.lists
  started_fresh = record {
    checked = new_checked settings kinds bytes delays time l (length commands) accepted;
    given = new_settings settings kinds bytes delays time l (length commands) accepted;
    lifted = λ i there.
        started_lifted settings (kind_at kinds i)
        (view_of effect.inputs effect.lists i) (view_is i there);
    slot = new_started settings kinds bytes delays time l (length commands) accepted;
  }

  pub new_fresh : Started settings kinds time (new_reply settings kinds bytes delays time l commands).inputs (new_reply settings kinds bytes delays time l commands).lists
  new_fresh = subst (λ (r : Reply). Started settings kinds time r.inputs r.lists) (sym new_reply_law) started_fresh
