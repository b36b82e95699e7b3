-- The window, the hold, the delay and the proposal of an input after each step of its tick. Assumes nothing.
use Rattle.std.specs.Prelude.{None, Option, Some}
use Prim.Native.Nat.{ℕ, ◌+◌, ◌*◌, ◌<◌, ◌≤◌}
use mathlib.Core.Bool.{true, false}
use mathlib.Core.Path.{◌≡◌, refl, sym, ap, ◌∙◌}
use mathlib.Core.List.{List, []}
use native.Mathlib.Omega.{arith}
use borrow.Author.Tests.{eqb-true}
use lib.ListN.{length}
use Rattle.base.specs.Limits.{time_limit}
use Rattle.base.specs.Lists.{part}
use Rattle.base.proofs.Points.{both_true}
use Rattle.rules_window.specs.Window.{windowed}
use Rattle.rules_window.specs.Parts.{part_of}
use Rattle.rules_window.specs.Checks.{room_for}
use Rattle.delay_hold.specs.declared.DelayHold.{DelayHold}
use Rattle.delay_hold.specs.Next.{held, Decided, delay_after}
use Rattle.rules_record.specs.declared.Slot.{Slot}
use Rattle.rules_record.specs.declared.Inputs.{Inputs}
use Rattle.rules_record.specs.Slots.{is_auto, with_hold, with_proposed, with_delay_changes, with_delay}
use Rattle.rules_record.specs.States.{state_number, is_running}
use Rattle.rules_record.specs.Inputs.{slot_at, put_slot}
use Rattle.rules_record.proofs.SlotFrame.{slot_same}
use Rattle.rules_record.proofs.Sized.{sized_put}
use Rattle.rules_record.specs.Sized.{Sized}
use Rattle.base.proofs.Tests.{not_both}
use Rattle.rules_record.specs.Commands.{quiet, send_first, set_delay}
use Rattle.rules_routing.specs.SetDelay.{delay_stored, set_delay_of}
use Rattle.rules_routing.proofs.SetDelayStored.{stored_same}
use Rattle.rules_record.specs.Lent.{Lists, buckets_in, window_of, held_of, with_held}
use Rattle.rules_record.proofs.Beside.{held_same}
use Rattle.rules_tick.specs.Lags.{window_after, arrived}
use Rattle.rules_tick.specs.LateEvents.{late_event}
use Rattle.rules_tick.specs.AutoDelay.{next_for, changing, goes_on, auto_delayed}
use Rattle.rules_tick.specs.InputReady.{Ready}
use Rattle.rules_routing.proofs.SettingsKept.{SameSettings}
use Rattle.rules_tick.proofs.Readiness.{ready_low}
use Rattle.rules_tick.proofs.LagsKeep.{arrived_slot_law, arrived_settings, arrived_read}
use Rattle.rules_tick.proofs.LateKeeps.{late_slot_law, late_settings}
use Rattle.rules_tick.proofs.AutoDelayKeeps.{auto_rule, auto_settings, next_long}

-- the words of an answer that is carried out
abbrev pub answer_words : ℕ → Option ℕ → List ℕ
answer_words i None = []
answer_words i (Some delay) = set_delay i delay

-- a window whose seconds and lists stay, under the same settings
pub window_kept : (s z : Inputs) (l : Lists) (i : ℕ) → SameSettings s z → (slot_at z i).lag_seconds ≡ (slot_at s i).lag_seconds → window_of z l i ≡ window_of s l i
unfolding buckets_in
window_kept s z l i settings seconds = λ t. part_of i (windowed (seconds t) (buckets_in (settings t)) (settings t).width l.starts l.totals l.counts)

-- ---- after the lags
module _ (i time : ℕ) (lags : List ℕ) (s : Inputs) (l : Lists) (r : Ready s l i) (sized : length s.slots ≡ 16) where
  pub arrived_window : time ≤ time_limit → room_for time (length lags) (window_of s l i) ≡ true → window_of (arrived i time lags s l).inputs (arrived i time lags s l).lists i ≡ window_after i time lags s l
  unfolding buckets_in
  arrived_window soon room =
      (λ t. part_of i
      (windowed (arrived_slot_law i time lags s l (ready_low s l i r) sized t).lag_seconds (buckets_in (arrived_settings i time lags s l t)) (arrived_settings i time lags s l t).width
      (arrived i time lags s l).lists.starts (arrived i time lags s l).lists.totals (arrived i time lags s l).lists.counts))
      ∙ arrived_read i time lags s l r soon room

  pub arrived_held : held_of (arrived i time lags s l).inputs (arrived i time lags s l).lists i ≡ held_of s l i
  unfolding arrived
  arrived_held = ap (λ (x : Slot). held x.hold (part (i * 600) 600 l.times) (part (i * 600) 600 l.peaks)) (arrived_slot_law i time lags s l (ready_low s l i r) sized)

-- ---- after a late event
module _ (i applied : ℕ) (largest : Option ℕ) (s : Inputs) (l : Lists) (low : i < 16) (sized : length s.slots ≡ 16) where
  pub late_window : window_of (late_event i applied largest s) l i ≡ window_of s l i
  late_window = window_kept s (late_event i applied largest s) l i (late_settings i applied largest s) (ap (λ (x : Slot). x.lag_seconds) (late_slot_law i applied largest s low sized))

  pub late_held : held_of (late_event i applied largest s) l i ≡ held_of s l i
  late_held = ap (λ (x : Slot). held x.hold (part (i * 600) 600 l.times) (part (i * 600) 600 l.peaks)) (late_slot_law i applied largest s low sized)

-- ---- after `auto_delay`
module _ (i : ℕ) (largest : Option ℕ) (time : ℕ) (s : Inputs) (l : Lists) (r : Ready s l i) (sized : Sized s) where
  low : i < 16
  low = ready_low s l i r

  abbrev decision : Decided
  decision = next_for i largest time s l

  abbrev slot : Slot
  slot = with_hold (slot_at s i) decision.held.hold

  put : (new : Slot) → slot_at (put_slot s i new) i ≡ new
  put new = slot_same s i new low sized.slots

  changed_slot : (delay : ℕ) → slot_at (delay_stored (changing i slot s) i delay time) i ≡ with_delay (with_delay_changes slot (slot.delay_changes + 1)) delay time
  changed_slot delay =
      stored_same (changing i slot s) i delay time low (sized_put s i _ sized) ∙ ap (λ (x : Slot). with_delay x delay time) (put (with_delay_changes slot (slot.delay_changes + 1)))

  seconds_kept : (slot_at (auto_delayed i largest time s l).inputs i).lag_seconds ≡ (slot_at s i).lag_seconds
  unfolding set_delay_of send_first quiet
  seconds_kept =
      auto_rule i largest time s l (λ effect. (slot_at effect.inputs i).lag_seconds ≡ (slot_at s i).lag_seconds)
      (λ e. ap (λ (x : Slot). x.lag_seconds) (put _))
      (λ e. refl)
      (λ on e. ap (λ (x : Slot). x.lag_seconds) (put slot))
      (λ on delay e h. ap (λ (x : Slot). x.lag_seconds) (put (with_proposed slot (Some delay))))
      (λ on delay e h. ap (λ (x : Slot). x.lag_seconds) (changed_slot delay))

  -- the window stays
  pub auto_window : window_of (auto_delayed i largest time s l).inputs (auto_delayed i largest time s l).lists i ≡ window_of s l i
  auto_window =
      auto_rule i largest time s l (λ effect. window_of effect.inputs effect.lists i ≡ window_of effect.inputs l i) (λ e. refl) (λ e. refl) (λ on e. refl) (λ on delay e h. refl) (λ on delay e h. refl)
      ∙ window_kept s (auto_delayed i largest time s l).inputs l i (auto_settings i largest time s l) seconds_kept

  -- without confirmation the proposal stays as it is
  pub auto_proposed : s.confirm ≡ false → (slot_at (auto_delayed i largest time s l).inputs i).proposed ≡ (slot_at s i).proposed
  unfolding set_delay_of send_first quiet
  auto_proposed off =
      auto_rule i largest time s l (λ effect. (slot_at effect.inputs i).proposed ≡ (slot_at s i).proposed)
      (λ e. ap (λ (x : Slot). x.proposed) (put _))
      (λ e. refl)
      (λ on e. ap (λ (x : Slot). x.proposed) (put slot))
      (λ on delay e h. absurd (not_both h off))
      (λ on delay e h. ap (λ (x : Slot). x.proposed) (changed_slot delay))

  -- an input that is automatic and Running: its hold is what `next` leaves
  module _ (going : goes_on (slot_at s i) ≡ true) where
    not_stalled : state_number (slot_at s i).state ≡ 3 → ⊥
    unfolding goes_on
    not_stalled e =
        let running : state_number (slot_at s i).state ≡ 2 = eqb-true _ _ (both_true (is_running (slot_at s i).state) (is_auto (slot_at s i).config.extra_delay) going).0 in
        omega arith

    pub auto_held : time ≤ time_limit → held_of (auto_delayed i largest time s l).inputs (auto_delayed i largest time s l).lists i ≡ decision.held
    unfolding set_delay_of send_first quiet
    auto_held soon =
        auto_rule i largest time s l (λ effect. held_of effect.inputs effect.lists i ≡ decision.held)
        (λ e. absurd (not_stalled e))
        (λ e. absurd (not_both going e))
        (λ on e. with_slot (put_slot s i slot) slot (put slot) refl)
        (λ on delay e h. with_slot (put_slot s i (with_proposed slot (Some delay))) (with_proposed slot (Some delay)) (put (with_proposed slot (Some delay))) refl)
        (λ on delay e h. with_slot (delay_stored (changing i slot s) i delay time) _ (changed_slot delay) refl)
      where
        with_slot : (z : Inputs) (new : Slot) → slot_at z i ≡ new → new.hold ≡ decision.held.hold → held_of z (with_held i decision.held l) i ≡ decision.held
        with_slot z new is hold =
            ap (λ (h : DelayHold). held h (part (i * 600) 600 (with_held i decision.held l).times) (part (i * 600) 600 (with_held i decision.held l).peaks)) (ap (λ (x : Slot). x.hold) is ∙ hold)
            ∙ held_same s.count (buckets_in s) i l r.fitting.long r.input decision.held (next_long i largest time s l r soon).0 (next_long i largest time s l r soon).1

    -- without confirmation its delay is the answer, which is sent; where there is none, it stays and nothing is sent
    pub auto_delay : s.confirm ≡ false → (slot_at (auto_delayed i largest time s l).inputs i).delay ≡ delay_after (slot_at s i).delay decision.change
    unfolding set_delay_of send_first quiet
    auto_delay off =
        auto_rule i largest time s l (λ effect. (slot_at effect.inputs i).delay ≡ delay_after (slot_at s i).delay decision.change)
        (λ e. absurd (not_stalled e))
        (λ e. absurd (not_both going e))
        (λ on e. ap (λ (x : Slot). x.delay) (put slot) ∙ sym (ap (delay_after (slot_at s i).delay) e))
        (λ on delay e h. absurd (not_both h off))
        (λ on delay e h. ap (λ (x : Slot). x.delay) (changed_slot delay) ∙ sym (ap (delay_after (slot_at s i).delay) e))

    pub auto_words : s.confirm ≡ false → (auto_delayed i largest time s l).words ≡ answer_words i decision.change
    unfolding set_delay_of send_first quiet
    auto_words off =
        auto_rule i largest time s l (λ effect. effect.words ≡ answer_words i decision.change)
        (λ e. absurd (not_stalled e))
        (λ e. absurd (not_both going e))
        (λ on e. sym (ap (answer_words i) e))
        (λ on delay e h. absurd (not_both h off))
        (λ on delay e h. sym (ap (answer_words i) e))
