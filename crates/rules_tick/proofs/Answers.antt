-- What the parts of a tick come to, in document 01's words. Assumes nothing.
use Rattle.std.specs.Prelude.{None, Some}
use Prim.Native.Nat.{ℕ, ◌+◌, ◌<◌, max}
use mathlib.Core.Bool.{Bool, true, false, not}
use mathlib.Core.Path.{◌≡◌, refl, ap, ◌∙◌}
use mathlib.Core.List.{List, ◌∷◌}
use Rattle.base.specs.Choice.{both}
use Rattle.base.proofs.Choices.{yes_pick, no_pick}
use Rattle.delay_hold.specs.Step4Peaks.{greatest}
use Rattle.rules_record.specs.declared.Slot.{Slot}
use Rattle.rules_record.specs.declared.Inputs.{Inputs}
use Rattle.rules_record.specs.Slots.{with_proposed}
use Rattle.rules_record.specs.Inputs.{slot_at}
use Rattle.rules_record.specs.Commands.{Done, send_first, quiet}
use Rattle.rules_record.specs.Lent.{Lists}
use Rattle.rules_record.specs.Sized.{Sized}
use Rattle.rules_record.proofs.SlotFrame.{slot_same}
use Rattle.rules_record.proofs.Sized.{sized_put}
use Rattle.rules_record.proofs.InstanceKeys.{pruned_rest}
use Rattle.rules_routing.specs.SetDelay.{set_delay_of}
use Rattle.rules_routing.proofs.SetDelayStored.{stored_same}
use Rattle.rules_tick.specs.declared.Look.{Look}
use Rattle.rules_tick.specs.Lags.{window_after, last_lag_of, arrived, largest_of}
use Rattle.rules_tick.specs.LateEvents.{late_events_of}
use Rattle.rules_tick.specs.AutoDelay.{current_of, changing, answered}
use Rattle.rules_tick.specs.Tick.{ticked_all, ticked}

-- ---- the lags
-- the largest lag is that of all the tick's lags: "one beyond it [the limit] hides the rest"
pub largest_of_all : (lag : ℕ) (others : List ℕ) → largest_of (lag ∷ others) ≡ Some (max lag (greatest others))
largest_of_all lag others = refl

-- "push lags and keep the last one": the seconds of the window with them, and the last of them, are stored
module _ (i time : ℕ) (lags : List ℕ) (s : Inputs) (l : Lists) (low : i < 16) (h : Sized s) where
  pub arrived_seconds : (slot_at (arrived i time lags s l).inputs i).lag_seconds ≡ (window_after i time lags s l).seconds
  unfolding arrived
  arrived_seconds = ap (λ (x : Slot). x.lag_seconds) (slot_same s i _ low h.slots)

  pub arrived_last : (slot_at (arrived i time lags s l).inputs i).last_lag ≡ last_lag_of lags (slot_at s i).last_lag
  unfolding arrived
  arrived_last = ap (λ (x : Slot). x.last_lag) (slot_same s i _ low h.slots)

-- ---- late events
module _ (slot : Slot) where
  -- "a late event when .. and not late before": none counts where the input was late before
  pub late_before_none : slot.late_before ≡ true → (late : Bool) → late_events_of slot late ≡ slot.late_events
  unfolding late_events_of both
  late_before_none before true = no_pick _ _ (ap not before)
  late_before_none before false = refl

  -- .. else one where it is late now
  pub late_now_one : slot.late_before ≡ false → late_events_of slot true ≡ slot.late_events + 1
  unfolding late_events_of both
  late_now_one before = yes_pick _ _ (ap not before)

-- ---- the answer
-- "current is the proposal or else the delay"
module _ (slot : Slot) where
  pub current_proposed : (proposed : ℕ) → current_of (with_proposed slot (Some proposed)) ≡ proposed
  current_proposed proposed = refl

  pub current_delay : current_of (with_proposed slot None) ≡ slot.delay
  current_delay = refl

-- "delay changes + 1 and `set_delay`", without confirmation
module _ (i delay time : ℕ) (slot : Slot) (s : Inputs) (low : i < 16) (h : Sized s) (direct : s.confirm ≡ false) where
  carried_out_law : answered (Some delay) i time slot s ≡ set_delay_of (changing i slot s) i delay time
  unfolding answered
  carried_out_law = no_pick _ _ direct

  pub change_counts : (slot_at (answered (Some delay) i time slot s).inputs i).delay_changes ≡ slot.delay_changes + 1
  unfolding set_delay_of send_first quiet
  change_counts =
      ap (λ (d : Done). (slot_at d.inputs i).delay_changes) carried_out_law
      ∙ ap (λ (x : Slot). x.delay_changes) (stored_same (changing i slot s) i delay time low (sized_put s i _ h))
      ∙ ap (λ (x : Slot). x.delay_changes) (slot_same s i _ low h.slots)

-- ---- the end of the tick
module _ (looks : List Look) (lags : List ℕ) (time : ℕ) (s : Inputs) (l : Lists) where
  -- "the unsaved mark is .. cleared"
  pub mark_cleared : (ticked looks lags time s l).inputs.unsaved ≡ false
  unfolding ticked
  mark_cleared = refl

  -- pruning and saving leave the number of flows that are known
  pub flows_stay_known : (ticked looks lags time s l).inputs.flow_count ≡ (ticked_all looks lags time s l).inputs.flow_count
  unfolding ticked
  flows_stay_known = ap (λ (z : Inputs). z.flow_count) (pruned_rest (ticked_all looks lags time s l).inputs None)
