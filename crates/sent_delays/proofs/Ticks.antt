-- `tick` tells the delays and the times, whether confirmation is on or off. Assumes nothing.
use Rattle.std.specs.Prelude.{None, Option, Some}
use Prim.Native.Nat.{ℕ, zero, suc, ◌≤◌, ◌<◌}
use mathlib.Core.Path.{◌≡◌, refl, ap}
use mathlib.Core.List.{List, []}
use native.Mathlib.Omega.{arith}
use Rattle.base.proofs.Choices.{pick_all}
use Rattle.delay_hold.specs.Next.{Decided}
use Rattle.rules_record.specs.declared.Slot.{Slot}
use Rattle.rules_record.specs.declared.Inputs.{Inputs}
use Rattle.rules_record.specs.Slots.{with_hold}
use Rattle.rules_record.specs.States.{is_waiting, is_stalled, is_open}
use Rattle.rules_record.specs.Inputs.{slot_at}
use Rattle.rules_record.specs.Sized.{Sized}
use Rattle.rules_record.specs.Commands.{quiet}
use Rattle.rules_record.specs.Prune.{pruned}
use Rattle.rules_record.proofs.InstanceKeys.{pruned_sized, pruned_rest}
use Rattle.rules_record.specs.Lent.{Lists}
use Rattle.rules_record.specs.Effects.{beside}
use Rattle.rules_tick.specs.Lags.{arrived, largest_of}
use Rattle.rules_tick.specs.LateEvents.{late_event}
use Rattle.rules_tick.specs.AutoDelay.{next_for, changing, answered, decided_for, goes_on, auto_delayed}
use Rattle.rules_tick.specs.declared.Look.{Look}
use Rattle.rules_tick.specs.Looks.{look_at, lags_of}
use Rattle.rules_tick.specs.Tick.{heard, looked, ticked_input, ticked_below, ticked_all, saved, lastly, ticked}
use Rattle.sent_delays.proofs.Notes.{notes_of}
use Rattle.sent_delays.proofs.Steps.{Tells, TellsDone, TellsEffect, tells_then, tells_followed, tells_changed, tells_same, tells_none, tells_quiet, tells_put, tells_set, tells_open, tells_watch}
use Rattle.rules_record.specs.declared.Instance.{Instance}

-- ---- one input
module _ (i : ℕ) (input : i < 16) where
  pub tells_arrived : (time : ℕ) (lags : List ℕ) (s : Inputs) (l : Lists) → Sized s → TellsEffect time s (arrived i time lags s l)
  unfolding arrived
  tells_arrived time lags s l h = tells_put i input s h time _ refl

  pub tells_late : (time applied : ℕ) (largest : Option ℕ) (s : Inputs) → Sized s → Tells time s (late_event i applied largest s) []
  unfolding late_event
  tells_late time applied largest s h = tells_put i input s h time _ refl

  pub tells_heard : (look : Look) (lags : List ℕ) (time : ℕ) (s : Inputs) (l : Lists) → Sized s → TellsEffect time s (heard i look lags time s l)
  unfolding heard
  tells_heard look lags time s l h =
      let f = tells_arrived time lags s l h in
      tells_followed s (arrived i time lags s l) _ f (tells_late time look.applied (largest_of lags) _ f.sized)

  pub tells_looked : (look : Look) (time : ℕ) (s : Inputs) → Sized s → TellsDone time s (looked i look time s)
  unfolding looked
  tells_looked look time s h =
      pick_all (TellsDone time s) (is_waiting (slot_at s i).state)
      (tells_open i input s h time look.world)
      (pick_all (TellsDone time s) (is_open (slot_at s i).state) (tells_watch i input s h time look.seen look.world) (tells_quiet h))

  -- "an answer becomes the proposal (confirmation on) or delay changes + 1 and `set_delay`"
  pub tells_answered : (change : Option ℕ) (time : ℕ) (slot : Slot) (s : Inputs) → Sized s → notes_of slot ≡ notes_of (slot_at s i) → TellsDone time s (answered change i time slot s)
  unfolding answered quiet
  tells_answered None time slot s h same = tells_put i input s h time slot same
  tells_answered (Some delay) time slot s h same =
      let f : Tells time s (changing i slot s) [] = tells_put i input s h time _ same in
      pick_all (TellsDone time s) s.confirm
      (tells_put i input s h time _ same)
      (tells_then f (tells_set i input (changing i slot s) f.sized time delay))

  pub tells_decided : (d : Decided) (time : ℕ) (s : Inputs) (l : Lists) → Sized s → TellsEffect time s (decided_for d i time s l)
  unfolding decided_for
  tells_decided d time s l h = tells_answered d.change time (with_hold (slot_at s i) d.held.hold) s h refl

  pub tells_auto : (largest : Option ℕ) (time : ℕ) (s : Inputs) (l : Lists) → Sized s → TellsEffect time s (auto_delayed i largest time s l)
  unfolding auto_delayed
  tells_auto largest time s l h =
      pick_all (TellsEffect time s) (is_stalled (slot_at s i).state)
      (tells_put i input s h time _ refl)
      (pick_all (TellsEffect time s) (goes_on (slot_at s i)) (tells_decided (next_for i largest time s l) time s l h) (tells_none h))

  pub tells_input : (look : Look) (lags : List ℕ) (time : ℕ) (s : Inputs) (l : Lists) → Sized s → TellsEffect time s (ticked_input i look lags time s l)
  unfolding ticked_input
  tells_input look lags time s l h =
      let f = tells_heard look lags time s l h in
      let g = tells_followed s (heard i look lags time s l) (λ z m. beside m (looked i look time z)) f (tells_looked look time _ f.sized) in
      tells_followed s _ (auto_delayed i (largest_of lags) time) g (tells_auto (largest_of lags) time _ _ g.sized)

-- ---- all inputs
-- "inputs in order"
pub tells_below : (n : ℕ) → n ≤ 16 → (looks : List Look) (lags : List ℕ) (time : ℕ) (s : Inputs) (l : Lists) → Sized s → TellsEffect time s (ticked_below n looks lags time s l)
unfolding ticked_below
tells_below zero most looks lags time s l h = tells_none h
tells_below (suc n) most looks lags time s l h =
    let f = tells_below n (omega arith) looks lags time s l h in
    tells_followed s (ticked_below n looks lags time s l) _ f (tells_input n (omega arith) (look_at looks n) (lags_of looks lags n) time _ _ f.sized)

-- pruning and saving change no slot
pub tells_pruned : {time : ℕ} (s : Inputs) (extra : Option Instance) → Sized s → Tells time s (pruned s extra) []
unfolding slot_at
tells_pruned s extra h = tells_same (pruned_sized s extra h) (λ j. ap (λ (z : Inputs). slot_at z j) (pruned_rest s extra))

pub tells_saved : {time : ℕ} (s : Inputs) → Sized s → Tells time s (saved s) []
unfolding slot_at
tells_saved s h = tells_same (record { slots = h.slots; flows = h.flows; instances = h.instances }) (λ j. refl)

pub tells_lastly : {time : ℕ} (s : Inputs) → Sized s → Tells time s (lastly s) []
tells_lastly s h = let f = tells_pruned s None h in tells_then f (tells_saved (pruned s None) f.sized)

pub tells_ticked : (looks : List Look) (lags : List ℕ) (time : ℕ) (s : Inputs) (l : Lists) → Sized s → s.count ≤ 16 → TellsEffect time s (ticked looks lags time s l)
unfolding ticked ticked_all
tells_ticked looks lags time s l h most =
    let f = tells_below s.count most looks lags time s l h in
    tells_changed f (tells_lastly _ f.sized)
