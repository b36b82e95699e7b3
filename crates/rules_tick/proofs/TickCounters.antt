-- A tick raises each counter of an input by at most one. Assumes nothing.
use Prim.Native.Nat.{ℕ, ◌<◌, ◌≤◌}
use mathlib.Core.Path.{subst}
use mathlib.Core.List.{List}
use native.Mathlib.Omega.{arith}
use lib.ListN.{length}
use Rattle.base.proofs.Choices.{by_le, accepted_all}
use Rattle.rules_record.specs.declared.Slot.{Slot}
use Rattle.rules_record.specs.declared.Inputs.{Inputs}
use Rattle.rules_record.specs.Inputs.{slot_at}
use Rattle.rules_record.specs.Sized.{Sized}
use Rattle.rules_record.specs.Lent.{Lists}
use Rattle.rules_record.specs.Effects.{followed_by}
use Rattle.rules_record.specs.Reply.{Reply}
use Rattle.rules_tick.specs.Lags.{largest_of}
use Rattle.rules_tick.specs.LateEvents.{late_event}
use Rattle.rules_tick.specs.AutoDelay.{auto_delayed}
use Rattle.rules_tick.proofs.Raised.{Raised, raised_by, raised_then}
use Rattle.rules_tick.proofs.LagsKeep.{arrived_raised}
use Rattle.rules_tick.proofs.LateKeeps.{late_raised}
use Rattle.rules_tick.proofs.AutoDelayKeeps.{auto_raised}
use Rattle.rules_tick.specs.declared.Look.{Look}
use Rattle.rules_tick.specs.Looks.{look_at, lags_of}
use Rattle.rules_tick.specs.TickChecks.{tick_number}
use Rattle.rules_tick.specs.Tick.{heard, ticked_input, ticked}
use Rattle.rules_tick.specs.TickReply.{tick_reply}
use Rattle.rules_tick.proofs.TickAccepted.{tick_checked}
use Rattle.rules_tick.proofs.Looked.{looked_raised}
use Rattle.rules_tick.proofs.TickFrames.{arrived_sized, heard_sized, between_sized, turn, below_sized, below_slots, ticked_past, ticked_slot}
use Rattle.rules_tick.proofs.TickSteps.{lagged_inputs, heard_inputs, heard_lists, looked_inputs}

-- ---- one input
module _ (i : ℕ) (look : Look) (lags : List ℕ) (time : ℕ) (s : Inputs) (l : Lists) (low : i < 16) (sized : Sized s) where
  pub heard_raised : Raised 0 0 1 (slot_at s i) (slot_at (heard_inputs i look lags time s l) i)
  unfolding heard followed_by
  heard_raised =
      raised_then 0 0 0 0 0 1 (slot_at s i) (slot_at (lagged_inputs i look lags time s l) i) (slot_at (late_event i look.applied (largest_of lags) (lagged_inputs i look lags time s l)) i) (arrived_raised i time lags s l low sized.slots)
      (late_raised i look.applied (largest_of lags) (lagged_inputs i look lags time s l) low (arrived_sized i look lags time s l sized).slots)

  pub between_raised : Raised 1 0 1 (slot_at s i) (slot_at (looked_inputs i look lags time s l) i)
  between_raised = raised_then 0 0 1 1 0 0 (slot_at s i) (slot_at (heard_inputs i look lags time s l) i) (slot_at (looked_inputs i look lags time s l) i) heard_raised (looked_raised i look time (heard_inputs i look lags time s l) low (heard_sized i look lags time s l sized))

  pub input_raised : Raised 1 1 1 (slot_at s i) (slot_at (ticked_input i look lags time s l).inputs i)
  unfolding ticked_input followed_by
  input_raised =
      raised_then 1 0 1 0 1 0 (slot_at s i) (slot_at (looked_inputs i look lags time s l) i) (slot_at (auto_delayed i (largest_of lags) time (looked_inputs i look lags time s l) (heard_lists i look lags time s l)).inputs i) between_raised
      (auto_raised i (largest_of lags) time (looked_inputs i look lags time s l) (heard_lists i look lags time s l) low (between_sized i look lags time s l sized))

-- ---- the whole tick
module _ (looks : List Look) (lags : List ℕ) (time : ℕ) (s : Inputs) (l : Lists) (most : s.count ≤ 16) (sized : Sized s) where
  abbrev after : Inputs
  after = (ticked looks lags time s l).inputs

  input_turn : (j : ℕ) → j < s.count → Raised 1 1 1 (slot_at s j) (slot_at after j)
  input_turn j h =
      raised_by 1 1 1 (slot_at s j) (ticked_slot looks lags time s l j h)
      (subst (λ (x : Slot). Raised 1 1 1 x (slot_at (ticked_input j (look_at looks j) (lags_of looks lags j) time (turn looks lags time s l j).inputs (turn looks lags time s l j).lists).inputs j))
      (below_slots looks lags time s l j j (omega arith))
      (input_raised j (look_at looks j) (lags_of looks lags j) time (turn looks lags time s l j).inputs (turn looks lags time s l j).lists (omega arith) (below_sized looks lags time s l j sized)))

  pub ticked_raised : (j : ℕ) → Raised 1 1 1 (slot_at s j) (slot_at after j)
  ticked_raised j =
      by_le s.count j
      (λ past. raised_by 1 1 1 (slot_at s j) (ticked_past looks lags time s l j past) (record { reopens = omega arith; changes = omega arith; lates = omega arith }))
      (input_turn j)

-- ---- the call, accepted or refused
pub tick_raised : (s : Inputs) (l : Lists) (commands : List ℕ) (looks : List Look) (lags : List ℕ) (time : ℕ) → Sized s → (j : ℕ) → Raised 1 1 1 (slot_at s j) (slot_at (tick_reply s l commands looks lags time).inputs j)
unfolding tick_reply
tick_raised s l commands looks lags time sized j =
    accepted_all (λ (reply : Reply). Raised 1 1 1 (slot_at s j) (slot_at reply.inputs j)) (tick_number s l (length commands) looks lags time) _ _
    (record { reopens = omega arith; changes = omega arith; lates = omega arith })
    (λ e. ticked_raised looks lags time s l (tick_checked s l (length commands) looks lags time e sized).fitting.allowed.most sized j)
