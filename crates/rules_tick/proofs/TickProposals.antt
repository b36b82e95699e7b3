-- Without confirmation a tick leaves every proposal as it is: where there is none, there is none after it. Assumes nothing.
use Rattle.std.specs.Prelude.{None}
use Prim.Native.Nat.{ℕ, ◌<◌, ◌≤◌}
use mathlib.Core.Bool.{true, false}
use mathlib.Core.Path.{◌≡◌, ap, ◌∙◌}
use mathlib.Core.List.{List}
use native.Mathlib.Omega.{arith}
use lib.ListN.{length}
use Rattle.base.specs.Limits.{time_limit}
use Rattle.base.proofs.Choices.{by_le, accepted_all}
use Rattle.rules_window.specs.Checks.{room_for}
use Rattle.rules_record.specs.declared.Slot.{Slot}
use Rattle.rules_record.specs.declared.Inputs.{Inputs}
use Rattle.rules_record.specs.Inputs.{slot_at}
use Rattle.rules_record.specs.Sized.{Sized}
use Rattle.rules_record.specs.Lent.{Lists, window_of}
use Rattle.rules_record.specs.Effects.{followed_by}
use Rattle.rules_record.specs.Reply.{Reply}
use Rattle.rules_record.specs.Facts.{Checked}
use Rattle.rules_tick.specs.Lags.{largest_of}
use Rattle.rules_tick.specs.InputReady.{Ready}
use Rattle.rules_tick.proofs.LagsKeep.{arrived_slot_law}
use Rattle.rules_tick.proofs.LateKeeps.{late_slot_law}
use Rattle.rules_tick.proofs.Readiness.{ready_low, ready_of}
use Rattle.rules_tick.proofs.InputViews.{auto_proposed}
use Rattle.rules_tick.specs.declared.Look.{Look}
use Rattle.rules_tick.specs.Looks.{look_at, lags_of}
use Rattle.rules_tick.specs.TickChecks.{tick_number}
use Rattle.rules_tick.specs.Tick.{heard, ticked_input, ticked}
use Rattle.rules_tick.specs.TickReply.{tick_reply}
use Rattle.rules_tick.proofs.Looked.{looked_slot}
use Rattle.rules_tick.proofs.TickFrames.{arrived_sized, heard_sized, between_settings, between_sized, between_ready, turn, below_settings, below_sized, below_slots, turn_ready, turn_room, turns, ticked_settings, ticked_past, ticked_slot}
use Rattle.rules_tick.proofs.TickAccepted.{Accepted, tick_checked, tick_accepted, accepted_room}
use Rattle.rules_tick.proofs.TickSteps.{lagged_inputs, heard_inputs, heard_lists, looked_inputs}

-- ---- one input
module _ (i : ℕ) (look : Look) (lags : List ℕ) (time : ℕ) (s : Inputs) (l : Lists) (low : i < 16) (sized : Sized s) where
  pub heard_proposed : (slot_at (heard i look lags time s l).inputs i).proposed ≡ (slot_at s i).proposed
  unfolding heard followed_by
  heard_proposed =
      ap (λ (x : Slot). x.proposed) (late_slot_law i look.applied (largest_of lags) (lagged_inputs i look lags time s l) low (arrived_sized i look lags time s l sized).slots)
      ∙ ap (λ (x : Slot). x.proposed) (arrived_slot_law i time lags s l low sized.slots)

module _ (i : ℕ) (look : Look) (lags : List ℕ) (time : ℕ) (s : Inputs) (l : Lists) (r : Ready s l i) (sized : Sized s) (soon : time ≤ time_limit)
    (room : room_for time (length lags) (window_of s l i) ≡ true) (off : s.confirm ≡ false) where
  pub input_proposed : (slot_at (ticked_input i look lags time s l).inputs i).proposed ≡ (slot_at s i).proposed
  unfolding ticked_input followed_by
  input_proposed =
      auto_proposed i (largest_of lags) time (looked_inputs i look lags time s l) (heard_lists i look lags time s l) (between_ready i look lags time s l r sized soon room) (between_sized i look lags time s l sized)
      (ap (λ (x : Inputs). x.confirm) (between_settings i look lags time s l) ∙ off)
      ∙ (looked_slot i look time (heard_inputs i look lags time s l) (ready_low s l i r) (heard_sized i look lags time s l sized)).proposed
      ∙ heard_proposed i look lags time s l (ready_low s l i r) sized

-- ---- all inputs
module _ (looks : List Look) (lags : List ℕ) (time : ℕ) (s : Inputs) (l : Lists) (c : Checked s l) (a : Accepted s l looks lags time) (off : s.confirm ≡ false) where
  abbrev at : ℕ → Inputs
  at n = (turn looks lags time s l n).inputs

  abbrev lists : ℕ → Lists
  lists n = (turn looks lags time s l n).lists

  input_turn : (j : ℕ) → j < s.count → (slot_at (ticked looks lags time s l).inputs j).proposed ≡ (slot_at s j).proposed
  input_turn j h =
      let t = turns looks lags time s l c.fitting c.sized a.timely (ready_of s l c) (accepted_room s l looks lags time a) j (omega arith) in
      ap (λ (x : Slot). x.proposed) (ticked_slot looks lags time s l j h)
      ∙ input_proposed j (look_at looks j) (lags_of looks lags j) time (at j) (lists j)
      (turn_ready looks lags time s l c.fitting c.sized a.timely (ready_of s l c) (accepted_room s l looks lags time a) j t h)
      (below_sized looks lags time s l j c.sized) a.timely
      (turn_room looks lags time s l c.fitting c.sized a.timely (ready_of s l c) (accepted_room s l looks lags time a) j t h)
      (ap (λ (x : Inputs). x.confirm) (below_settings looks lags time s l j) ∙ off)
      ∙ ap (λ (x : Slot). x.proposed) (below_slots looks lags time s l j j (omega arith))

  pub ticked_proposed : (j : ℕ) → (slot_at (ticked looks lags time s l).inputs j).proposed ≡ (slot_at s j).proposed
  ticked_proposed j = by_le s.count j (λ past. ap (λ (x : Slot). x.proposed) (ticked_past looks lags time s l j past)) (input_turn j)

-- ---- the call, accepted or refused
-- confirmation is off, and no input has a proposal
pub record NoProposals (s : Inputs) : Type 0 where
  pub off : s.confirm ≡ false
  pub none : (j : ℕ) → (slot_at s j).proposed ≡ None

pub tick_proposes_none : (s : Inputs) (l : Lists) (commands : List ℕ) (looks : List Look) (lags : List ℕ) (time : ℕ) → Sized s → NoProposals s → NoProposals (tick_reply s l commands looks lags time).inputs
unfolding tick_reply
tick_proposes_none s l commands looks lags time sized n =
    accepted_all (λ (reply : Reply). NoProposals reply.inputs) (tick_number s l (length commands) looks lags time) _ _ n
    (λ e.
    record {
      off = ap (λ (x : Inputs). x.confirm) (ticked_settings looks lags time s l) ∙ n.off;
      none = λ j. ticked_proposed looks lags time s l (tick_checked s l (length commands) looks lags time e sized) (tick_accepted s l (length commands) looks lags time e) n.off j ∙ n.none j;
    })
