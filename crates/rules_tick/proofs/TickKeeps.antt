-- A tick keeps a checked record checked, where one more of each counter is below 2^63. Assumes nothing.
use Rattle.std.specs.Prelude.{None}
use Prim.Native.Nat.{ℕ, zero, suc, ◌+◌, ◌<◌, ◌≤◌}
use mathlib.Core.Bool.{true}
use mathlib.Core.Path.{◌≡◌, sym, subst}
use mathlib.Core.List.{List}
use native.Mathlib.Omega.{arith}
use borrow.Author.Tests.{eqb-true}
use lib.ListN.{length}
use Rattle.base.specs.Limits.{time_limit, counter_limit}
use Rattle.base.proofs.Choices.{pick_all, pick_rule, accepted_all}
use Rattle.rules_window.specs.Checks.{room_for}
use Rattle.rules_record.specs.declared.Slot.{Slot}
use Rattle.rules_record.specs.declared.Inputs.{Inputs}
use Rattle.rules_record.specs.States.{state_number, is_waiting, is_open}
use Rattle.rules_record.specs.Inputs.{slot_at}
use Rattle.rules_record.specs.Commands.{Done, quiet}
use Rattle.rules_record.specs.Prune.{pruned}
use Rattle.rules_record.specs.Lent.{Lists, window_of}
use Rattle.rules_record.specs.Effects.{followed_by}
use Rattle.rules_record.specs.Reply.{Reply}
use Rattle.rules_record.specs.Facts.{Checked}
use Rattle.rules_record.proofs.Tables.{mark_keeps}
use Rattle.rules_record.proofs.Pruned.{prune_keeps}
use Rattle.rules_routing.proofs.TryOpenKeeps.{waiting_keeps}
use Rattle.rules_routing.proofs.WatchKeeps.{watch_keeps}
use Rattle.rules_tick.specs.Lags.{arrived, largest_of}
use Rattle.rules_tick.proofs.LagsKeep.{arrived_keeps, arrived_raised, arrived_settings}
use Rattle.rules_tick.proofs.LateKeeps.{late_keeps}
use Rattle.rules_tick.proofs.AutoDelayKeeps.{auto_keeps}
use Rattle.rules_tick.proofs.Readiness.{ready_of}
use Rattle.rules_tick.specs.declared.Look.{Look}
use Rattle.rules_tick.specs.Looks.{look_at, lags_of}
use Rattle.rules_tick.specs.TickChecks.{tick_number}
use Rattle.rules_tick.specs.Tick.{heard, looked, ticked_input, ticked_all, ticked_below, lastly, ticked}
use Rattle.rules_tick.specs.TickReply.{tick_reply}
use Rattle.rules_tick.proofs.TickFrames.{heard_settings, between_settings, turn, below_settings, below_slots, turn_room, turns}
use Rattle.rules_tick.proofs.TickCounters.{heard_raised, between_raised}
use Rattle.rules_tick.proofs.TickAccepted.{Accepted, tick_accepted, accepted_room}
use Rattle.rules_tick.proofs.TickSteps.{lagged_inputs, heard_inputs, heard_lists, looked_inputs}

-- one more of each counter is below 2^63: then a tick, which raises each by at most one, keeps "counters below 2^63"
pub record MayCount (slot : Slot) : Type 0 where
  pub reopens : slot.reopens + 1 < counter_limit
  pub changes : slot.delay_changes + 1 < counter_limit
  pub lates : slot.late_events + 1 < counter_limit

-- ---- one input
pub looked_keeps : (i : ℕ) (look : Look) (time : ℕ) (s : Inputs) (l : Lists) → Checked s l → i < s.count → time ≤ time_limit → (slot_at s i).reopens + 1 < counter_limit
    → Checked (looked i look time s).inputs l
unfolding looked quiet
looked_keeps i look time s l c h soon few =
    pick_rule (λ (done : Done). Checked done.inputs l) (is_waiting (slot_at s i).state) _ _
    (λ waits. waiting_keeps l i time soon s look.world c h (eqb-true (state_number (slot_at s i).state) 1 waits))
    (λ other. pick_all (λ (done : Done). Checked done.inputs l) (is_open (slot_at s i).state) (watch_keeps s l i time look.world c h soon few look.seen) c)

module _ (i : ℕ) (look : Look) (lags : List ℕ) (time : ℕ) (s : Inputs) (l : Lists) (c : Checked s l) (h : i < s.count) (soon : time ≤ time_limit)
    (room : room_for time (length lags) (window_of s l i) ≡ true) (few : MayCount (slot_at s i)) where
  low : i < 16
  low = omega (arith, c.fitting.allowed.most)

  pub heard_keeps : Checked (heard_inputs i look lags time s l) (heard_lists i look lags time s l)
  unfolding heard followed_by
  heard_keeps =
      late_keeps i look.applied (largest_of lags) (lagged_inputs i look lags time s l) (arrived i time lags s l).lists (arrived_keeps i time lags s l c h soon room)
      (subst (λ (x : Inputs). i < x.count) (sym (arrived_settings i time lags s l)) h)
      (omega (arith, (arrived_raised i time lags s l low c.sized.slots).lates, few.lates))

  between_keeps : Checked (looked_inputs i look lags time s l) (heard_lists i look lags time s l)
  between_keeps =
      looked_keeps i look time (heard_inputs i look lags time s l) (heard_lists i look lags time s l) heard_keeps (subst (λ (x : Inputs). i < x.count) (sym (heard_settings i look lags time s l)) h) soon
      (omega (arith, (heard_raised i look lags time s l low c.sized).reopens, few.reopens))

  pub input_keeps : Checked (ticked_input i look lags time s l).inputs (ticked_input i look lags time s l).lists
  unfolding ticked_input followed_by
  input_keeps =
      auto_keeps i (largest_of lags) time (looked_inputs i look lags time s l) (heard_lists i look lags time s l) between_keeps (subst (λ (x : Inputs). i < x.count) (sym (between_settings i look lags time s l)) h) soon
      (omega (arith, (between_raised i look lags time s l low c.sized).changes, few.changes))

-- ---- "Last, prune; the unsaved mark is .. cleared"
pub lastly_keeps : (s : Inputs) (l : Lists) → Checked s l → Checked (lastly s) l
lastly_keeps s l c = mark_keeps (pruned s None) l (prune_keeps s l c None) _

-- ---- all inputs
module _ (looks : List Look) (lags : List ℕ) (time : ℕ) (s : Inputs) (l : Lists) (c : Checked s l) (a : Accepted s l looks lags time) (few : (j : ℕ) → j < s.count → MayCount (slot_at s j)) where
  abbrev at : ℕ → Inputs
  at n = (turn looks lags time s l n).inputs

  abbrev lists : ℕ → Lists
  lists n = (turn looks lags time s l n).lists

  -- room for the lags of input n still holds when its turn comes
  room_left : (n : ℕ) → n < s.count → room_for time (length (lags_of looks lags n)) (window_of (at n) (lists n) n) ≡ true
  room_left n h =
      turn_room looks lags time s l c.fitting c.sized a.timely (ready_of s l c) (accepted_room s l looks lags time a) n
      (turns looks lags time s l c.fitting c.sized a.timely (ready_of s l c) (accepted_room s l looks lags time a) n (omega arith)) h

  -- .. and its counters may be raised
  few_left : (n : ℕ) → n < s.count → MayCount (slot_at (at n) n)
  few_left n h = subst MayCount (sym (below_slots looks lags time s l n n (omega arith))) (few n h)

  pub turn_keeps : (n : ℕ) → n ≤ s.count → Checked (at n) (lists n)
  unfolding ticked_below followed_by
  turn_keeps zero h = c
  turn_keeps (suc n) h =
      input_keeps n (look_at looks n) (lags_of looks lags n) time (at n) (lists n) (turn_keeps n (omega arith))
      (subst (λ (x : Inputs). n < x.count) (sym (below_settings looks lags time s l n)) h) a.timely (room_left n h) (few_left n h)

  pub ticked_keeps : Checked (ticked looks lags time s l).inputs (ticked looks lags time s l).lists
  unfolding ticked ticked_all
  ticked_keeps = lastly_keeps (at s.count) (lists s.count) (turn_keeps s.count (omega arith))

-- ---- the call, accepted or refused

pub tick_keeps : (s : Inputs) (l : Lists) (commands : List ℕ) (looks : List Look) (lags : List ℕ) (time : ℕ) → Checked s l → ((j : ℕ) → j < s.count → MayCount (slot_at s j))
    → Checked (tick_reply s l commands looks lags time).inputs (tick_reply s l commands looks lags time).lists
unfolding tick_reply
tick_keeps s l commands looks lags time c few =
    accepted_all (λ (reply : Reply). Checked reply.inputs reply.lists) (tick_number s l (length commands) looks lags time) _ _ c
    (λ e. ticked_keeps looks lags time s l c (tick_accepted s l (length commands) looks lags time e) few)
