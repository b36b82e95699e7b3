-- What an accepted tick makes of each input, as events of its history. Assumes nothing.
use Rattle.std.specs.Prelude.{None}
use Prim.Native.Nat.{ℕ, ◌<◌}
use mathlib.Core.Bool.{true, false}
use mathlib.Core.Path.{◌≡◌, sym, ap, ◌∙◌}
use mathlib.Core.List.{List}
use native.Mathlib.Omega.{arith}
use lib.ListN.{length}
use Rattle.rules_window.specs.Checks.{room_for}
use Rattle.rules_record.specs.declared.Slot.{Slot}
use Rattle.rules_record.specs.declared.Inputs.{Inputs}
use Rattle.rules_record.specs.States.{is_running}
use Rattle.rules_record.specs.Inputs.{slot_at}
use Rattle.rules_record.specs.Sized.{Sized}
use Rattle.rules_record.specs.Lent.{Lists, window_of}
use Rattle.rules_record.specs.Effects.{Effect}
use Rattle.rules_record.specs.Facts.{Checked}
use Rattle.rules_tick.specs.AutoDelay.{goes_on}
use Rattle.rules_tick.specs.InputReady.{Ready}
use Rattle.rules_tick.proofs.Readiness.{ready_low, ready_of}
use Rattle.rules_tick.specs.declared.Look.{Look}
use Rattle.rules_tick.specs.Looks.{look_at, lags_of}
use Rattle.rules_tick.specs.TickChecks.{tick_number}
use Rattle.rules_tick.specs.Tick.{ticked_input, ticked}
use Rattle.rules_tick.proofs.TickSame.{SameInput}
use Rattle.rules_tick.proofs.TickFrames.{turn, turn_inputs, turn_lists, below_settings, below_sized, turn_ready, turn_room, Turn, turns, ticked_input_law}
use Rattle.rules_tick.proofs.TickAccepted.{Accepted, tick_accepted, accepted_room}
use Rattle.history.specs.View.{Tick, tick_of}
use Rattle.third_demand.proofs.Lifted.{view_of, TickLifted}
use Rattle.third_demand.proofs.Ends.{lifted_as}
use Rattle.third_demand.proofs.InputViews.{input_config, input_lifted}

-- an input that stays, with its lists, has the same view
view_same : (s z : Inputs) (l m : Lists) (i : ℕ) → SameInput s l z m i → view_of z m i ≡ view_of s l i
view_same s z l m i same = λ t. record { window = same.window t; held = same.held t; delay = (same.slot t).delay }

module _ (s : Inputs) (l : Lists) (words : ℕ) (looks : List Look) (lags : List ℕ) (time i : ℕ) (sized : Sized s) (c : Checked s l) (passed : tick_number s l words looks lags time ≡ 0) where
  abbrev tick : Tick
  tick = tick_of time (lags_of looks lags i)

  -- the record and the lists when the turn of input i comes, and after it
  abbrev at : Inputs
  at = (turn looks lags time s l i).inputs

  abbrev lists : Lists
  lists = (turn looks lags time s l i).lists

  abbrev own : Effect
  own = ticked_input i (look_at looks i) (lags_of looks lags i) time at lists

  -- what the whole tick leaves
  abbrev after : Inputs
  after = (ticked looks lags time s l).inputs

  abbrev left : Lists
  left = (ticked looks lags time s l).lists

  facts : Accepted s l looks lags time
  facts = tick_accepted s l words looks lags time passed

  room : (j : ℕ) → j < s.count → room_for time (length (lags_of looks lags j)) (window_of s l j) ≡ true
  room = accepted_room s l looks lags time facts

  module _ (h : i < s.count) where
    turned : Turn looks lags time s l c.fitting sized facts.timely (ready_of s l c) room i
    turned = turns looks lags time s l c.fitting sized facts.timely (ready_of s l c) room i (omega arith)

    ready : Ready at lists i
    ready = turn_ready looks lags time s l c.fitting sized facts.timely (ready_of s l c) room i turned h

    at_sized : Sized at
    at_sized = below_sized looks lags time s l i sized

    -- the inputs before it leave it as it was
    same_before : SameInput s l at lists i
    same_before = turned.same i (omega arith) h

    -- .. and so do those after it, and the prune
    same_after : SameInput own.inputs own.lists after left i
    same_after =
        coe 0 1 (k. SameInput (turn_inputs looks lags time s l i k) (turn_lists looks lags time s l i k) after left i)
        (ticked_input_law looks lags time s l c.fitting sized facts.timely (ready_of s l c) room i h)

    pub tick_config : (slot_at after i).config ≡ (slot_at s i).config
    tick_config =
        ap (λ (x : Slot). x.config) same_after.slot
        ∙ input_config i (look_at looks i) (lags_of looks lags i) time at lists (ready_low at lists i ready) at_sized
        ∙ ap (λ (x : Slot). x.config) same_before.slot

    module _ (off : s.confirm ≡ false) where
      module _ (none : (slot_at s i).proposed ≡ None) where
        turn_lifted : TickLifted at.policy tick (is_running (slot_at at i).state) (goes_on (slot_at own.inputs i)) (view_of at lists i) (view_of own.inputs own.lists i)
        turn_lifted =
            input_lifted i (look_at looks i) (lags_of looks lags i) time at lists ready at_sized facts.timely
            (turn_room looks lags time s l c.fitting sized facts.timely (ready_of s l c) room i turned h)
            (ap (λ (x : Inputs). x.confirm) (below_settings looks lags time s l i) ∙ off)
            (ap (λ (x : Slot). x.proposed) same_before.slot ∙ none)

        own_lifted : TickLifted s.policy tick (is_running (slot_at s i).state) (goes_on (slot_at after i)) (view_of s l i) (view_of after left i)
        own_lifted =
            lifted_as
            (ap (λ (x : Inputs). x.policy) (below_settings looks lags time s l i))
            (ap (λ (x : Slot). is_running x.state) same_before.slot)
            (sym (ap goes_on same_after.slot))
            (view_same s at l lists i same_before)
            (sym (view_same own.inputs after own.lists left i same_after))
            turn_lifted

-- an accepted tick, without confirmation: input i is seeded, at most, and then its lags are an event
pub tick_lifted : (s : Inputs) (l : Lists) (words : ℕ) (looks : List Look) (lags : List ℕ) (time i : ℕ) → Sized s → Checked s l → tick_number s l words looks lags time ≡ 0 → s.confirm ≡ false
    → (slot_at s i).proposed ≡ None → i < s.count
    → TickLifted s.policy (tick_of time (lags_of looks lags i)) (is_running (slot_at s i).state) (goes_on (slot_at (ticked looks lags time s l).inputs i)) (view_of s l i)
    (view_of (ticked looks lags time s l).inputs (ticked looks lags time s l).lists i)
tick_lifted s l words looks lags time i sized c passed off none h = own_lifted s l words looks lags time i sized c passed h off none
