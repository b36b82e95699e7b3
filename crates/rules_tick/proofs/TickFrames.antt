-- What the tick of one input, of the first inputs and of all leaves as it was: the settings, the other inputs, the lengths. Assumes nothing.
use Rattle.std.specs.Prelude.{None, Option}
use Prim.Native.Nat.{ℕ, zero, suc, ◌<◌, ◌≤◌}
use mathlib.Core.Bool.{true}
use mathlib.Core.Path.{◌≡◌, refl, sym, ap, subst, ◌∙◌}
use mathlib.Core.List.{List}
use mathlib.Core.Logic.{⊎_elim}
use native.Mathlib.Nat.{eq-or-lt_of_le, le_of_suc-le-suc}
use native.Mathlib.Omega.{arith}
use lib.ListN.{length}
use Rattle.base.specs.Limits.{time_limit}
use Rattle.base.proofs.Choices.{accepted_all}
use Rattle.rules_window.specs.Window.{Window}
use Rattle.rules_window.specs.Checks.{room_for}
use Rattle.rules_record.specs.declared.Inputs.{Inputs}
use Rattle.rules_record.specs.Inputs.{slot_at, with_flows, with_instances}
use Rattle.rules_record.proofs.Sized.{sized_put}
use Rattle.rules_record.specs.Sized.{Sized}
use Rattle.rules_record.specs.Commands.{quiet, send_first}
use Rattle.rules_record.specs.Prune.{pruned}
use Rattle.rules_record.proofs.InstanceKeys.{pruned_rest, pruned_sized}
use Rattle.rules_routing.specs.SetDelay.{set_delay_of}
use Rattle.rules_routing.proofs.SetDelayStored.{stored_sized}
use Rattle.rules_record.specs.Lent.{Lists, buckets_in, window_of, sums_of, held_of}
use Rattle.rules_record.specs.Checks.{Long, Fitting}
use Rattle.rules_record.specs.Reply.{Reply}
use Rattle.rules_record.specs.Effects.{Effect, silent, followed_by}
use Rattle.rules_record.proofs.Beside.{Beside, beside_then}
use Rattle.rules_routing.proofs.SettingsKept.{SameSettings, settings_then}
use Rattle.rules_tick.specs.Lags.{arrived, largest_of}
use Rattle.rules_tick.specs.LateEvents.{late_event}
use Rattle.rules_tick.specs.AutoDelay.{auto_delayed}
use Rattle.rules_tick.specs.InputReady.{Ready}
use Rattle.rules_tick.proofs.LagsKeep.{arrived_settings, arrived_other, arrived_beside, arrived_ready}
use Rattle.rules_tick.proofs.LateKeeps.{late_settings, late_other, late_ready}
use Rattle.rules_tick.proofs.AutoDelayKeeps.{auto_rule, auto_settings, auto_other, auto_beside}
use Rattle.rules_tick.specs.declared.Look.{Look}
use Rattle.rules_tick.specs.Looks.{look_at, lags_of}
use Rattle.rules_tick.specs.TickChecks.{tick_number}
use Rattle.rules_tick.specs.Tick.{heard, ticked_input, ticked_below, ticked_all, lastly, ticked}
use Rattle.rules_tick.specs.TickReply.{tick_reply}
use Rattle.rules_tick.proofs.TickSame.{SameInput, same_none, same_then, beside_under, beside_over, same_beside, ready_same}
use Rattle.rules_tick.proofs.Looking.{looked_leaves, looked_ready}
use Rattle.rules_tick.proofs.Looked.{looked_settings}
use Rattle.rules_tick.proofs.TickSteps.{lagged_inputs, heard_inputs, heard_lists, looked_inputs}

-- ---- the steps of one input
auto_sized : (i : ℕ) (largest : Option ℕ) (time : ℕ) (s : Inputs) (l : Lists) → Sized s → Sized (auto_delayed i largest time s l).inputs
unfolding set_delay_of send_first quiet
auto_sized i largest time s l h =
    auto_rule i largest time s l (λ effect. Sized effect.inputs)
    (λ e. sized_put s i _ h)
    (λ e. h)
    (λ on e. sized_put s i _ h)
    (λ on delay e g. sized_put s i _ h)
    (λ on delay e g. stored_sized _ i delay time (sized_put s i _ h))

module _ (i : ℕ) (look : Look) (lags : List ℕ) (time : ℕ) (s : Inputs) (l : Lists) where
  pub heard_settings : SameSettings s (heard i look lags time s l).inputs
  unfolding heard followed_by
  heard_settings =
      settings_then s (lagged_inputs i look lags time s l) (late_event i look.applied (largest_of lags) (lagged_inputs i look lags time s l)) (arrived_settings i time lags s l) (late_settings i look.applied (largest_of lags) (lagged_inputs i look lags time s l))

  pub heard_other : (j : ℕ) → (j ≡ i → ⊥) → slot_at (heard i look lags time s l).inputs j ≡ slot_at s j
  unfolding heard followed_by
  heard_other j apart = late_other i look.applied (largest_of lags) (lagged_inputs i look lags time s l) j apart ∙ arrived_other i time lags s l j apart

  pub arrived_sized : Sized s → Sized (lagged_inputs i look lags time s l)
  unfolding arrived
  arrived_sized h = sized_put s i _ h

  pub heard_sized : Sized s → Sized (heard i look lags time s l).inputs
  unfolding heard followed_by late_event
  heard_sized h = sized_put (lagged_inputs i look lags time s l) i _ (arrived_sized h)

  pub between_settings : SameSettings s (looked_inputs i look lags time s l)
  between_settings = settings_then s (heard_inputs i look lags time s l) (looked_inputs i look lags time s l) heard_settings (looked_settings i look time (heard_inputs i look lags time s l))

  pub between_sized : Sized s → Sized (looked_inputs i look lags time s l)
  between_sized h = (looked_leaves i look time (heard_inputs i look lags time s l)).sized (heard_sized h)

  -- ---- one input
  pub input_settings : SameSettings s (ticked_input i look lags time s l).inputs
  unfolding ticked_input followed_by
  input_settings = settings_then s (looked_inputs i look lags time s l) (auto_delayed i (largest_of lags) time (looked_inputs i look lags time s l) (heard_lists i look lags time s l)).inputs between_settings (auto_settings i (largest_of lags) time (looked_inputs i look lags time s l) (heard_lists i look lags time s l))

  pub input_other : (j : ℕ) → (j ≡ i → ⊥) → slot_at (ticked_input i look lags time s l).inputs j ≡ slot_at s j
  unfolding ticked_input followed_by
  input_other j apart = auto_other i (largest_of lags) time (looked_inputs i look lags time s l) (heard_lists i look lags time s l) j apart ∙ (looked_leaves i look time (heard_inputs i look lags time s l)).others j apart ∙ heard_other j apart

  pub input_sized : Sized s → Sized (ticked_input i look lags time s l).inputs
  unfolding ticked_input followed_by
  input_sized h = auto_sized i (largest_of lags) time (looked_inputs i look lags time s l) (heard_lists i look lags time s l) (between_sized h)

  module _ (r : Ready s l i) (sized : Sized s) (soon : time ≤ time_limit) (room : room_for time (length lags) (window_of s l i) ≡ true) where
    -- the input stays ready up to `auto_delay`, even where a counter was raised to 2^63
    pub heard_ready : Ready (heard_inputs i look lags time s l) (heard_lists i look lags time s l) i
    unfolding heard followed_by
    heard_ready =
        late_ready i look.applied (largest_of lags) (lagged_inputs i look lags time s l) (arrived i time lags s l).lists (arrived_ready i time lags s l r soon room sized.slots) (arrived_sized sized).slots

    pub between_ready : Ready (looked_inputs i look lags time s l) (heard_lists i look lags time s l) i
    between_ready = looked_ready (heard_inputs i look lags time s l) (heard_lists i look lags time s l) i heard_ready time soon (heard_sized sized) look

    pub heard_beside : Beside s.count (buckets_in s) i l (heard_lists i look lags time s l)
    unfolding heard followed_by
    heard_beside = arrived_beside i time lags s l r soon room

    pub input_beside : Beside s.count (buckets_in s) i l (ticked_input i look lags time s l).lists
    unfolding ticked_input followed_by
    input_beside =
        beside_then s.count (buckets_in s) i l (heard_lists i look lags time s l) (auto_delayed i (largest_of lags) time (looked_inputs i look lags time s l) (heard_lists i look lags time s l)).lists heard_beside
        (beside_under s (looked_inputs i look lags time s l) between_settings i (heard_lists i look lags time s l) (auto_delayed i (largest_of lags) time (looked_inputs i look lags time s l) (heard_lists i look lags time s l)).lists (auto_beside i (largest_of lags) time (looked_inputs i look lags time s l) (heard_lists i look lags time s l) between_ready soon))

    pub input_same : (j : ℕ) → j < s.count → (j ≡ i → ⊥) → SameInput s l (ticked_input i look lags time s l).inputs (ticked_input i look lags time s l).lists j
    input_same j h apart = same_beside s (ticked_input i look lags time s l).inputs input_settings l (ticked_input i look lags time s l).lists i j input_beside h apart (input_other j apart)

-- ---- the first n inputs
module _ (looks : List Look) (lags : List ℕ) (time : ℕ) (s : Inputs) (l : Lists) where
  -- the record and the lists when the turn of input n comes
  abbrev pub turn : ℕ → Effect
  turn n = ticked_below n looks lags time s l

  pub turn_none : turn 0 ≡ silent s l
  unfolding ticked_below
  turn_none = refl

  pub turn_inputs : (n : ℕ) → (turn (suc n)).inputs ≡ (ticked_input n (look_at looks n) (lags_of looks lags n) time (turn n).inputs (turn n).lists).inputs
  unfolding ticked_below followed_by
  turn_inputs n = refl

  pub turn_lists : (n : ℕ) → (turn (suc n)).lists ≡ (ticked_input n (look_at looks n) (lags_of looks lags n) time (turn n).inputs (turn n).lists).lists
  unfolding ticked_below followed_by
  turn_lists n = refl

  pub below_settings : (n : ℕ) → SameSettings s (turn n).inputs
  unfolding ticked_below followed_by
  below_settings zero = refl
  below_settings (suc n) =
      settings_then s (turn n).inputs (turn (suc n)).inputs (below_settings n) (input_settings n (look_at looks n) (lags_of looks lags n) time (turn n).inputs (turn n).lists)

  pub below_sized : (n : ℕ) → Sized s → Sized (turn n).inputs
  unfolding ticked_below followed_by
  below_sized zero h = h
  below_sized (suc n) h = input_sized n (look_at looks n) (lags_of looks lags n) time (turn n).inputs (turn n).lists (below_sized n h)

  -- the slots of the inputs from n on stay
  pub below_slots : (n j : ℕ) → n ≤ j → slot_at (turn n).inputs j ≡ slot_at s j
  unfolding ticked_below followed_by
  below_slots zero j h = refl
  below_slots (suc n) j h = input_other n (look_at looks n) (lags_of looks lags n) time (turn n).inputs (turn n).lists j (λ e. omega arith) ∙ below_slots n j (omega arith)

  -- the inputs after j leave its slot
  pub later_slots : (n j : ℕ) → j < n → slot_at (turn n).inputs j ≡ slot_at (turn (suc j)).inputs j
  later_slots zero j h = absurd (omega arith)
  later_slots (suc n) j h = ⊎_elim (λ e. ap (λ (k : ℕ). slot_at (turn (suc k)).inputs j) (sym e)) (λ k. after k (later_slots n j k)) (eq-or-lt_of_le (le_of_suc-le-suc h))
    where
      after : j < n → slot_at (turn n).inputs j ≡ slot_at (turn (suc j)).inputs j → slot_at (turn (suc n)).inputs j ≡ slot_at (turn (suc j)).inputs j
      after k same =
          ap (λ (z : Inputs). slot_at z j) (turn_inputs n)
          ∙ input_other n (look_at looks n) (lags_of looks lags n) time (turn n).inputs (turn n).lists j (λ e. omega arith)
          ∙ same

  -- ---- with their lists
  module _ (f : Fitting s l) (sized : Sized s) (soon : time ≤ time_limit) (ready : (j : ℕ) → j < s.count → Ready s l j)
      (room : (j : ℕ) → j < s.count → room_for time (length (lags_of looks lags j)) (window_of s l j) ≡ true) where
    -- what is known when the turn of input n comes: the lists have their lengths, and the inputs from n on are as they were
    pub record Turn (n : ℕ) : Type 0 where
      pub long : Long s.count (buckets_in s) (turn n).lists
      pub same : (j : ℕ) → n ≤ j → j < s.count → SameInput s l (turn n).inputs (turn n).lists j

    module _ (n : ℕ) (t : Turn n) (h : n < s.count) where
      pub turn_ready : Ready (turn n).inputs (turn n).lists n
      turn_ready = ready_same s (turn n).inputs (below_settings n) l (turn n).lists n t.long (t.same n (omega arith) h) (ready n h)

      -- room for its lags: its window is as it was
      pub turn_room : room_for time (length (lags_of looks lags n)) (window_of (turn n).inputs (turn n).lists n) ≡ true
      turn_room = ap (λ (w : Window). room_for time (length (lags_of looks lags n)) w) (t.same n (omega arith) h).window ∙ room n h

      turn_beside : Beside s.count (buckets_in s) n (turn n).lists (turn (suc n)).lists
      turn_beside =
          subst (λ (m : Lists). Beside s.count (buckets_in s) n (turn n).lists m) (sym (turn_lists n))
          (beside_under s (turn n).inputs (below_settings n) n (turn n).lists _
          (input_beside n (look_at looks n) (lags_of looks lags n) time (turn n).inputs (turn n).lists turn_ready (below_sized n sized) soon turn_room))

      turn_settings : SameSettings (turn n).inputs (turn (suc n)).inputs
      turn_settings = subst (SameSettings (turn n).inputs) (sym (turn_inputs n)) (input_settings n (look_at looks n) (lags_of looks lags n) time (turn n).inputs (turn n).lists)

      -- its tick leaves every other input
      pub turn_same : (j : ℕ) → j < s.count → (j ≡ n → ⊥) → SameInput (turn n).inputs (turn n).lists (turn (suc n)).inputs (turn (suc n)).lists j
      turn_same j g apart =
          same_beside (turn n).inputs (turn (suc n)).inputs turn_settings (turn n).lists (turn (suc n)).lists n j
          (beside_over s (turn n).inputs (below_settings n) n (turn n).lists (turn (suc n)).lists turn_beside)
          (subst (λ (x : Inputs). j < x.count) (sym (below_settings n)) g) apart
          (ap (λ (z : Inputs). slot_at z j) (turn_inputs n) ∙ input_other n (look_at looks n) (lags_of looks lags n) time (turn n).inputs (turn n).lists j apart)

      turn_next : Turn (suc n)
      turn_next = record {
        long = turn_beside.long;
        same = λ j below g. same_then s l (turn n).inputs (turn n).lists (turn (suc n)).inputs (turn (suc n)).lists j (t.same j (omega arith) g) (turn_same j g (λ e. omega arith));
      }

    pub turns : (n : ℕ) → n ≤ s.count → Turn n
    unfolding ticked_below
    turns zero h = record { long = f.long; same = λ j below g. same_none s l j }
    turns (suc n) h = turn_next n (turns n (omega arith)) h

    -- the inputs after j leave it with its lists
    pub later_same : (n j : ℕ) → n ≤ s.count → j < n → SameInput (turn (suc j)).inputs (turn (suc j)).lists (turn n).inputs (turn n).lists j
    later_same zero j h g = absurd (omega arith)
    later_same (suc n) j h g =
        ⊎_elim
        (λ e. subst (λ (k : ℕ). SameInput (turn (suc j)).inputs (turn (suc j)).lists (turn (suc k)).inputs (turn (suc k)).lists j) e (same_none (turn (suc j)).inputs (turn (suc j)).lists j))
        (λ k.
        same_then (turn (suc j)).inputs (turn (suc j)).lists (turn n).inputs (turn n).lists (turn (suc n)).inputs (turn (suc n)).lists j (later_same n j (omega arith) k)
        (turn_same n (turns n (omega arith)) h j (omega arith) (λ e. omega arith)))
        (eq-or-lt_of_le (le_of_suc-le-suc g))

-- ---- "Last, prune; the unsaved mark is .. cleared"
module _ (s : Inputs) where
  lastly_is : lastly s ≡ with_flows (with_instances s (pruned s None).instances (pruned s None).instance_count) (lastly s).flows (lastly s).flow_count (lastly s).unsaved
  lastly_is = ap (λ (z : Inputs). with_flows z (lastly s).flows (lastly s).flow_count (lastly s).unsaved) (pruned_rest s None)

  pub lastly_slots : (j : ℕ) → slot_at (lastly s) j ≡ slot_at s j
  unfolding slot_at
  lastly_slots j = ap (λ (z : Inputs). slot_at z j) lastly_is

  pub lastly_settings : SameSettings s (lastly s)
  lastly_settings = subst (SameSettings s) (sym lastly_is) refl

  pub lastly_sized : Sized s → Sized (lastly s)
  lastly_sized h = let w : Sized (pruned s None) = pruned_sized s None h in record { slots = w.slots; flows = w.flows; instances = w.instances }

  pub lastly_same : (l : Lists) (j : ℕ) → SameInput s l (lastly s) l j
  unfolding buckets_in slot_at
  lastly_same l j = record {
    slot = lastly_slots j;
    window = ap (λ (z : Inputs). window_of z l j) lastly_is;
    sums = ap (λ (z : Inputs). sums_of z l j) lastly_is;
    held = ap (λ (z : Inputs). held_of z l j) lastly_is;
  }

-- ---- the whole tick
module _ (looks : List Look) (lags : List ℕ) (time : ℕ) (s : Inputs) (l : Lists) where
  abbrev after : Inputs
  after = (ticked looks lags time s l).inputs

  abbrev all : Effect
  all = ticked_below s.count looks lags time s l

  pub ticked_settings : SameSettings s after
  unfolding ticked ticked_all
  ticked_settings = settings_then s all.inputs (lastly all.inputs) (below_settings looks lags time s l s.count) (lastly_settings all.inputs)

  pub ticked_sized : Sized s → Sized after
  unfolding ticked ticked_all
  ticked_sized h = lastly_sized all.inputs (below_sized looks lags time s l s.count h)

  -- a slot that is no input's stays
  pub ticked_past : (j : ℕ) → s.count ≤ j → slot_at after j ≡ slot_at s j
  unfolding ticked ticked_all
  ticked_past j h = lastly_slots all.inputs j ∙ below_slots looks lags time s l s.count j h

  -- the slot of input j is what its own tick leaves
  pub ticked_slot : (j : ℕ) → j < s.count
      → slot_at after j ≡ slot_at (ticked_input j (look_at looks j) (lags_of looks lags j) time (turn looks lags time s l j).inputs (turn looks lags time s l j).lists).inputs j
  unfolding ticked ticked_all
  ticked_slot j h = lastly_slots all.inputs j ∙ later_slots looks lags time s l s.count j h ∙ ap (λ (z : Inputs). slot_at z j) (turn_inputs looks lags time s l j)

  -- .. and so are its window and its hold
  module _ (f : Fitting s l) (sized : Sized s) (soon : time ≤ time_limit) (ready : (j : ℕ) → j < s.count → Ready s l j)
      (room : (j : ℕ) → j < s.count → room_for time (length (lags_of looks lags j)) (window_of s l j) ≡ true) where
    pub ticked_input_law : (j : ℕ) → j < s.count
        → SameInput (turn looks lags time s l (suc j)).inputs (turn looks lags time s l (suc j)).lists after (ticked looks lags time s l).lists j
    unfolding ticked ticked_all
    ticked_input_law j h =
        same_then (turn looks lags time s l (suc j)).inputs (turn looks lags time s l (suc j)).lists all.inputs all.lists (lastly all.inputs) all.lists j
        (later_same looks lags time s l f sized soon ready room s.count j (omega arith) h)
        (lastly_same all.inputs all.lists j)

-- ---- the call, accepted or refused: "All calls keep the settings of `new`"
module _ (s : Inputs) (l : Lists) (commands : List ℕ) (looks : List Look) (lags : List ℕ) (time : ℕ) where
  pub tick_settings : SameSettings s (tick_reply s l commands looks lags time).inputs
  unfolding tick_reply
  tick_settings =
      accepted_all (λ (reply : Reply). SameSettings s reply.inputs) (tick_number s l (length commands) looks lags time) _ _ refl
      (λ e. ticked_settings looks lags time s l)

  pub tick_sized : Sized s → Sized (tick_reply s l commands looks lags time).inputs
  unfolding tick_reply
  tick_sized h =
      accepted_all (λ (reply : Reply). Sized reply.inputs) (tick_number s l (length commands) looks lags time) _ _ h
      (λ e. ticked_sized looks lags time s l h)
