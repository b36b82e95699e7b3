-- The inputs in order, as the loop goes: one turn is one step more. Assumes nothing.
use Prim.Native.Nat.{ℕ, ◌+◌, ◌*◌, ◌<◌, ◌≤◌}
use mathlib.Core.Bool.{true}
use mathlib.Core.Path.{◌≡◌, refl, sym, ap, subst, ◌∙◌}
use mathlib.Core.List.{List}
use native.Mathlib.Numerals.{add-one}
use native.Mathlib.Omega.{arith}
use lib.ListN.{length}
use Rattle.base.specs.Lists.{part, sum}
use Rattle.base.specs.Limits.{counter_limit}
use Rattle.rules_window.specs.Window.{Window}
use Rattle.rules_window.specs.Checks.{room_for}
use Rattle.rules_record.specs.Commands.{Sent}
use Rattle.rules_record.specs.declared.Slot.{Slot}
use Rattle.rules_record.specs.declared.Inputs.{Inputs}
use Rattle.rules_record.specs.Sized.{Sized}
use Rattle.rules_record.specs.Lent.{Lists, buckets_in, window_of}
use Rattle.rules_record.specs.Checks.{Long}
use Rattle.rules_record.specs.Effects.{Effected}
use Rattle.rules_record.proofs.Effects.{effected_silent}
use Rattle.rules_routing.proofs.SettingsKept.{SameSettings}
use Rattle.rules_tick.specs.declared.Look.{Look}
use Rattle.rules_tick.specs.Looks.{look_at, lags_before, lags_of}
use Rattle.rules_tick.specs.Tick.{ticked_input, ticked_below}
use Rattle.rules_tick.specs.TickAsked.{InputAsked, InputsAsked}
use Rattle.rules_tick.proofs.Following.{effected_then}
use Rattle.rules_tick.proofs.TickSame.{SameInput, ready_same}
use Rattle.rules_tick.proofs.TickFrames.{input_settings, input_sized, input_beside, input_same}
use Rattle.rules_tick.proofs.TickAccepted.{before_more, before_within, lags_long}

-- an input that stays may be asked as before
pub asked_same : (s z : Inputs) (l m : Lists) (j : ℕ) → SameSettings s z → Long s.count (buckets_in s) m → SameInput s l z m j → {look : Look} {lags time : ℕ} → InputAsked s l j look lags time → InputAsked z m j look lags time
asked_same s z l m j settings long same {look} {lags} {time} a = record {
  ready = ready_same s z settings l m j long same a.ready;
  room = ap (λ (w : Window). room_for time lags w) same.window ∙ a.room;
  applied = subst (λ (x : Inputs). look.applied ≤ x.policy.delay_max) (sym settings) a.applied;
  reopens = subst (λ (x : Slot). x.reopens < counter_limit) (sym same.slot) a.reopens;
  changes = subst (λ (x : Slot). x.delay_changes < counter_limit) (sym same.slot) a.changes;
  lates = subst (λ (x : Slot). x.late_events < counter_limit) (sym same.slot) a.lates;
}

-- ---- the loop
-- after i turns the record, the lists and the commands are those of the first i inputs; the others are still to be asked
pub record Turn (looks : List Look) (lags : List ℕ) (time : ℕ) (s₀ : Inputs) (l₀ : Lists) (c₀ : List ℕ) (u₀ i : ℕ) (s : Inputs) (l : Lists) (c : List ℕ) (used from : ℕ) : Type 0 where
  pub within : i ≤ s₀.count
  pub effected : Effected (i * 9) (ticked_below i looks lags time s₀ l₀) (record { inputs = s; used = used }) l c₀ c u₀
  pub from_is : from ≡ lags_before looks i
  pub sized : Sized s
  pub count : s.count ≡ s₀.count
  pub later : (j : ℕ) → i ≤ j → j < s₀.count → InputAsked s l j (look_at looks j) (look_at looks j).lags time
  pub commands : length c ≡ length c₀

module _ (looks : List Look) (lags : List ℕ) (time : ℕ) (s₀ : Inputs) (l₀ : Lists) (c₀ : List ℕ) (u₀ : ℕ) (asked : InputsAsked s₀ l₀ looks lags time) where
  pub turn_none : Turn looks lags time s₀ l₀ c₀ u₀ 0 s₀ l₀ c₀ u₀ 0
  unfolding ticked_below lags_before sum
  turn_none = record {
    within = omega arith;
    effected = effected_silent refl refl;
    from_is = refl;
    sized = asked.sized;
    count = refl;
    later = λ j h g. asked.inputs j g;
    commands = refl;
  }

  module _ (i : ℕ) {s : Inputs} {l : Lists} {c : List ℕ} {used from : ℕ} (turn : Turn looks lags time s₀ l₀ c₀ u₀ i s l c used from) (h : i < s₀.count) {look : Look} (is-look : look ≡ look_at looks i) where
    pub lags_there : from + look.lags ≤ length lags
    lags_there = omega (arith, turn.from_is, ap (λ (x : Look). x.lags) is-look, before_within looks s₀.count i h, asked.lags_in_law)

    module _ {k : ℕ} (is-k : k ≡ look.lags) where
      own_lags : part from k lags ≡ lags_of looks lags i
      unfolding lags_of
      own_lags = λ t. part (turn.from_is t) ((is-k ∙ ap (λ (x : Look). x.lags) is-look) t) lags

      own_length : length (part from k lags) ≡ (look_at looks i).lags
      own_length = ap length own_lags ∙ lags_long looks lags s₀.count i asked.lags_in_law h

      pub turn_asks : InputAsked s l i look (length (part from k lags)) time
      turn_asks =
          subst (λ (x : Look). InputAsked s l i x (length (part from k lags)) time) (sym is-look)
          (subst (λ (n : ℕ). InputAsked s l i (look_at looks i) n time) (sym own_length) (turn.later i (omega arith) h))

      module _ {sent : Sent} {m : Lists} {d : List ℕ} (e : Effected 9 (ticked_input i look (part from k lags) time s l) sent m c d used) where
        step : Effected 9 (ticked_input i (look_at looks i) (lags_of looks lags i) time s l) sent m c d used
        step =
            subst (λ (x : List ℕ). Effected 9 (ticked_input i (look_at looks i) x time s l) sent m c d used) own_lags
            (subst (λ (x : Look). Effected 9 (ticked_input i x (part from k lags) time s l) sent m c d used) is-look e)

        pub turn_again : length d ≡ length c → Turn looks lags time s₀ l₀ c₀ u₀ (i + 1) sent.inputs m d sent.used (from + look.lags)
        unfolding ticked_below
        turn_again commands = record {
          within = omega arith;
          effected = below;
          from_is = (λ t. turn.from_is t + (is-look t).lags) ∙ sym (before_more looks i) ∙ ap (lags_before looks) (sym (add-one i));
          sized = subst Sized (sym step.done.inputs) (input_sized i (look_at looks i) (lags_of looks lags i) time s l turn.sized);
          count = ap (λ (x : Inputs). x.count) (step.done.inputs ∙ input_settings i (look_at looks i) (lags_of looks lags i) time s l) ∙ turn.count;
          later = after;
          commands = commands ∙ turn.commands;
        }
          where
            here : InputAsked s l i (look_at looks i) (look_at looks i).lags time
            here = turn.later i (omega arith) h

            fits : room_for time (length (lags_of looks lags i)) (window_of s l i) ≡ true
            fits = ap (λ (n : ℕ). room_for time n (window_of s l i)) (lags_long looks lags s₀.count i asked.lags_in_law h) ∙ here.room

            below : Effected ((i + 1) * 9) (ticked_below (i + 1) looks lags time s₀ l₀) sent m c₀ d u₀
            below =
                let q : i * 9 + 9 ≡ (i + 1) * 9 = omega arith in
                subst (λ (n : ℕ). Effected n (ticked_below (i + 1) looks lags time s₀ l₀) sent m c₀ d u₀) q
                (subst (λ (n : ℕ). Effected (i * 9 + 9) (ticked_below n looks lags time s₀ l₀) sent m c₀ d u₀) (sym (add-one i))
                (effected_then (i * 9) 9 (ticked_below i looks lags time s₀ l₀) (ticked_input i (look_at looks i) (lags_of looks lags i) time) turn.effected step))

            after : (j : ℕ) → i + 1 ≤ j → j < s₀.count → InputAsked sent.inputs m j (look_at looks j) (look_at looks j).lags time
            after j g there =
                subst (λ (x : Inputs). InputAsked x m j (look_at looks j) (look_at looks j).lags time) (sym step.done.inputs)
                (subst (λ (x : Lists). InputAsked (ticked_input i (look_at looks i) (lags_of looks lags i) time s l).inputs x j (look_at looks j) (look_at looks j).lags time) (sym step.lists)
                (asked_same s (ticked_input i (look_at looks i) (lags_of looks lags i) time s l).inputs l (ticked_input i (look_at looks i) (lags_of looks lags i) time s l).lists j
                (input_settings i (look_at looks i) (lags_of looks lags i) time s l)
                (input_beside i (look_at looks i) (lags_of looks lags i) time s l here.ready turn.sized asked.timely fits).long
                (input_same i (look_at looks i) (lags_of looks lags i) time s l here.ready turn.sized asked.timely fits j (omega (arith, turn.count)) (λ same. omega arith))
                (turn.later j (omega arith) there)))

  pub turn_end : (i : ℕ) {s : Inputs} {l : Lists} {c : List ℕ} {used from : ℕ} → Turn looks lags time s₀ l₀ c₀ u₀ i s l c used from → s₀.count ≤ i
      → Effected (s₀.count * 9) (ticked_below s₀.count looks lags time s₀ l₀) (record { inputs = s; used = used }) l c₀ c u₀
  turn_end i {s} {l} {c} {used} turn h =
      let e : i ≡ s₀.count = omega (arith, turn.within) in
      subst (λ (n : ℕ). Effected (n * 9) (ticked_below n looks lags time s₀ l₀) (record { inputs = s; used = used }) l c₀ c u₀) e turn.effected
