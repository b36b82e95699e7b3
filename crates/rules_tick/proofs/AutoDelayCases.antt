-- `auto_delay`, case by case, as the code goes. Assumes nothing.
use Rattle.std.specs.Prelude.{None, Option, Some}
use Prim.Native.Nat.{ℕ, ◌*◌}
use mathlib.Core.Bool.{Bool, true, false}
use mathlib.Core.Path.{◌≡◌, sym, ap, ◌∙◌}
use mathlib.Core.List.{List}
use borrow.Author.Tests.{eq-eqb, ne_eqb}
use Rattle.base.specs.Lists.{part, patched}
use Rattle.base.proofs.Choices.{yes_pick, no_pick}
use Rattle.base.proofs.Points.{true_both}
use Rattle.base.proofs.All.{both_no, both_yes}
use Rattle.delay_hold.specs.declared.Next.{Next}
use Rattle.delay_hold.specs.Steps5To8.{timer_off, with_lower}
use Rattle.delay_hold.specs.Next.{held, Decided, decided, next_of, one_millisecond, always_lower}
use Rattle.rules_record.specs.declared.Slot.{Slot}
use Rattle.rules_record.specs.declared.Inputs.{Inputs}
use Rattle.rules_record.specs.Slots.{is_auto, with_hold}
use Rattle.rules_record.specs.States.{state_number}
use Rattle.rules_record.specs.Inputs.{slot_at, put_slot}
use Rattle.rules_record.specs.Commands.{quiet}
use Rattle.rules_routing.specs.SetDelay.{set_delay_of}
use Rattle.rules_record.specs.Lent.{Lists, lists, window_for, held_for}
use Rattle.rules_record.specs.Effects.{silent, beside}
use Rattle.rules_tick.specs.AutoDelay.{p999_of, current_of, next_for, Answered, proposing, changing, answered, decided_for, interrupted, goes_on, auto_delayed}

module _ (i : ℕ) (largest : Option ℕ) (time : ℕ) (s : Inputs) (l : Lists) where
  -- ---- whether it goes on
  pub auto_stalled : state_number (slot_at s i).state ≡ 3 → auto_delayed i largest time s l ≡ silent (interrupted i s) l
  unfolding auto_delayed
  auto_stalled h = yes_pick _ _ (eq-eqb _ _ h)

  module _ (moves : state_number (slot_at s i).state ≡ 3 → ⊥) where
    pub auto_idle : (state_number (slot_at s i).state ≡ 2 → ⊥) → auto_delayed i largest time s l ≡ silent s l
    unfolding auto_delayed goes_on
    auto_idle h = no_pick _ _ (ne_eqb _ _ moves) ∙ no_pick _ _ (sym (both_no _ _ (ne_eqb _ _ h)))

    module _ (running : state_number (slot_at s i).state ≡ 2) where
      pub auto_manual : is_auto (slot_at s i).config.extra_delay ≡ false → auto_delayed i largest time s l ≡ silent s l
      unfolding auto_delayed goes_on
      auto_manual h = no_pick _ _ (ne_eqb _ _ moves) ∙ no_pick _ _ (sym (both_yes _ _ _ (eq-eqb _ _ running) (sym h)))

      pub auto_decides : is_auto (slot_at s i).config.extra_delay ≡ true → auto_delayed i largest time s l ≡ decided_for (next_for i largest time s l) i time s l
      unfolding auto_delayed goes_on
      auto_decides h = no_pick _ _ (ne_eqb _ _ moves) ∙ yes_pick _ _ (true_both _ _ (eq-eqb _ _ running) h)

-- ---- what it answers
module _ (i time : ℕ) (slot : Slot) (s : Inputs) where
  pub answered_keep : {change : Option ℕ} → change ≡ None → answered change i time slot s ≡ quiet (put_slot s i slot)
  unfolding answered
  answered_keep e = ap (λ (x : Option ℕ). answered x i time slot s) e

  module _ {change : Option ℕ} (delay : ℕ) (answer : change ≡ Some delay) where
    pub answered_proposal : s.confirm ≡ true → answered change i time slot s ≡ quiet (proposing i delay slot s)
    unfolding answered
    answered_proposal h = ap (λ (x : Option ℕ). answered x i time slot s) answer ∙ yes_pick _ _ h

    pub answered_change : s.confirm ≡ false → answered change i time slot s ≡ set_delay_of (changing i slot s) i delay time
    unfolding answered
    answered_change h = ap (λ (x : Option ℕ). answered x i time slot s) answer ∙ no_pick _ _ h

-- ---- the steps of the code
module _ (s : Inputs) (i : ℕ) (largest : Option ℕ) (time : ℕ) (l : Lists) {slot : Slot} {p : Option ℕ} {current k : ℕ} {times' lags' : List ℕ} {answer : Next}
    (is-slot : slot ≡ slot_at s i)
    (is-p : p ≡ p999_of s.policy (window_for s l i slot))
    (is-current : current ≡ current_of slot)
    (is-k : k ≡ 600)
    (is-next : decided answer times' lags' ≡ next_of one_millisecond always_lower s.policy (held slot.hold (part (i * 600) k l.times) (part (i * 600) k l.peaks)) p largest current time) where
  next_is : decided answer times' lags' ≡ next_for i largest time s l
  unfolding next_for
  next_is =
      is-next
      ∙ (λ t. next_of one_millisecond always_lower s.policy (held slot.hold (part (i * 600) (is-k t) l.times) (part (i * 600) (is-k t) l.peaks)) (is-p t) largest (is-current t) time)
      ∙ ap (λ (x : Slot). next_of one_millisecond always_lower s.policy (held_for l i x) (p999_of s.policy (window_for s l i x)) largest (current_of x) time) is-slot

  pub next_by : Answered i (next_for i largest time s l) answer l (lists l.starts l.totals l.counts l.sums (patched (i * 600) k times' l.times) (patched (i * 600) k lags' l.peaks))
  next_by = record {
    change = ap (λ (d : Decided). d.change) next_is;
    hold = ap (λ (d : Decided). d.held.hold) next_is;
    lists = λ t. lists l.starts l.totals l.counts l.sums (patched (i * 600) (is-k t) (next_is t).held.times l.times) (patched (i * 600) (is-k t) (next_is t).held.lags l.peaks);
  }

module _ (s : Inputs) (i : ℕ) (largest : Option ℕ) (time : ℕ) (l : Lists) {slot : Slot} (is-slot : slot ≡ slot_at s i) {code : ℕ} (is_code : code ≡ state_number slot.state) where
  state_is : code ≡ state_number (slot_at s i).state
  state_is = is_code ∙ ap (λ (x : Slot). state_number x.state) is-slot

  pub stalled_by : {z : Inputs} → code ≡ 3 → z ≡ put_slot s i (with_hold slot (with_lower slot.hold timer_off)) → auto_delayed i largest time s l ≡ silent z l
  stalled_by h e =
      auto_stalled i largest time s l (sym state_is ∙ h)
      ∙ sym (ap (λ (x : Inputs). silent x l) (e ∙ ap (λ (x : Slot). put_slot s i (with_hold x (with_lower x.hold timer_off))) is-slot))

  module _ (moves : code ≡ 3 → ⊥) where
    pub idle_by : (code ≡ 2 → ⊥) → auto_delayed i largest time s l ≡ silent s l
    idle_by h = auto_idle i largest time s l (λ e. moves (state_is ∙ e)) (λ e. h (state_is ∙ e))

    module _ (running : code ≡ 2) {automatic : Bool} (is-auto : automatic ≡ is_auto slot.config.extra_delay) where
      auto_is : automatic ≡ is_auto (slot_at s i).config.extra_delay
      auto_is = is-auto ∙ ap (λ (x : Slot). is_auto x.config.extra_delay) is-slot

      pub manual_by : automatic ≡ false → auto_delayed i largest time s l ≡ silent s l
      manual_by h = auto_manual i largest time s l (λ e. moves (state_is ∙ e)) (sym state_is ∙ running) (sym auto_is ∙ h)

      pub decides_by : {answer : Next} {m : Lists} → automatic ≡ true → Answered i (next_for i largest time s l) answer l m
          → auto_delayed i largest time s l ≡ beside m (answered answer.change i time (with_hold slot answer.hold) s)
      unfolding decided_for
      decides_by {answer} {m} h a =
          auto_decides i largest time s l (λ q. moves (state_is ∙ q)) (sym state_is ∙ running) (sym auto_is ∙ h)
          ∙ sym (λ t. beside (a.lists t) (answered (a.change t) i time (with_hold (is-slot t) (a.hold t)) s))
