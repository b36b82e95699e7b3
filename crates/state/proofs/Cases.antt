-- What each call on a `Coalesce` gives, case by case: each refusal, and each way through. Assumes nothing.
use Rattle.std.specs.Prelude.{None, Option, Some}
use Rattle.std.specs.Option.{is_some}
use Prim.Native.Nat.{ℕ, ◌+◌, ◌≤◌, ◌<◌}
use mathlib.Core.Bool.{Bool, true, false}
use mathlib.Core.Path.{◌≡◌, refl, sym, ap, ◌∙◌}
use borrow.Author.Tests.{le-leb, lt-leb}
use Rattle.base.proofs.Choices.{yes_ask, no_ask}
use Rattle.base.specs.Limits.{time_limit, span_limit, call_number}
use Rattle.base.proofs.Calls.{call_broken, call_late, call_accepted}
use Rattle.state.specs.Coalesce.{Change, TakeReply, fresh_coalesce, whole_coalesce, due_after_change, changed_number, change_by, changed_of, is_set, record_number, answer_by, pending_of, is_due, taken_by, take_due_of, take_of}
use Rattle.state.specs.declared.Coalesce.{Coalesce}

-- the record as it came, a no with it, and a yes that cleared its due time
abbrev unchanged : ℕ → Coalesce → Change
unchanged number coalesce = record { number = number; coalesce = coalesce }

abbrev not_taken : ℕ → Coalesce → TakeReply
not_taken number coalesce = record { number = number; value = false; coalesce = coalesce }

abbrev cleared : TakeReply
cleared = record { number = 0; value = true; coalesce = fresh_coalesce }

-- ---- changed
module _ (coalesce : Coalesce) (time delay : ℕ) where
  changed_by : (number : ℕ) (due : Option ℕ) → changed_number coalesce time delay ≡ number → due_after_change coalesce.due time delay ≡ due → change_by number due coalesce ≡ changed_of coalesce time delay
  unfolding changed_of
  changed_by number due e f = rw (e, f)

  pub changed_long : span_limit < delay → unchanged 3 coalesce ≡ changed_of coalesce time delay
  unfolding changed_number
  changed_long h = changed_by 3 _ (no_ask 3 _ (lt-leb delay span_limit h)) refl

  module _ (short : delay ≤ span_limit) where
    checked_by : (number : ℕ) → call_number (whole_coalesce coalesce) time ≡ number → changed_number coalesce time delay ≡ number
    unfolding changed_number
    checked_by number e = yes_ask 3 _ (le-leb delay span_limit short) ∙ e

    pub changed_broken : whole_coalesce coalesce ≡ false → unchanged 6 coalesce ≡ changed_of coalesce time delay
    changed_broken broken = changed_by 6 _ (checked_by 6 (call_broken time broken)) refl

    module _ (whole : whole_coalesce coalesce ≡ true) where
      pub changed_late : time_limit < time → unchanged 8 coalesce ≡ changed_of coalesce time delay
      changed_late late = changed_by 8 _ (checked_by 8 (call_late time whole late)) refl

      module _ (timed : time ≤ time_limit) where
        pub changed_sets : coalesce.due ≡ None → change_by 0 (Some (time + delay)) coalesce ≡ changed_of coalesce time delay
        unfolding due_after_change
        changed_sets unset =
            changed_by 0 _ (checked_by 0 (call_accepted time whole timed)) (ap (λ (due : Option ℕ). due_after_change due time delay) unset)

        pub changed_keeps : (at : ℕ) → coalesce.due ≡ Some at → unchanged 0 coalesce ≡ changed_of coalesce time delay
        unfolding due_after_change
        changed_keeps at set =
            changed_by 0 _ (checked_by 0 (call_accepted time whole timed)) (ap (λ (due : Option ℕ). due_after_change due time delay) set ∙ sym set)

-- ---- pending and take
some_is_set : (due : Option ℕ) → is_some due ≡ is_set due
unfolding is_set
some_is_set None = refl
some_is_set (Some due) = refl

module _ (coalesce : Coalesce) where
  module _ (number : ℕ) (answer : Bool) (e : record_number coalesce ≡ number) (f : is_set coalesce.due ≡ answer) where
    pending_by : answer_by number answer ≡ pending_of coalesce
    unfolding pending_of
    pending_by = rw (e, f)

    take_by : taken_by number answer coalesce ≡ take_of coalesce
    unfolding take_of
    take_by = rw (e, f)

  module _ (broken : whole_coalesce coalesce ≡ false) where
    pub pending_broken : answer_by 6 false ≡ pending_of coalesce
    unfolding record_number
    pending_broken = pending_by 6 _ (no_ask 6 _ broken) refl

    pub take_broken : not_taken 6 coalesce ≡ take_of coalesce
    unfolding record_number
    take_broken = take_by 6 _ (no_ask 6 _ broken) refl

  module _ (whole : whole_coalesce coalesce ≡ true) where
    record_accepted : record_number coalesce ≡ 0
    unfolding record_number
    record_accepted = yes_ask 6 _ whole

    pub pending_unset : coalesce.due ≡ None → answer_by 0 false ≡ pending_of coalesce
    unfolding is_set
    pending_unset unset = pending_by 0 _ record_accepted (ap is_set unset)

    pub pending_set : (at : ℕ) → coalesce.due ≡ Some at → answer_by 0 true ≡ pending_of coalesce
    unfolding is_set
    pending_set at set = pending_by 0 _ record_accepted (ap is_set set)

    pub pending_tells : (answer : Bool) → answer ≡ is_some coalesce.due → answer_by 0 answer ≡ pending_of coalesce
    pending_tells answer told = pending_by 0 _ record_accepted (sym (told ∙ some_is_set coalesce.due))

    pub take_unset : coalesce.due ≡ None → not_taken 0 coalesce ≡ take_of coalesce
    unfolding is_set
    take_unset unset = take_by 0 _ record_accepted (ap is_set unset)

    pub take_set : (at : ℕ) → coalesce.due ≡ Some at → cleared ≡ take_of coalesce
    unfolding is_set
    take_set at set = take_by 0 _ record_accepted (ap is_set set)

-- ---- take_due
due_yes : (at time : ℕ) → at ≤ time → is_due (Some at) time ≡ true
unfolding is_due
due_yes at time h = le-leb at time h

due_no : (at time : ℕ) → time < at → is_due (Some at) time ≡ false
unfolding is_due
due_no at time h = lt-leb at time h

module _ (coalesce : Coalesce) (time : ℕ) where
  take_due_by : (number : ℕ) (answer : Bool) → call_number (whole_coalesce coalesce) time ≡ number → is_due coalesce.due time ≡ answer → taken_by number answer coalesce ≡ take_due_of coalesce time
  unfolding take_due_of
  take_due_by number answer e f = rw (e, f)

  pub take_due_broken : whole_coalesce coalesce ≡ false → not_taken 6 coalesce ≡ take_due_of coalesce time
  take_due_broken broken = take_due_by 6 _ (call_broken time broken) refl

  module _ (whole : whole_coalesce coalesce ≡ true) where
    pub take_due_late : time_limit < time → not_taken 8 coalesce ≡ take_due_of coalesce time
    take_due_late late = take_due_by 8 _ (call_late time whole late) refl

    module _ (timed : time ≤ time_limit) where
      pub take_due_unset : coalesce.due ≡ None → not_taken 0 coalesce ≡ take_due_of coalesce time
      unfolding is_due
      take_due_unset unset = take_due_by 0 _ (call_accepted time whole timed) (ap (λ (due : Option ℕ). is_due due time) unset)

      pub take_due_no : (at : ℕ) → coalesce.due ≡ Some at → time < at → not_taken 0 coalesce ≡ take_due_of coalesce time
      take_due_no at set h =
          take_due_by 0 _ (call_accepted time whole timed) (ap (λ (due : Option ℕ). is_due due time) set ∙ due_no at time h)

      pub take_due_yes : (at : ℕ) → coalesce.due ≡ Some at → at ≤ time → cleared ≡ take_due_of coalesce time
      take_due_yes at set h =
          take_due_by 0 _ (call_accepted time whole timed) (ap (λ (due : Option ℕ). is_due due time) set ∙ due_yes at time h)
