-- What each call on a `Coalesce` gives, by the number of its checks: a refusal, and an answer. Assumes nothing.
use Rattle.std.specs.Prelude.{◌≡◌, ℕ, ◌+◌, ◌<◌, ◌≤◌, Bool, false, Ok, Err, None, Option, Some}
use Rattle.std.specs.Option.{is_some, option_or}
use mathlib.Core.Path.{refl, sym, ◌∙◌}
use borrow.Author.Tests.{le-leb, lt-leb}
use Rattle.base.proofs.Choices.{yes_ask, no_ask}
use Rattle.base.specs.Choice.{pick}
use Rattle.base.specs.Limits.{span_limit, call_number}
use Rattle.refusals.specs.declared.Refusal.{Refusal}
use Rattle.refusals.specs.declared.Refusal.TheVariants.{Pause}
use Rattle.refusals.specs.Numbers.{number_of}
use Rattle.refusals.proofs.Answers.{refused_keeps}
use Rattle.state.specs.Coalesce.{left_change, told, left_take, fresh_coalesce, whole_coalesce, due_after_change, changed_number, changed_of, is_set, record_number, pending_of, is_due, take_due_of, take_of}
use Rattle.state.specs.declared.Coalesce.{Coalesce}

-- ---- changed
module _ (coalesce : Coalesce) (time delay : ℕ) where
  changed_refused : (refusal : Refusal) → number_of refusal ≡ changed_number coalesce time delay → left_change coalesce (Err refusal) ≡ changed_of coalesce time delay
  unfolding changed_of
  changed_refused refusal e = rw (← e, refused_keeps refusal coalesce (record { due = due_after_change coalesce.due time delay }))

  pub changed_long : span_limit < delay → left_change coalesce (Err Pause) ≡ changed_of coalesce time delay
  unfolding changed_number
  changed_long h = changed_refused Pause (sym (no_ask 3 _ (lt-leb delay span_limit h)))

  pub or_set : (due : Option ℕ) → option_or due (Some (time + delay)) ≡ due_after_change due time delay
  unfolding due_after_change
  or_set None = refl
  or_set (Some due) = refl

  module _ (short : delay ≤ span_limit) where
    number_is : changed_number coalesce time delay ≡ call_number (whole_coalesce coalesce) time
    unfolding changed_number
    number_is = yes_ask 3 _ (le-leb delay span_limit short)

    pub changed_stopped : (refusal : Refusal) → number_of refusal ≡ call_number (whole_coalesce coalesce) time → left_change coalesce (Err refusal) ≡ changed_of coalesce time delay
    changed_stopped refusal e = changed_refused refusal (e ∙ sym number_is)

    pub changed_told : (due : Option ℕ) → 0 ≡ call_number (whole_coalesce coalesce) time → due ≡ due_after_change coalesce.due time delay → left_change coalesce (Ok (record { due = due })) ≡ changed_of coalesce time delay
    unfolding changed_of
    changed_told due e f = rw (number_is, ← e, f)

-- ---- pending and take
some_is_set : (due : Option ℕ) → is_some due ≡ is_set due
unfolding is_set
some_is_set None = refl
some_is_set (Some due) = refl

-- where none is set the record is a fresh one
cleared : (due : Option ℕ) → fresh_coalesce ≡ pick (is_set due) fresh_coalesce (record { due = due })
unfolding is_set
cleared None = refl
cleared (Some at) = refl

module _ (coalesce : Coalesce) where
  pub pending_refused : (refusal : Refusal) → number_of refusal ≡ record_number coalesce → told (Err refusal) ≡ pending_of coalesce
  unfolding pending_of
  pending_refused refusal e = rw (← e, refused_keeps refusal false (is_set coalesce.due))

  pub pending_told : 0 ≡ record_number coalesce → told (Ok (is_some coalesce.due)) ≡ pending_of coalesce
  unfolding pending_of
  pending_told e = rw (← e, some_is_set coalesce.due)

  pub take_refused : (refusal : Refusal) → number_of refusal ≡ record_number coalesce → left_take coalesce (Err refusal) ≡ take_of coalesce
  unfolding take_of
  take_refused refusal e = rw (← e, refused_keeps refusal false (is_set coalesce.due), refused_keeps refusal coalesce (pick (is_set coalesce.due) fresh_coalesce coalesce))

  pub take_told : 0 ≡ record_number coalesce → left_take coalesce (Ok (record { write = is_some coalesce.due; coalesce = fresh_coalesce })) ≡ take_of coalesce
  unfolding take_of
  take_told e = rw (← e, some_is_set coalesce.due, ← cleared coalesce.due)

-- ---- take_due
module _ (coalesce : Coalesce) (time : ℕ) where
  pub take_due_refused : (refusal : Refusal) → number_of refusal ≡ call_number (whole_coalesce coalesce) time → left_take coalesce (Err refusal) ≡ take_due_of coalesce time
  unfolding take_due_of
  take_due_refused refusal e = rw (← e, refused_keeps refusal false (is_due coalesce.due time), refused_keeps refusal coalesce (pick (is_due coalesce.due time) fresh_coalesce coalesce))

  pub take_due_told : (write : Bool) → 0 ≡ call_number (whole_coalesce coalesce) time → write ≡ is_due coalesce.due time
      → left_take coalesce (Ok (record { write = write; coalesce = pick write fresh_coalesce coalesce })) ≡ take_due_of coalesce time
  unfolding take_due_of
  take_due_told write e f = rw (← e, f)
