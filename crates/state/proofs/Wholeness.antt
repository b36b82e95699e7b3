-- No call on a `Coalesce` breaks a whole record, and a whole record is not refused by 6. Assumes nothing.
use Rattle.std.specs.Prelude.{None, Option, Some}
use Prim.Native.Nat.{ℕ, ◌+◌, ◌≤◌}
use mathlib.Core.Bool.{Bool, true}
use mathlib.Core.Path.{◌≡◌, refl, sym, ◌∙◌}
use native.Mathlib.Omega.{arith}
use borrow.Author.Tests.{le-leb, lt-leb, leb-true}
use Rattle.base.specs.Choice.{pick}
use Rattle.base.proofs.Choices.{yes_ask, no_ask, asked, accepted_all, by_le, pick_all}
use Rattle.base.specs.Limits.{time_limit, span_limit, call_number}
use Rattle.base.proofs.Calls.{accepted_call, whole_call}
use Rattle.state.specs.Coalesce.{fresh_coalesce, whole_due, whole_coalesce, due_after_change, changed_number, changed_of, is_set, record_number, is_due, taken_by, take_due_of, take_of}
use Rattle.state.specs.declared.Coalesce.{Coalesce}

pub fresh_whole : whole_coalesce fresh_coalesce ≡ true
unfolding whole_coalesce whole_due
fresh_whole = refl

set_whole : (due : Option ℕ) (time delay : ℕ) → whole_due due ≡ true → time ≤ time_limit → delay ≤ span_limit → whole_due (due_after_change due time delay) ≡ true
unfolding whole_due due_after_change
set_whole None time delay h t d = le-leb (time + delay) (time_limit + span_limit) (omega arith)
set_whole (Some at) time delay h t d = h

module _ (coalesce : Coalesce) (whole : whole_coalesce coalesce ≡ true) where
  pub changed_stays_whole : (time delay : ℕ) → whole_coalesce (changed_of coalesce time delay).coalesce ≡ true
  unfolding changed_of changed_number whole_coalesce
  changed_stays_whole time delay =
      accepted_all (λ (left : Coalesce). whole_coalesce left ≡ true) (changed_number coalesce time delay) coalesce (record { due = due_after_change coalesce.due time delay }) whole
      (λ e.
      let short = asked 2 _ _ e in
      set_whole coalesce.due time delay whole (accepted_call time short.1).1 (leb-true delay span_limit short.0))

  taken_whole : (number : ℕ) (answer : Bool) → whole_coalesce (taken_by number answer coalesce).coalesce ≡ true
  taken_whole number answer =
      accepted_all (λ (left : Coalesce). whole_coalesce left ≡ true) number coalesce (pick answer fresh_coalesce coalesce) whole
      (λ e. pick_all (λ (left : Coalesce). whole_coalesce left ≡ true) answer fresh_whole whole)

  pub take_due_stays_whole : (time : ℕ) → whole_coalesce (take_due_of coalesce time).coalesce ≡ true
  unfolding take_due_of
  take_due_stays_whole time = taken_whole (call_number (whole_coalesce coalesce) time) (is_due coalesce.due time)

  pub take_stays_whole : whole_coalesce (take_of coalesce).coalesce ≡ true
  unfolding take_of
  take_stays_whole = taken_whole (record_number coalesce) (is_set coalesce.due)

  -- no call on a whole record is refused by 6 (for `take_due`: `whole_call` of timing)
  pub whole_changed : (time delay : ℕ) → changed_number coalesce time delay ≡ 6 → ⊥
  unfolding changed_number
  whole_changed time delay e =
      by_le delay span_limit
      (λ short. whole_call time whole (sym (yes_ask 3 _ (le-leb delay span_limit short)) ∙ e))
      (λ long. let three-six : ◌≡◌ {A = ℕ} 3 6 = sym (no_ask 3 _ (lt-leb delay span_limit long)) ∙ e in omega arith)

  pub whole_record_law : record_number coalesce ≡ 0
  unfolding record_number
  whole_record_law = yes_ask 6 _ whole
