-- Document 01, "Clock helpers": `Coalesce`, when to write a file that changes often. Assumes nothing.
use Rattle.std.specs.Prelude.{ℕ, Result, ◌+◌, Bool, true, false, leb, None, Option, Some}
use Rattle.base.specs.Choice.{pick, ask, accepted}
use Rattle.base.specs.Limits.{span_limit, timely_record, call_number}
use Rattle.state.specs.declared.Coalesce.{Coalesce}
use Rattle.refusals.specs.declared.Refusal.{Refusal}
use Rattle.refusals.specs.Numbers.{number_in, value_in}
use Rattle.state.specs.declared.Taken.{Taken}

-- what the calls leave, as the papers have it. In every answer an accepted call has number 0; "a no ends it with that number, a zero value, and record .. unchanged"
pub record Change : Type 0 where
  pub number : ℕ
  pub coalesce : Coalesce

pub record Answer : Type 0 where
  pub number : ℕ
  pub value : Bool

pub record TakeReply : Type 0 where
  pub number : ℕ
  pub value : Bool
  pub coalesce : Coalesce

-- .. of each case of what a call gives, and of the record as it came
abbrev pub left_change : (came : Coalesce) → Result Coalesce Refusal → Change
left_change came result = record { number = number_in result; coalesce = value_in came result }

abbrev pub told : Result Bool Refusal → Answer
told result = record { number = number_in result; value = value_in false result }

abbrev pub left_take : (came : Coalesce) → Result Taken Refusal → TakeReply
left_take came result =
    record {
      number = number_in result;
      value = (value_in (record { write = false; coalesce = came }) result).write;
      coalesce = (value_in (record { write = false; coalesce = came }) result).coalesce;
    }

-- a fresh record: no due time is set
abbrev pub fresh_coalesce : Coalesce
fresh_coalesce = record { due = None }

-- check 6: the due time lies "within 8 plus 600 s"
unfoldable pub whole_due : Option ℕ → Bool
whole_due None = true
whole_due (Some due) = timely_record due

unfoldable pub whole_coalesce : Coalesce → Bool
whole_coalesce coalesce = whole_due coalesce.due

-- "`changed` sets due to now + delay where none is set"
unfoldable pub due_after_change : Option ℕ → (time delay : ℕ) → Option ℕ
due_after_change None time delay = Some (time + delay)
due_after_change (Some due) time delay = Some due

-- its checks: "A delay above 600 s gets number 3", then 6 and 8
unfoldable pub changed_number : (coalesce : Coalesce) (time delay : ℕ) → ℕ
changed_number coalesce time delay = ask 3 (leb delay span_limit) (call_number (whole_coalesce coalesce) time)

-- a change: its number, and the record with this due time; refused: the record as it came
abbrev pub change_by : (number : ℕ) (due : Option ℕ) (coalesce : Coalesce) → Change
change_by number due coalesce = record { number = number; coalesce = accepted number coalesce (record { due = due }) }

unfoldable pub changed_of : (coalesce : Coalesce) (time delay : ℕ) → Change
changed_of coalesce time delay = change_by (changed_number coalesce time delay) (due_after_change coalesce.due time delay) coalesce

-- "`pending` tells if one is"
unfoldable pub is_set : Option ℕ → Bool
is_set None = false
is_set (Some due) = true

-- the check of a call that is given no time: 6
unfoldable pub record_number : Coalesce → ℕ
record_number coalesce = ask 6 (whole_coalesce coalesce) 0

-- an answer: its number, and yes or no; refused: no
abbrev pub answer_by : (number : ℕ) (answer : Bool) → Answer
answer_by number answer = record { number = number; value = accepted number false answer }

unfoldable pub pending_of : Coalesce → Answer
pending_of coalesce = answer_by (record_number coalesce) (is_set coalesce.due)

-- "`take_due` is yes from due on"
unfoldable pub is_due : Option ℕ → (time : ℕ) → Bool
is_due None time = false
is_due (Some due) time = leb due time

-- a take: its number, yes or no, and after a yes the record with its due time cleared; refused: no, and the record as it came
abbrev pub taken_by : (number : ℕ) (answer : Bool) (coalesce : Coalesce) → TakeReply
taken_by number answer coalesce =
    record { number = number; value = accepted number false answer; coalesce = accepted number coalesce (pick answer fresh_coalesce coalesce) }

-- ".. and clears it"; its checks are 6 and 8
unfoldable pub take_due_of : (coalesce : Coalesce) (time : ℕ) → TakeReply
take_due_of coalesce time = taken_by (call_number (whole_coalesce coalesce) time) (is_due coalesce.due time) coalesce

-- "`take` clears it and tells if one was set"
unfoldable pub take_of : Coalesce → TakeReply
take_of coalesce = taken_by (record_number coalesce) (is_set coalesce.due) coalesce
