-- Document 01, "Clock helpers": `Schedule`, when a service that did not answer is asked again. Assumes nothing.
use Rattle.std.specs.Prelude.{ℕ, Result, ◌+◌, ◌*◌, min, Bool, true, false, leb, None, Option, Some}
use Rattle.base.specs.Choice.{both, accepted}
use Rattle.base.specs.Limits.{nanos, timely_record, call_number}
use Rattle.sources.specs.declared.Schedule.{Schedule}
use Rattle.sources.specs.declared.Failed.{Failed}
use Rattle.refusals.specs.declared.Refusal.{Refusal}
use Rattle.refusals.specs.Numbers.{number_in, value_in}
use Rattle.sources.specs.declared.Down.{Down}

-- what the calls leave, as the papers have it. In every answer an accepted call has number 0; "a no ends it with that number, a zero value, and record .. unchanged"
pub record Answer : Type 0 where
  pub number : ℕ
  pub value : Bool

pub record Failure : Type 0 where
  pub number : ℕ
  pub value : ℕ
  pub schedule : Schedule

-- .. of each case of what a call gives, and of the record as it came
abbrev pub told : Result Bool Refusal → Answer
told result = record { number = number_in result; value = value_in false result }

abbrev pub left_failed : (came : Schedule) → Result Failed Refusal → Failure
left_failed came result =
    record {
      number = number_in result;
      value = (value_in (record { wait = 0; schedule = came }) result).wait;
      schedule = (value_in (record { wait = 0; schedule = came }) result).schedule;
    }

-- "waits 5 s at first"
abbrev pub first_wait : ℕ
first_wait = 5 * nanos

-- "at most 60 s"
abbrev pub wait_limit : ℕ
wait_limit = 60 * nanos

-- a fresh record: never down
abbrev pub fresh_schedule : Schedule
fresh_schedule = record { query_down = None }

-- check 6: the end of the wait lies "within 8 plus 600 s, the wait at most 60 s"
unfoldable pub whole_down : Option Down → Bool
whole_down None = true
whole_down (Some down) = both (timely_record down.until) (leb down.wait wait_limit)

unfoldable pub whole_schedule : Schedule → Bool
whole_schedule schedule = whole_down schedule.query_down

-- the checks of both calls: 6 and 8
unfoldable pub schedule_number : (schedule : Schedule) (time : ℕ) → ℕ
schedule_number schedule time = call_number (whole_schedule schedule) time

-- `query_up`: "yes if never down, or now is at or past the end of the wait"
unfoldable pub is_up : Option Down → (time : ℕ) → Bool
is_up None time = true
is_up (Some down) time = leb down.until time

-- an answer: its number, and yes or no; refused: no
abbrev pub answer_by : (number : ℕ) (answer : Bool) → Answer
answer_by number answer = record { number = number; value = accepted number false answer }

unfoldable pub query_up_of : (schedule : Schedule) (time : ℕ) → Answer
query_up_of schedule time = answer_by (schedule_number schedule time) (is_up schedule.query_down time)

-- `query_failed`: "waits 5 s at first, then twice the wait before, at most 60 s"
unfoldable pub next_wait : Option Down → ℕ
next_wait None = first_wait
next_wait (Some down) = min (down.wait * 2) wait_limit

-- a failure at a time: its number, the wait, and the record down for that wait; refused: no wait, and the record as it came
abbrev pub failure_by : (number wait time : ℕ) (schedule : Schedule) → Failure
failure_by number wait time schedule =
    record { number = number; value = accepted number 0 wait; schedule = accepted number schedule (record { query_down = Some (record { until = time + wait; wait = wait }) }) }

unfoldable pub query_failed_of : (schedule : Schedule) (time : ℕ) → Failure
query_failed_of schedule time = failure_by (schedule_number schedule time) (next_wait schedule.query_down) time schedule
