-- Document 01, "Clock helpers": sample indices and times, at a rate of samples a second. Assumes nothing.
use Rattle.std.specs.Prelude.{ℕ, Result, ◌+◌, ◌-◌, ◌*◌, ◌/◌, ◌^◌, ltb}
use Rattle.base.specs.Choice.{ask, accepted}
use Rattle.base.specs.Limits.{nanos, timely}
use Rattle.refusals.specs.declared.Refusal.{Refusal}
use Rattle.refusals.specs.Numbers.{number_in, value_in}

-- `index_at`: the sample index at a time, which "rounds down"
unfoldable pub index_at : (rate ns : ℕ) → ℕ
index_at rate ns = ns * rate / nanos

-- `time_of`: the time of a sample index, which "rounds up"
unfoldable pub time_of : (rate index : ℕ) → ℕ
time_of rate index = (index * nanos + (rate - 1)) / rate

-- check 8 of `index_at`
unfoldable pub index_number : ℕ → ℕ
index_number ns = ask 8 (timely ns) 0

-- check 8 of `time_of`: "does the answer fit a u64?"
unfoldable pub time_number : (rate index : ℕ) → ℕ
time_number rate index = ask 8 (ltb (time_of rate index) (2 ^ 64)) 0

-- an answer as the papers have it: its number and its value
pub record Answer : Type 0 where
  pub number : ℕ
  pub value : ℕ

-- .. of each case of what a call gives: "a no ends it with that number, a zero value"
abbrev pub told : Result ℕ Refusal → Answer
told result = record { number = number_in result; value = value_in 0 result }

-- an answer: its number, and the value where the number is 0, else a zero value
abbrev pub answer_of : (number value : ℕ) → Answer
answer_of number value = record { number = number; value = accepted number 0 value }

unfoldable pub index_answer : (rate ns : ℕ) → Answer
index_answer rate ns = answer_of (index_number ns) (index_at rate ns)

unfoldable pub time_answer : (rate index : ℕ) → Answer
time_answer rate index = answer_of (time_number rate index) (time_of rate index)
