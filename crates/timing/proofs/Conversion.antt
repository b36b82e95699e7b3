-- Laws of `index_at` and `time_of` at any rate: in whole seconds and the rest, there and back, in order; the last index that has a time. Assumes nothing.
use Prim.Native.Nat.{ℕ, ◌+◌, ◌-◌, ◌*◌, ◌/◌, ◌%◌, ◌≤◌, ◌<◌, ◌^◌}
use mathlib.Core.Path.{◌≡◌, sym, ap, ◌∙◌}
use native.Mathlib.Nat.{div-add-mod', div-mul-le_self, lt-div-mul-add, div-eq_of_lt-le, div-lt_iff_lt-mul, le-div_iff_mul-le, mul-add-div_right, mul-le-mul_right, add-mul, mul_assoc, mul_comm, suc-mul, le_of_suc-le-suc}
use native.Mathlib.Omega.{arith}
use borrow.Author.Tests.{le-leb, lt-ltb, le-ltb}
use Rattle.std.specs.Prelude.{Err}
use Rattle.base.specs.Choice.{ask}
use Rattle.refusals.specs.declared.Refusal.{Refusal}
use Rattle.refusals.specs.Numbers.{number_of}
use Rattle.refusals.proofs.Answers.{refused_keeps}
use Rattle.base.proofs.Choices.{yes_ask, no_ask}
use Rattle.base.specs.Limits.{nanos, time_limit, timely}
use Rattle.timing.specs.Clock.{index_at, time_of, index_number, time_number, told, answer_of, index_answer, time_answer}

-- the whole seconds and the rest, each converted
pub index_by_seconds : (rate ns : ℕ) → ns / nanos * rate + ns % nanos * rate / nanos ≡ index_at rate ns
unfolding index_at
index_by_seconds rate ns =
    sym (ap (λ (n : ℕ). n * rate / nanos) (sym (div-add-mod' ns nanos))
    ∙ ap (λ (n : ℕ). n / nanos) (parts (ns / nanos) (ns % nanos))
    ∙ mul-add-div_right {m = nanos} (omega arith) (ns / nanos * rate) (ns % nanos * rate))
  where
    parts : (seconds rest : ℕ) → (seconds * nanos + rest) * rate ≡ seconds * rate * nanos + rest * rate
    parts seconds rest = omega (arith, add-mul (seconds * nanos) rest rate, mul_assoc seconds nanos rate, mul_assoc seconds rate nanos, mul_comm nanos rate)

pub time_by_seconds : (rate index : ℕ) → 0 < rate → index / rate * nanos + (index % rate * nanos + (rate - 1)) / rate ≡ time_of rate index
unfolding time_of
time_by_seconds rate index positive =
    sym (ap (λ (n : ℕ). (n * nanos + (rate - 1)) / rate) (sym (div-add-mod' index rate))
    ∙ ap (λ (n : ℕ). n / rate) (parts (index / rate) (index % rate))
    ∙ mul-add-div_right positive (index / rate * nanos) (index % rate * nanos + (rate - 1)))
  where
    parts : (seconds rest : ℕ) → (seconds * rate + rest) * nanos + (rate - 1) ≡ seconds * nanos * rate + (rest * nanos + (rate - 1))
    parts seconds rest = omega (arith, add-mul (seconds * rate) rest nanos, mul_assoc seconds nanos rate, mul_assoc seconds rate nanos, mul_comm nanos rate)

-- the two cases of each answer
module _ (rate : ℕ) where
  pub index_answered : (ns : ℕ) → 0 ≡ ask 8 (timely ns) 0 → index_answer rate ns ≡ answer_of 0 (index_at rate ns)
  unfolding index_answer index_number
  index_answered ns e = rw (← e)

  pub index_refused : (ns : ℕ) (refusal : Refusal) → number_of refusal ≡ ask 8 (timely ns) 0 → told (Err refusal) ≡ index_answer rate ns
  unfolding index_answer index_number
  index_refused ns refusal e = rw (← e, refused_keeps refusal 0 (index_at rate ns))

  pub time_answered : (index : ℕ) → time_of rate index < 2 ^ 64 → time_answer rate index ≡ answer_of 0 (time_of rate index)
  unfolding time_answer time_number
  time_answered index h = rw (yes_ask 8 0 (lt-ltb (time_of rate index) (2 ^ 64) h))

  pub time_refused : (index : ℕ) → 2 ^ 64 ≤ time_of rate index → time_answer rate index ≡ answer_of 8 0
  unfolding time_answer time_number
  time_refused index h = rw (no_ask 8 0 (le-ltb (time_of rate index) (2 ^ 64) h))

module _ (rate : ℕ) (positive : 0 < rate) where
  -- "rounds up": the time is not before the index's exact time, and less than one nanosecond after it
  pub time_covers : (index : ℕ) → index * nanos ≤ time_of rate index * rate
  unfolding time_of
  time_covers index = omega (arith, lt-div-mul-add {a = index * nanos + (rate - 1)} positive)

  pub time_close : (index : ℕ) → time_of rate index * rate ≤ index * nanos + (rate - 1)
  unfolding time_of
  time_close index = div-mul-le_self (index * nanos + (rate - 1)) rate

  pub time_grows : (a b : ℕ) → a ≤ b → time_of rate a ≤ time_of rate b
  unfolding time_of
  time_grows a b h = (le-div_iff_mul-le positive).1 (omega (arith, div-mul-le_self (a * nanos + (rate - 1)) rate))

-- "rounds down"
pub index_covers : (rate ns : ℕ) → index_at rate ns * nanos ≤ ns * rate
unfolding index_at
index_covers rate ns = div-mul-le_self (ns * rate) nanos

pub index_close : (rate ns : ℕ) → ns * rate < (index_at rate ns + 1) * nanos
unfolding index_at
index_close rate ns = omega (arith, lt-div-mul-add {a = ns * rate} {b = nanos} (omega arith))

pub index_grows : (rate a b : ℕ) → a ≤ b → index_at rate a ≤ index_at rate b
unfolding index_at
index_grows rate a b h =
    (le-div_iff_mul-le {k = nanos} (omega arith)).1 (omega (arith, div-mul-le_self (a * rate) nanos, mul-le-mul_right rate h))

-- there and back, up to a sample a nanosecond
pub index_of_time : (rate index : ℕ) → 0 < rate → rate ≤ nanos → index_at rate (time_of rate index) ≡ index
unfolding index_at
index_of_time rate index positive slow =
    div-eq_of_lt-le nanos (time_covers rate positive index) (omega (arith, time_close rate positive index))

-- the same of the answers: the time that `time_of` answers, given to `index_at`, gives the index back
pub answers_come_back :
    (rate index : ℕ) → 0 < rate → rate ≤ nanos → time_of rate index ≤ time_limit
    → index_answer rate (time_answer rate index).value ≡ answer_of 0 index
answers_come_back rate index positive slow soon =
    rw (time_answered rate index (omega arith), index_answered rate (time_of rate index) (sym (yes_ask 8 0 (le-leb (time_of rate index) time_limit soon))), index_of_time rate index positive slow)

-- the time of an index is the first time with that index
pub time_is_first : (rate index ns : ℕ) → 0 < rate → index ≤ index_at rate ns → time_of rate index ≤ ns
unfolding time_of
time_is_first rate index ns positive h =
    le_of_suc-le-suc ((div-lt_iff_lt-mul positive).1 (omega (arith, index_covers rate ns, suc-mul ns rate)))

-- the largest index that `time_of` answers is 885,443,715,538,058
pub last_answered : (index : ℕ) → index ≤ 885_443_715_538_058 → time_number 48000 index ≡ 0
unfolding time_number time_of
last_answered index h = yes_ask 8 0 (lt-ltb (time_of 48000 index) (2 ^ 64) (omega arith))

pub next_refused : (index : ℕ) → 885_443_715_538_058 < index → time_number 48000 index ≡ 8
unfolding time_number time_of
next_refused index h = no_ask 8 0 (le-ltb (time_of 48000 index) (2 ^ 64) (omega arith))
