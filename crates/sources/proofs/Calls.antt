-- What each call on a `Schedule` gives, by the number of its checks: a refusal, and an answer; and how long a wait may be. Assumes nothing.
use Rattle.std.specs.Prelude.{◌≡◌, ℕ, ◌+◌, ◌≤◌, Bool, false, Ok, Err, None, Option, Some}
use native.Mathlib.Omega.{arith}
use Rattle.refusals.specs.declared.Refusal.{Refusal}
use Rattle.refusals.specs.Numbers.{number_of}
use Rattle.refusals.proofs.Answers.{refused_keeps}
use Rattle.sources.specs.Queries.{told, left_failed, wait_limit, schedule_number, is_up, query_up_of, next_wait, query_failed_of}
use Rattle.sources.specs.declared.Schedule.{Schedule}
use Rattle.sources.specs.declared.Down.{Down}

pub wait_short : (down : Option Down) → next_wait down ≤ wait_limit
unfolding next_wait
wait_short None = omega arith
wait_short (Some down) = omega arith

module _ (schedule : Schedule) (time : ℕ) where
  pub up_refused : (refusal : Refusal) → number_of refusal ≡ schedule_number schedule time → told (Err refusal) ≡ query_up_of schedule time
  unfolding query_up_of
  up_refused refusal e = rw (← e, refused_keeps refusal false (is_up schedule.query_down time))

  pub up_told : (up : Bool) → 0 ≡ schedule_number schedule time → up ≡ is_up schedule.query_down time → told (Ok up) ≡ query_up_of schedule time
  unfolding query_up_of
  up_told up e f = rw (← e, f)

  pub failed_refused : (refusal : Refusal) → number_of refusal ≡ schedule_number schedule time → left_failed schedule (Err refusal) ≡ query_failed_of schedule time
  unfolding query_failed_of
  failed_refused refusal e = rw (← e, refused_keeps refusal 0 (next_wait schedule.query_down), refused_keeps refusal schedule (record { query_down = Some (record { until = time + next_wait schedule.query_down; wait = next_wait schedule.query_down }) }))

  pub failed_told : (wait : ℕ) → 0 ≡ schedule_number schedule time → wait ≡ next_wait schedule.query_down
      → left_failed schedule (Ok (record { wait = wait; schedule = record { query_down = Some (record { until = time + wait; wait = wait }) } })) ≡ query_failed_of schedule time
  unfolding query_failed_of
  failed_told wait e f = rw (← e, ← f)
