-- What each call on a `Schedule` gives, case by case: each refusal, and each way through. Assumes nothing.
use Rattle.std.specs.Prelude.{None, Option, Some}
use Prim.Native.Nat.{ℕ, ◌+◌, ◌*◌, ◌/◌, ◌≤◌, ◌<◌}
use mathlib.Core.Bool.{Bool, true, false}
use mathlib.Core.Path.{◌≡◌, refl, sym, ap, ◌∙◌}
use native.Mathlib.Omega.{arith}
use lib.Dec.{leb}
use borrow.Author.Tests.{le-leb, lt-leb}
use Rattle.base.proofs.All.{both_yes, both_no}
use Rattle.base.specs.Limits.{time_limit, span_limit}
use Rattle.base.proofs.Calls.{call_broken, call_late, call_accepted}
use Rattle.sources.specs.Queries.{wait_limit, first_wait, whole_down, whole_schedule, schedule_number, is_up, answer_by, query_up_of, next_wait, failure_by, query_failed_of}
use Rattle.sources.specs.declared.Schedule.{Schedule}
use Rattle.sources.specs.declared.Down.{Down}

-- ---- whole
module _ (schedule : Schedule) where
  pub whole_never : schedule.query_down ≡ None → true ≡ whole_schedule schedule
  unfolding whole_schedule whole_down
  whole_never e = sym (ap whole_down e)

  module _ (until wait : ℕ) (down : schedule.query_down ≡ Some (record { until = until; wait = wait })) where
    pub whole_late : time_limit + span_limit < until → false ≡ whole_schedule schedule
    unfolding whole_schedule whole_down
    whole_late h = both_no _ _ (lt-leb until (time_limit + span_limit) h) ∙ sym (ap whole_down down)

    pub whole_by_wait : until ≤ time_limit + span_limit → leb wait wait_limit ≡ whole_schedule schedule
    unfolding whole_schedule whole_down
    whole_by_wait h = both_yes _ _ _ (le-leb until (time_limit + span_limit) h) refl ∙ sym (ap whole_down down)

-- ---- the next wait
pub wait_first : (down : Option Down) → down ≡ None → first_wait ≡ next_wait down
unfolding next_wait
wait_first down e = sym (ap next_wait e)

module _ (down : Option Down) (until wait : ℕ) (e : down ≡ Some (record { until = until; wait = wait })) where
  pub wait_longest : wait_limit / 2 < wait → wait_limit ≡ next_wait down
  unfolding next_wait
  wait_longest h = sym (ap next_wait e ∙ omega arith)

  pub wait_doubled : wait ≤ wait_limit / 2 → wait * 2 ≡ next_wait down
  unfolding next_wait
  wait_doubled h = sym (ap next_wait e ∙ omega arith)

pub wait_short : (down : Option Down) → next_wait down ≤ wait_limit
unfolding next_wait
wait_short None = omega arith
wait_short (Some down) = omega arith

-- ---- query_up and query_failed
module _ (schedule : Schedule) (time : ℕ) where
  up_by : (number : ℕ) (answer : Bool) → schedule_number schedule time ≡ number → is_up schedule.query_down time ≡ answer → answer_by number answer ≡ query_up_of schedule time
  unfolding query_up_of
  up_by number answer e f = rw (e, f)

  failed_by : (number wait : ℕ) → schedule_number schedule time ≡ number → next_wait schedule.query_down ≡ wait → failure_by number wait time schedule ≡ query_failed_of schedule time
  unfolding query_failed_of
  failed_by number wait e f = rw (e, f)

  module _ (broken : whole_schedule schedule ≡ false) where
    pub up_broken : answer_by 6 false ≡ query_up_of schedule time
    unfolding schedule_number
    up_broken = up_by 6 _ (call_broken time broken) refl

    pub failed_broken : failure_by 6 0 time schedule ≡ query_failed_of schedule time
    unfolding schedule_number
    failed_broken = failed_by 6 _ (call_broken time broken) refl

  module _ (whole : whole_schedule schedule ≡ true) where
    module _ (late : time_limit < time) where
      pub up_late : answer_by 8 false ≡ query_up_of schedule time
      unfolding schedule_number
      up_late = up_by 8 _ (call_late time whole late) refl

      pub failed_late : failure_by 8 0 time schedule ≡ query_failed_of schedule time
      unfolding schedule_number
      failed_late = failed_by 8 _ (call_late time whole late) refl

    module _ (timed : time ≤ time_limit) where
      pub up_never : schedule.query_down ≡ None → answer_by 0 true ≡ query_up_of schedule time
      unfolding schedule_number is_up
      up_never never = up_by 0 _ (call_accepted time whole timed) (ap (λ (down : Option Down). is_up down time) never)

      pub up_after : (until wait : ℕ) → schedule.query_down ≡ Some (record { until = until; wait = wait }) → answer_by 0 (leb until time) ≡ query_up_of schedule time
      unfolding schedule_number is_up
      up_after until wait e = up_by 0 _ (call_accepted time whole timed) (ap (λ (down : Option Down). is_up down time) e)

      pub failed_waits : (wait : ℕ) → wait ≡ next_wait schedule.query_down → failure_by 0 wait time schedule ≡ query_failed_of schedule time
      unfolding schedule_number
      failed_waits wait e = failed_by 0 wait (call_accepted time whole timed) (sym e)
