-- No call on a `Schedule` breaks a whole record, and a whole record is not refused by 6. Assumes nothing.
use Rattle.std.specs.Prelude.{Some}
use Prim.Native.Nat.{ℕ, ◌+◌, ◌≤◌}
use mathlib.Core.Bool.{true}
use mathlib.Core.Path.{◌≡◌, refl}
use native.Mathlib.Omega.{arith}
use borrow.Author.Tests.{le-leb}
use Rattle.base.proofs.Choices.{accepted_all}
use Rattle.base.proofs.Points.{true_both}
use Rattle.base.specs.Limits.{time_limit, span_limit}
use Rattle.base.proofs.Calls.{accepted_call, whole_call}
use Rattle.sources.specs.Queries.{wait_limit, fresh_schedule, whole_down, whole_schedule, schedule_number, next_wait, query_failed_of}
use Rattle.sources.specs.declared.Schedule.{Schedule}
use Rattle.sources.proofs.Calls.{wait_short}

pub fresh_whole : whole_schedule fresh_schedule ≡ true
unfolding whole_schedule whole_down
fresh_whole = refl

down_whole : (time wait : ℕ) → time ≤ time_limit → wait ≤ wait_limit → whole_down (Some (record { until = time + wait; wait = wait })) ≡ true
unfolding whole_down
down_whole time wait t w = true_both _ _ (le-leb (time + wait) (time_limit + span_limit) (omega arith)) (le-leb wait wait_limit w)

module _ (schedule : Schedule) (whole : whole_schedule schedule ≡ true) (time : ℕ) where
  pub failed_stays_whole : whole_schedule (query_failed_of schedule time).schedule ≡ true
  unfolding query_failed_of schedule_number whole_schedule
  failed_stays_whole =
      accepted_all (λ (left : Schedule). whole_schedule left ≡ true) (schedule_number schedule time) schedule _ whole
      (λ e. down_whole time (next_wait schedule.query_down) (accepted_call time e).1 (wait_short schedule.query_down))

  -- no call on a whole record is refused by 6
  pub whole_schedule_law : schedule_number schedule time ≡ 6 → ⊥
  unfolding schedule_number
  whole_schedule_law e = whole_call time whole e
