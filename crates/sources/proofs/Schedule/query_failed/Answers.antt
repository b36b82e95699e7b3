-- `sources::Schedule::query_failed` meets its contract. Assumes nothing.
use Rattle.std.proofs.Common.{rules}
use Rattle.std.specs.Prelude.{◌≡◌, Err}
use native.Mathlib.Omega.{arith}
use Rattle.refusals.proofs.Answers.{call_stopped, call_timed, timed}
use Rattle.sources.specs.Queries.{schedule_number}
use Rattle.sources.proofs.Calls.{wait_short, failed_refused, failed_told}
use Rattle.sources.proofs.Schedule.query_failed.Goals as goal

pub returns-in_err-check : goal.returns-in_err-check
unfolding schedule_number
returns-in_err-check c = let e : c.from_residual.result ≡ Err c.in_err-check.field-0.0 = search rules in rw e (failed_refused _ _ _ (call_stopped _ _ _ c.in_err-check.ensures))

pub returns-in_err-check_time : goal.returns-in_err-check_time
unfolding schedule_number
returns-in_err-check_time c = let e : c.from_residual-in_err-check_time.result ≡ Err c.in_err-check_time.field-0.0 = search rules in rw e (failed_refused _ _ _ (call_timed _ _ _ c.in_ok-check.ensures c.in_err-check_time.ensures))

pub overflow_add-down : goal.overflow_add-down
overflow_add-down c = omega (arith, c.next_wait-wait.ensures, wait_short c.args.self.query_down, timed c.args.time c.in_ok-check_time.ensures)

pub returns : goal.returns
unfolding schedule_number
returns c = failed_told _ _ _ (call_timed _ _ _ c.in_ok-check.ensures c.in_ok-check_time.ensures) c.next_wait-wait.ensures
