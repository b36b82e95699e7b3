-- `sources::Schedule::query_up` meets its contract. Assumes nothing.
use Rattle.std.proofs.Common.{rules}
use Rattle.std.specs.Prelude.{◌≡◌, Err}
use Rattle.refusals.proofs.Answers.{call_stopped, call_timed}
use Rattle.sources.specs.Queries.{schedule_number, is_up}
use Rattle.sources.proofs.Calls.{up_refused, up_told}
use Rattle.sources.proofs.Schedule.query_up.Goals as goal

pub returns-in_err-check : goal.returns-in_err-check
unfolding schedule_number
returns-in_err-check c = let e : c.from_residual.result ≡ Err c.in_err-check.field-0.0 = search rules in rw e (up_refused _ _ _ (call_stopped _ _ _ c.in_err-check.ensures))

pub returns-in_err-check_time : goal.returns-in_err-check_time
unfolding schedule_number
returns-in_err-check_time c = let e : c.from_residual-in_err-check_time.result ≡ Err c.in_err-check_time.field-0.0 = search rules in rw e (up_refused _ _ _ (call_timed _ _ _ c.in_ok-check.ensures c.in_err-check_time.ensures))

pub returns : goal.returns
unfolding schedule_number is_up
returns c = up_told _ _ _ (call_timed _ _ _ c.in_ok-check.ensures c.in_ok-check_time.ensures) (search rules)
