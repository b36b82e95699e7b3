-- `state::Coalesce::changed` meets its contract. Assumes nothing.
use Rattle.std.proofs.Common.{rules}
use Rattle.std.specs.Prelude.{◌≡◌, Err}
use mathlib.Core.Path.{◌∙◌}
use native.Mathlib.Omega.{arith}
use Rattle.refusals.proofs.Answers.{call_stopped, call_timed, timed}
use Rattle.state.specs.Coalesce.{record_number}
use Rattle.state.proofs.Calls.{changed_long, changed_stopped, or_set, changed_told}
use Rattle.state.proofs.Coalesce.changed.Goals as goal

pub returns-then-delay-gt-SPAN_LIMIT : goal.returns-then-delay-gt-SPAN_LIMIT
returns-then-delay-gt-SPAN_LIMIT c = changed_long _ _ _ c.if-delay-gt-SPAN_LIMIT.true

pub returns-in_err-check : goal.returns-in_err-check
unfolding record_number
returns-in_err-check c = let e : c.from_residual.result ≡ Err c.in_err-check.field-0.0 = search rules in rw e (changed_stopped _ _ _ c.if-delay-gt-SPAN_LIMIT.false _ (call_stopped _ _ _ c.in_err-check.ensures))

pub returns-in_err-check_time : goal.returns-in_err-check_time
unfolding record_number
returns-in_err-check_time c = let e : c.from_residual-in_err-check_time.result ≡ Err c.in_err-check_time.field-0.0 = search rules in rw e (changed_stopped _ _ _ c.if-delay-gt-SPAN_LIMIT.false _ (call_timed _ _ _ c.in_ok-check.ensures c.in_err-check_time.ensures))

pub overflow_add-time : goal.overflow_add-time
overflow_add-time c = omega (arith, c.if-delay-gt-SPAN_LIMIT.false, timed c.args.time c.in_ok-check_time.ensures)

pub returns : goal.returns
unfolding record_number
returns c = changed_told _ _ _ c.if-delay-gt-SPAN_LIMIT.false _ (call_timed _ _ _ c.in_ok-check.ensures c.in_ok-check_time.ensures) (c.or.ensures ∙ or_set c.args.self _ _ c.args.self.due)
