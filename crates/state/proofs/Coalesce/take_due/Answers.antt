-- `state::Coalesce::take_due` meets its contract. Assumes nothing.
use Rattle.std.proofs.Common.{rules}
use Rattle.std.specs.Prelude.{◌≡◌, true, false, Err}
use mathlib.Core.Path.{sym, ◌∙◌}
use Rattle.refusals.proofs.Answers.{call_stopped, call_timed}
use Rattle.state.specs.Coalesce.{record_number, is_due}
use Rattle.state.proofs.Calls.{take_due_refused, take_due_told}
use Rattle.state.proofs.Coalesce.take_due.Goals as goal

pub returns-in_err-check : goal.returns-in_err-check
unfolding record_number
returns-in_err-check c = let e : c.from_residual.result ≡ Err c.in_err-check.field-0.0 = search rules in rw e (take_due_refused _ _ _ (call_stopped _ _ _ c.in_err-check.ensures))

pub returns-in_err-check_time : goal.returns-in_err-check_time
unfolding record_number
returns-in_err-check_time c = let e : c.from_residual-in_err-check_time.result ≡ Err c.in_err-check_time.field-0.0 = search rules in rw e (take_due_refused _ _ _ (call_timed _ _ _ c.in_ok-check.ensures c.in_err-check_time.ensures))

pub returns-then-write : goal.returns-then-write
unfolding record_number is_due
returns-then-write c = rw (c.new-coalesce.ensures, c.if-write.true) (take_due_told _ _ true (call_timed _ _ _ c.in_ok-check.ensures c.in_ok-check_time.ensures) (sym c.if-write.true ∙ search rules))

pub returns-else-write : goal.returns-else-write
unfolding record_number is_due
returns-else-write c = rw c.if-write.false (take_due_told _ _ false (call_timed _ _ _ c.in_ok-check.ensures c.in_ok-check_time.ensures) (sym c.if-write.false ∙ search rules))
