-- `inputs_status::check_settled` meets its contract. Assumes nothing.
use Rattle.std.proofs.Common.{refl, rules}
use Rattle.std.specs.Prelude.{◌≡◌, Err}
use Rattle.refusals.proofs.Answers.{never_zero}
use borrow.Author.Tests.{lt-leb}
use Rattle.base.proofs.Choices.{no_ask}
use Rattle.rules_calls.specs.StatusChecks.{settled_number}
use Rattle.rules_record.proofs.InputNumbers.{refused_by, passed_by_law}
use Rattle.inputs_status.proofs.check_settled.Goals as goal

pub returns-in_err-check_known : goal.returns-in_err-check_known
unfolding settled_number
returns-in_err-check_known c = let e : c.from_residual.result ≡ Err c.in_err-check_known.field-0.0 = search rules in rw e (refused_by _ _ _ _ c.in_err-check_known.ensures.value (never_zero _) _)

pub returns-then-time-gt-TIME_LIMIT : goal.returns-then-time-gt-TIME_LIMIT
unfolding settled_number
returns-then-time-gt-TIME_LIMIT c = passed_by_law _ _ _ _ c.in_ok-check_known.ensures.value refl _ (no_ask 8 0 (lt-leb _ _ c.if-time-gt-TIME_LIMIT.true))
