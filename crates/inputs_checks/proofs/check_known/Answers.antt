-- `inputs_checks::check_known` meets its contract. Assumes nothing.
use Rattle.std.proofs.Common.{refl, rules}
use Rattle.std.specs.Prelude.{◌≡◌, Err}
use Rattle.refusals.proofs.Answers.{never_zero}
use Rattle.rules_record.proofs.InputNumbers.{record_refused, input_missing, input_there}
use Rattle.inputs_checks.proofs.check_known.Goals as goal

pub returns-in_err-check_record : goal.returns-in_err-check_record
returns-in_err-check_record c = let e : c.from_residual.result ≡ Err c.in_err-check_record.field-0.0 = search rules in rw e (record { value = record_refused _ _ _ _ c.in_err-check_record.ensures.value (never_zero _) 0; sized = c.in_err-check_record.ensures.sized })

pub returns-then-inputs-input : goal.returns-then-inputs-input
returns-then-inputs-input c = record { value = input_missing _ _ _ _ c.in_ok-check_record.ensures.value refl c.if-inputs-input.true 0; sized = c.in_ok-check_record.ensures.sized }

pub returns : goal.returns
returns c = record { value = input_there _ _ _ _ c.in_ok-check_record.ensures.value refl c.if-inputs-input.false 0; sized = c.in_ok-check_record.ensures.sized }
