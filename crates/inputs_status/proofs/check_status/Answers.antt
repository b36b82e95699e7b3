-- `inputs_status::check_status` meets its contract. Assumes nothing.
use Rattle.std.proofs.Common.{refl, rules}
use Rattle.std.specs.Prelude.{◌≡◌, Err}
use Rattle.refusals.proofs.Answers.{never_zero}
use mathlib.Core.Path.{◌∙◌}
use borrow.Author.Tests.{le-leb, lt-leb}
use Rattle.base.proofs.Choices.{yes_ask, no_ask}
use Rattle.rules_calls.specs.StatusChecks.{status_number}
use Rattle.rules_record.proofs.InputNumbers.{refused_by, passed_by_law}
use Rattle.inputs_status.proofs.check_status.Goals as goal

pub returns-in_err-check_known : goal.returns-in_err-check_known
unfolding status_number
returns-in_err-check_known c = let e : c.from_residual.result ≡ Err c.in_err-check_known.field-0.0 = search rules in rw e (record { value = refused_by _ _ _ _ c.in_err-check_known.ensures.value (never_zero _) _; sized = c.in_err-check_known.ensures.sized })

pub returns-then-policy-applied : goal.returns-then-policy-applied
unfolding status_number
returns-then-policy-applied c = record { value = passed_by_law _ _ _ _ c.in_ok-check_known.ensures.value refl _ (no_ask 10 _ (lt-leb _ _ c.if-policy-applied.true)); sized = c.in_ok-check_known.ensures.sized }

pub returns-then-channels-gt-CHANNELS : goal.returns-then-channels-gt-CHANNELS
unfolding status_number
returns-then-channels-gt-CHANNELS c = record { value = passed_by_law _ _ _ _ c.in_ok-check_known.ensures.value refl _ (yes_ask 10 _ (le-leb _ _ c.if-policy-applied.false) ∙ no_ask 10 0 (lt-leb _ _ c.if-channels-gt-CHANNELS.true)); sized = c.in_ok-check_known.ensures.sized }
