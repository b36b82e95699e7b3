-- `inputs_status::check_channels` meets its contract. Assumes nothing.
use Rattle.std.proofs.Common.{refl, rules}
use Rattle.std.specs.Prelude.{◌≡◌, Err}
use Rattle.refusals.proofs.Answers.{never_zero}
use borrow.Author.Tests.{lt-leb}
use Rattle.base.proofs.Choices.{no_ask}
use Rattle.rules_calls.specs.StatusChecks.{channels_number}
use Rattle.rules_record.proofs.InputNumbers.{refused_by, passed_by_law}
use Rattle.inputs_status.proofs.check_channels.Goals as goal

pub returns-in_err-check_known : goal.returns-in_err-check_known
unfolding channels_number
returns-in_err-check_known c = let e : c.from_residual.result ≡ Err c.in_err-check_known.field-0.0 = search rules in rw e (refused_by _ _ _ _ c.in_err-check_known.ensures.value (never_zero _) _)

pub returns-then-channels-gt-CHANNELS : goal.returns-then-channels-gt-CHANNELS
unfolding channels_number
returns-then-channels-gt-CHANNELS c = passed_by_law _ _ _ _ c.in_ok-check_known.ensures.value refl _ (no_ask 10 0 (lt-leb _ _ c.if-channels-gt-CHANNELS.true))
