-- `inputs_status::status` meets its contract. Assumes nothing.
use Rattle.std.proofs.Common.{refl, rules}
use Rattle.std.specs.Prelude.{◌≡◌, Err}
use Rattle.refusals.proofs.Answers.{never_zero}
use Rattle.rules_calls.specs.Status.{status_reply}
use Rattle.rules_calls.proofs.StatusReplies.{status_refused, status_accepted}
use Rattle.inputs_status.proofs.StatusNumbers.{status_showable, status_own}
use Rattle.inputs_status.proofs.status.Goals as goal

pub returns-in_err-check_status : goal.returns-in_err-check_status
unfolding status_reply
returns-in_err-check_status c = let e : c.from_residual.result ≡ Err c.in_err-check_status.field-0.0 = search rules in rw e (status_refused _ c.in_err-check_status.ensures.value (never_zero _) _ refl)

pub status-requires : goal.status-requires
status-requires c = status_showable _ _ _ _ _ c.in_ok-check_status.ensures.sized c.in_ok-check_status.ensures.value refl

pub returns : goal.returns
unfolding status_reply
returns c = status_accepted _ c.in_ok-check_status.ensures.value refl _ (c.status.ensures _ _ _ _ (status_own _ _ _ _ _ c.in_ok-check_status.ensures.sized c.in_ok-check_status.ensures.value refl))
