-- `inputs_status::settled` meets its contract. Assumes nothing.
use Rattle.std.proofs.Common.{refl, rules}
use Rattle.std.specs.Prelude.{◌≡◌, Err}
use Rattle.refusals.proofs.Answers.{never_zero}
use mathlib.Core.Path.{ap, ◌∙◌}
use Rattle.rules_record.specs.declared.Slot.{Slot}
use Rattle.rules_calls.specs.Settled.{settled_slot, settled_reply}
use Rattle.rules_calls.proofs.StatusReplies.{answer_refused, answer_accepted}
use Rattle.inputs_status.proofs.settled.Goals as goal

pub returns-in_err-check_settled : goal.returns-in_err-check_settled
unfolding settled_reply
returns-in_err-check_settled c = let e : c.from_residual.result ≡ Err c.in_err-check_settled.field-0.0 = search rules in rw e (answer_refused _ c.in_err-check_settled.ensures (never_zero _) _)

pub returns : goal.returns
unfolding settled_reply
returns c = answer_accepted _ c.in_ok-check_settled.ensures refl _ (c.settled_slot.ensures ∙ ap (λ (x : Slot). settled_slot x c.args.inputs.policy.hold c.args.time) c.slot_at-slot.ensures)
