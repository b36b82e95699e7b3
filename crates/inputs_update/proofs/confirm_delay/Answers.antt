-- `inputs_update::confirm_delay` meets its contract. Assumes nothing.
use Rattle.std.proofs.Common.{refl, rules}
use Rattle.std.specs.Prelude.{◌≡◌, Err}
use Rattle.refusals.proofs.Answers.{never_zero}
use Rattle.rules_calls.specs.UpdateChecks.{confirm_number}
use Rattle.rules_record.proofs.Numbers.{refused_by}
use Rattle.rules_calls.proofs.UpdateReplies.{confirm_refused, confirm_nothing, taken_asked, confirm_asked, confirm_pending}
use Rattle.inputs_update.proofs.confirm_delay.Goals as goal

pub returns-in_err-check_input : goal.returns-in_err-check_input
unfolding confirm_number
returns-in_err-check_input c = let e : c.from_residual.result ≡ Err c.in_err-check_input.field-0.0 = search rules in rw e (confirm_refused _ _ _ _ _ c.in_err-check_input.ensures (never_zero _) (refused_by _ _ _ _ _ c.in_err-check_input.ensures (never_zero _) _))

pub returns-in_default : goal.returns-in_default
returns-in_default c = confirm_nothing _ _ _ _ _ c.in_ok-check_input.ensures refl c.slot_at-slot.ensures c.in_default.is

pub taken-requires : goal.taken-requires
taken-requires c = taken_asked _ _ c.args.commands.now _ _ c.in_ok-check_input.ensures refl c.slot_at-slot.ensures

pub delay_set-requires : goal.delay_set-requires
delay_set-requires c = confirm_asked _ _ c.args.commands.now _ _ c.in_ok-check_input.ensures refl c.slot_at-slot.ensures

pub returns : goal.returns
returns c = confirm_pending _ _ _ _ _ c.in_ok-check_input.ensures refl c.slot_at-slot.ensures c.in-Some.is c.taken.ensures c.delay_set.ensures
