-- `inputs_update::check_update` meets its contract. Assumes nothing.
use Rattle.std.proofs.Common.{refl, rules}
use Rattle.std.specs.Prelude.{◌≡◌, Err}
use Rattle.refusals.proofs.Answers.{never_zero}
use mathlib.Core.Path.{sym}
use Rattle.rules_calls.specs.UpdateChecks.{update_number}
use Rattle.rules_record.proofs.Numbers.{refused_by, passed_by_law}
use Rattle.inputs_update.proofs.check_update.Goals as goal

pub returns-in_err-check_input : goal.returns-in_err-check_input
unfolding update_number
returns-in_err-check_input c = let e : c.from_residual.result ≡ Err c.in_err-check_input.field-0.0 = search rules in rw e (refused_by _ _ _ _ _ c.in_err-check_input.ensures (never_zero _) _)

pub returns : goal.returns
unfolding update_number
returns c = passed_by_law _ _ _ _ _ c.in_ok-check_input.ensures refl _ (sym c.check_manual.ensures)
