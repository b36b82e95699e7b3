-- `delay_hold::DelayHold::check_next` meets its contract. Assumes nothing.
use Rattle.std.proofs.Common.{refl, rules}
use Rattle.std.specs.Prelude.{◌≡◌, Err}
use Rattle.refusals.proofs.Answers.{never_zero}
use Rattle.delay_hold.proofs.Gate.{settings_most, number_refused, number_settled}
use mathlib.Core.Path.{sym, ◌∙◌}
use Rattle.delay_hold.proofs.DelayHold.check_next.Goals as goal

pub returns-in_err-check_settings : goal.returns-in_err-check_settings
returns-in_err-check_settings c = let e : c.from_residual.result ≡ Err c.in_err-check_settings.field-0.0 = search rules in rw e (number_refused _ _ _ _ _ _ _ c.in_err-check_settings.ensures (never_zero _))

pub check_state-requires : goal.check_state-requires
check_state-requires c = settings_most _ _ (sym c.in_ok-check_settings.ensures ∙ refl)

pub returns : goal.returns
returns c = c.check_state.ensures ∙ number_settled _ _ _ _ _ _ (sym c.in_ok-check_settings.ensures ∙ refl)
