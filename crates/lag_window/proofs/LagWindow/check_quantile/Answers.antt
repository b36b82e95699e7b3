-- `lag_window::LagWindow::check_quantile` meets its contract. Assumes nothing.
use Rattle.std.proofs.Common.{refl, rules}
use Rattle.std.specs.Prelude.{◌≡◌, Err}
use Rattle.refusals.proofs.Answers.{never_zero}
use Rattle.rules_window.proofs.Numbers.{quantile_stops, quantile_outside, quantile_passes}
use Rattle.lag_window.proofs.LagWindow.check_quantile.Goals as goal

pub returns-in_err-check : goal.returns-in_err-check
returns-in_err-check c = let e : c.from_residual.result ≡ Err c.in_err-check.field-0.0 = search rules in rw e (quantile_stops _ _ _ _ c.in_err-check.ensures (never_zero _))

pub returns-then-not-from_zero_to_one : goal.returns-then-not-from_zero_to_one
returns-then-not-from_zero_to_one c = quantile_outside _ _ _ _ c.in_ok-check.ensures _ refl c.from_zero_to_one.ensures c.if-not-from_zero_to_one.true

pub returns : goal.returns
returns c = quantile_passes _ _ _ _ c.in_ok-check.ensures _ refl c.from_zero_to_one.ensures c.if-not-from_zero_to_one.false
