-- `lag_window::LagWindow::span` meets its contract. Assumes nothing.
use Rattle.std.proofs.Common.{refl, rules}
use Rattle.std.specs.Prelude.{◌≡◌, Err}
use Rattle.refusals.proofs.Answers.{never_zero}
use Rattle.rules_window.proofs.Numbers.{span_refused, span_made, span_asks}
use Rattle.lag_window.proofs.LagWindow.span.Goals as goal

pub returns-in_err-check : goal.returns-in_err-check
returns-in_err-check c = let e : c.from_residual.result ≡ Err c.in_err-check.field-0.0 = search rules in rw e (span_refused _ _ _ c.in_err-check.ensures (never_zero _))

pub span-requires : goal.span-requires
span-requires c = span_asks _ _ _ c.in_ok-check.ensures refl

pub returns : goal.returns
returns c = span_made _ _ _ _ c.in_ok-check.ensures refl c.span.ensures
