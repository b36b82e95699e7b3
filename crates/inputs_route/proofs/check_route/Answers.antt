-- `inputs_route::check_route` meets its contract. Assumes nothing.
use Rattle.std.proofs.Common.{refl, rules}
use Rattle.std.specs.Prelude.{◌≡◌, Err}
use Rattle.refusals.proofs.Answers.{never_zero}
use mathlib.Core.Path.{◌∙◌}
use Rattle.base.proofs.All.{told_no, told_yes}
use Rattle.base.proofs.Choices.{yes_ask, no_ask}
use Rattle.rules_record.proofs.Numbers.{refused_by, passed_by_law}
use Rattle.rules_calls.specs.RouteChecks.{route_number}
use Rattle.inputs_route.proofs.check_route.Goals as goal

pub returns-in_err-check_input : goal.returns-in_err-check_input
unfolding route_number
returns-in_err-check_input c = let e : c.from_residual.result ≡ Err c.in_err-check_input.field-0.0 = search rules in rw e (refused_by _ _ _ _ _ c.in_err-check_input.ensures (never_zero _) _)

pub returns-then-not-wanted_fits : goal.returns-then-not-wanted_fits
unfolding route_number
returns-then-not-wanted_fits c = passed_by_law _ _ _ _ _ c.in_ok-check_input.ensures refl _ (no_ask 9 _ (told_no _ _ c.wanted_fits.ensures c.if-not-wanted_fits.true))

pub returns-then-not-reader_fits : goal.returns-then-not-reader_fits
unfolding route_number
returns-then-not-reader_fits c = passed_by_law _ _ _ _ _ c.in_ok-check_input.ensures refl _ (yes_ask 9 _ (told_yes _ _ c.wanted_fits.ensures c.if-not-wanted_fits.false) ∙ no_ask 10 0 (told_no _ _ c.reader_fits.ensures c.if-not-reader_fits.true))

pub returns : goal.returns
unfolding route_number
returns c = passed_by_law _ _ _ _ _ c.in_ok-check_input.ensures refl _ (yes_ask 9 _ (told_yes _ _ c.wanted_fits.ensures c.if-not-wanted_fits.false) ∙ yes_ask 10 0 (told_yes _ _ c.reader_fits.ensures c.if-not-reader_fits.false))
