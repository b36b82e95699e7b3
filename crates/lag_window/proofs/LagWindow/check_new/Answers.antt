-- `lag_window::LagWindow::check_new` meets its contract. Assumes nothing.
use Rattle.std.proofs.Common.{refl, rules}
use Rattle.std.specs.Prelude.{◌≡◌, Err}
use Rattle.refusals.proofs.Answers.{never_zero}
use mathlib.Core.Path.{sym, ◌∙◌}
use Rattle.base.proofs.All.{told_no}
use Rattle.base.proofs.Choices.{no_ask}
use Rattle.buckets.proofs.Told.{buckets_asked, ranges_stop, ranges_let, ranges_go}
use Rattle.rules_window.specs.Checks.{new_number}
use Rattle.lag_window.proofs.Fits.{fit_ask}
use Rattle.lag_window.proofs.LagWindow.check_new.Goals as goal

pub returns-in_err-check_ranges : goal.returns-in_err-check_ranges
unfolding new_number
returns-in_err-check_ranges c = let e : c.from_residual.result ≡ Err c.in_err-check_ranges.field-0.0 = search rules in rw e (sym (ranges_stop _ _ _ c.in_err-check_ranges.ensures (never_zero _) _))

pub buckets_of-buckets-requires : goal.buckets_of-buckets-requires
buckets_of-buckets-requires c = buckets_asked _ _ _ (ranges_let _ _ _ c.in_ok-check_ranges.ensures refl)

pub lists_fit-requires : goal.lists_fit-requires
lists_fit-requires c = rw c.buckets_of-buckets.ensures (ranges_let _ _ _ c.in_ok-check_ranges.ensures refl).buckets_most

pub returns-then-not-lists_fit : goal.returns-then-not-lists_fit
unfolding new_number
returns-then-not-lists_fit c =
    sym (ranges_go _ _ _ c.in_ok-check_ranges.ensures refl _
    ∙ (fit_ask _ _ _ _ _ 0 ∙ no_ask 5 0 (told_no _ _ (rw c.buckets_of-buckets.ensures at c.lists_fit.ensures) c.if-not-lists_fit.true)))
