-- `delay_hold::check_settings` meets its contract. Assumes nothing.
use Rattle.std.proofs.Common.{refl, rules}
use Rattle.std.specs.Prelude.{◌≡◌, Err}
use Rattle.refusals.proofs.Answers.{never_zero}
use mathlib.Core.Path.{sym, ◌∙◌}
use Rattle.base.proofs.All.{told_yes, told_no}
use Rattle.base.proofs.Choices.{yes_ask, no_ask}
use Rattle.buckets.proofs.Told.{ranges_stop, ranges_go}
use Rattle.delay_hold.specs.Checks.{settings_number}
use Rattle.delay_hold.proofs.check_settings.Goals as goal

pub returns-in_err-check_ranges : goal.returns-in_err-check_ranges
unfolding settings_number
returns-in_err-check_ranges c = let e : c.from_residual.result ≡ Err c.in_err-check_ranges.field-0.0 = search rules in rw e (sym (ranges_stop _ _ _ c.in_err-check_ranges.ensures (never_zero _) _))

pub returns-then-not-times_allowed : goal.returns-then-not-times_allowed
unfolding settings_number
returns-then-not-times_allowed c = sym (ranges_go _ _ _ c.in_ok-check_ranges.ensures refl _ ∙ no_ask 3 _ (told_no _ _ c.times_allowed.ensures c.if-not-times_allowed.true))

pub returns-then-not-margins_allowed : goal.returns-then-not-margins_allowed
unfolding settings_number
returns-then-not-margins_allowed c =
    sym (ranges_go _ _ _ c.in_ok-check_ranges.ensures refl _
    ∙ yes_ask 3 _ (told_yes _ _ c.times_allowed.ensures c.if-not-times_allowed.false)
    ∙ no_ask 4 _ (told_no _ _ c.margins_allowed.ensures c.if-not-margins_allowed.true))

pub returns : goal.returns
unfolding settings_number
returns c =
    sym (ranges_go _ _ _ c.in_ok-check_ranges.ensures refl _
    ∙ yes_ask 3 _ (told_yes _ _ c.times_allowed.ensures c.if-not-times_allowed.false)
    ∙ yes_ask 4 _ (told_yes _ _ c.margins_allowed.ensures c.if-not-margins_allowed.false))
