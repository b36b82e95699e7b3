-- `inputs_update::check_manual` meets its contract. Assumes nothing.
use mathlib.Core.Path.{sym, ◌∙◌}
use Rattle.base.proofs.Choices.{yes_ask, no_ask}
use Rattle.base.proofs.All.{told_no, told_yes}
use Rattle.rules_calls.specs.UpdateChecks.{manual_number}
use Rattle.rules_calls.proofs.UpdateParts.{kind_asked}
use Rattle.inputs_update.proofs.check_manual.Goals as goal

pub returns-then-not-kind_fits : goal.returns-then-not-kind_fits
unfolding manual_number
returns-then-not-kind_fits c = sym (no_ask 12 _ (told_no _ _ (kind_asked c.args.setting _ c.kind_of.ensures c.kind_fits.ensures) c.if-not-kind_fits.true))

pub returns-then-not-desk_fits : goal.returns-then-not-desk_fits
unfolding manual_number
returns-then-not-desk_fits c = sym (yes_ask 12 _ (told_yes _ _ (kind_asked c.args.setting _ c.kind_of.ensures c.kind_fits.ensures) c.if-not-kind_fits.false) ∙ no_ask 21 0 (told_no _ _ c.desk_fits.ensures c.if-not-desk_fits.true))

pub returns : goal.returns
unfolding manual_number
returns c = sym (yes_ask 12 _ (told_yes _ _ (kind_asked c.args.setting _ c.kind_of.ensures c.kind_fits.ensures) c.if-not-kind_fits.false) ∙ yes_ask 21 0 (told_yes _ _ c.desk_fits.ensures c.if-not-desk_fits.false))
