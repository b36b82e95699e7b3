-- `inputs_update::update` meets its contract. Assumes nothing.
use Rattle.std.proofs.Common.{refl, rules}
use Rattle.std.specs.Prelude.{◌≡◌, ℕ, Err}
use Rattle.refusals.proofs.Answers.{never_zero}
use Rattle.rules_calls.proofs.UpdateReplies.{update_refused, clear_asked, update_auto, manual_asked, update_manual}
use mathlib.Core.Path.{ap, ◌∙◌}
use Rattle.rules_record.specs.declared.Inputs.{Inputs}
use Rattle.rules_record.specs.Lent.{Lists}
use Rattle.rules_calls.specs.declared.DelaySetting.{DelaySetting}
use Rattle.rules_calls.specs.UpdateChecks.{update_number}
use Rattle.inputs_update.proofs.update.Goals as goal

-- what the checks say of the lists that they read is so of the lists that were lent
number_lent : (s : Inputs) (words input : ℕ) (setting : DelaySetting) (time : ℕ) {read lent : Lists} {n : ℕ} → read ≡ lent → n ≡ update_number s read words input setting time → n ≡ update_number s lent words input setting time
number_lent s words input setting time e h = h ∙ ap (λ (l : Lists). update_number s l words input setting time) e

pub returns-in_err-check_update-clause-left : goal.returns-in_err-check_update-clause-left
returns-in_err-check_update-clause-left c = let e : c.from_residual.result ≡ Err c.in_err-check_update.field-0.0 = search rules in rw e (update_refused _ _ _ _ _ _ (number_lent _ _ _ _ _ c.view.ensures c.in_err-check_update.ensures) (never_zero _))

pub clear-requires : goal.clear-requires
clear-requires c = let h = clear_asked _ _ c.args.commands.now _ _ _ (number_lent _ _ _ _ _ c.view.ensures c.in_ok-check_update.ensures) refl in record { fitting = h.0; i_lt_count = h.1 }

pub returns-in_default-clause-left : goal.returns-in_default-clause-left
returns-in_default-clause-left c = update_auto _ _ _ _ _ _ (number_lent _ _ _ _ _ c.view.ensures c.in_ok-check_update.ensures) refl c.kind_of-kind.ensures c.slot_at.ensures c.with_kind-slot.ensures c.in_default.is c.clear.ensures.cleared (c.fill.ensures.after (λ y e. e))

pub delay_set-requires : goal.delay_set-requires
delay_set-requires c = manual_asked _ _ c.args.commands.now _ _ _ (number_lent _ _ _ _ _ c.view.ensures c.in_ok-check_update.ensures) refl

pub returns-clause-left : goal.returns-clause-left
returns-clause-left c = update_manual _ _ _ _ _ _ (number_lent _ _ _ _ _ c.view.ensures c.in_ok-check_update.ensures) refl c.kind_of-kind.ensures c.slot_at.ensures c.with_kind-slot.ensures c.in-Ms.is c.samples.ensures c.delay_set.ensures
