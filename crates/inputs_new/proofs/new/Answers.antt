-- `inputs_new::new` meets its contract. Assumes nothing.
use Rattle.std.proofs.Common.{refl, rules}
use Rattle.std.specs.Prelude.{◌≡◌, ℕ, Err}
use Rattle.refusals.proofs.Answers.{never_zero}
use Rattle.rules_record.specs.Lent.{Lists}
use Rattle.rules_record.specs.Lending.{lists_lent}
use Rattle.rules_calls.specs.declared.Settings.{Settings}
use Rattle.rules_calls.specs.NewChecks.{settings_number}
use Rattle.rules_calls.proofs.NewReplies.{new_refused, new_late, load_asked, new_full, start_asked, new_done}
use mathlib.Core.Path.{ap, ◌∙◌}
use native.Mathlib.Omega.{arith}
use Rattle.inputs_commands.proofs.Steps.{left_by}
use Rattle.std.specs.Option.{is_some}
use Rattle.inputs_new.proofs.new.Goals as goal

-- what the checks say of the lists that they read is so of the lists that were lent
settings_lent : (settings : Settings) (bytes delays words : ℕ) {read lent : Lists} {n : ℕ} → read ≡ lent → n ≡ settings_number settings bytes delays read words 0 → n ≡ settings_number settings bytes delays lent words 0
settings_lent settings bytes delays words e h = h ∙ ap (λ (l : Lists). settings_number settings bytes delays l words 0) e

pub returns-in_err-check_settings-clause-left : goal.returns-in_err-check_settings-clause-left
returns-in_err-check_settings-clause-left c = let e : c.from_residual.result ≡ Err c.in_err-check_settings.field-0.0 = search rules in rw e (new_refused _ _ _ _ _ _ _ (settings_lent _ _ _ _ c.view.ensures c.in_err-check_settings.ensures) refl (never_zero _))

pub returns-then-time-gt-TIME_LIMIT-clause-left : goal.returns-then-time-gt-TIME_LIMIT-clause-left
returns-then-time-gt-TIME_LIMIT-clause-left c = new_late _ _ _ _ _ _ _ (settings_lent _ _ _ _ c.view.ensures c.in_ok-check_settings.ensures) refl refl c.if-time-gt-TIME_LIMIT.true

pub load-requires : goal.load-requires
load-requires c = load_asked c.args.settings c.args.kinds c.args.flows.now c.args.delays.now c.args.time (lists_lent c.args.lists.now) c.args.commands.now (settings_lent _ _ _ _ c.view.ensures c.in_ok-check_settings.ensures) refl

pub returns-in_default-clause-left : goal.returns-in_default-clause-left
returns-in_default-clause-left c = new_full _ _ _ _ _ _ _ (settings_lent _ _ _ _ c.view.ensures c.in_ok-check_settings.ensures) refl refl c.if-time-gt-TIME_LIMIT.false c.blank_for.ensures c.load.ensures.fits_value (ap is_some c.in_default.is)

pub started-requires : goal.started-requires
started-requires c = let h = start_asked c.args.settings c.args.kinds c.args.flows.now c.args.delays.now c.args.time (lists_lent c.args.lists.now) c.args.commands.now (settings_lent _ _ _ _ c.view.ensures c.in_ok-check_settings.ensures) refl (c.fill.ensures.after (λ y e. e)) in (omega (arith, h.0), h.1)

pub returns-clause-left : goal.returns-clause-left
returns-clause-left c = left_by (new_done _ _ _ _ _ _ _ (settings_lent _ _ _ _ c.view.ensures c.in_ok-check_settings.ensures) refl c.if-time-gt-TIME_LIMIT.false c.blank_for.ensures c.load.ensures.fits_value (ap is_some c.in-Some.is) (λ h. c.load.ensures.inputs_value _ c.in-Some.is) c.zero_lists.ensures.zeroed (c.fill.ensures.after (λ y e. e)) c.started.ensures.did) (search (rules, c.started.ensures.same))
