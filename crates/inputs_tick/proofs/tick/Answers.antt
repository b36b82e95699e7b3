-- `inputs_tick::tick` meets its contract. Assumes nothing.
use Rattle.std.proofs.Common.{refl, rules}
use Rattle.std.specs.Prelude.{◌≡◌, Err}
use Rattle.refusals.proofs.Answers.{never_zero}
use Rattle.rules_tick.proofs.TickWholly.{wholly_by}
use Rattle.rules_tick.proofs.TickReplies.{leaves_refused, passes, leaves_accepted, ticked_by}
use Rattle.rules_tick.proofs.TickChecking.{inputs_asked, words_enough}
use Rattle.rules_record.specs.Lending.{lists_lent}
use Rattle.std.specs.Prelude.{length}
use native.Mathlib.Omega.{arith}
use mathlib.Core.Path.{ap, ◌∙◌}
use Rattle.rules_record.specs.Lent.{Lists}
use Rattle.rules_tick.specs.TickChecks.{tick_number}
use Rattle.inputs_tick.proofs.tick.Goals as goal

pub returns-in_err-check_tick-clause-told : goal.returns-in_err-check_tick-clause-told
returns-in_err-check_tick-clause-told c = let number = c.in_err-check_tick.ensures.value ∙ ap (λ (x : Lists). tick_number c.args.inputs x (length c.args.commands.now) c.args.looks c.args.lags.now c.args.time) c.view.ensures in let e : c.from_residual.result ≡ Err c.in_err-check_tick.field-0.0 = search rules in rw e (let a = c.args in let l = lists_lent a.lists.now in leaves_refused a.inputs l a.commands.now _ a.lags.now _ number (never_zero _))

pub tick_inputs-all-requires : goal.tick_inputs-all-requires
tick_inputs-all-requires c = let number = c.in_ok-check_tick.ensures.value ∙ ap (λ (x : Lists). tick_number c.args.inputs x (length c.args.commands.now) c.args.looks c.args.lags.now c.args.time) c.view.ensures in let a = c.args in let l = lists_lent a.lists.now in record { inputs_asked = inputs_asked _ l (length a.commands.now) _ _ _ c.in_ok-check_tick.ensures.sized (passes a.inputs l a.commands.now _ a.lags.now _ number refl); count_in_bounds = omega (arith, c.fill.auto.self, words_enough _ l (length a.commands.now) _ _ _ c.in_ok-check_tick.ensures.sized (passes a.inputs l a.commands.now _ a.lags.now _ number refl)) }

pub returns-clause-told : goal.returns-clause-told
returns-clause-told c = let number = c.in_ok-check_tick.ensures.value ∙ ap (λ (x : Lists). tick_number c.args.inputs x (length c.args.commands.now) c.args.looks c.args.lags.now c.args.time) c.view.ensures in let a = c.args in let l = lists_lent a.lists.now in ticked_by (leaves_accepted a.inputs l a.commands.now _ a.lags.now _ number refl (wholly_by _ _ _ _ l a.commands.now (words_enough _ l (length a.commands.now) _ _ _ c.in_ok-check_tick.ensures.sized (passes a.inputs l a.commands.now _ a.lags.now _ number refl)) (c.fill.ensures.after (λ y e. e)) c.tick_inputs-all.ensures.affects.effected c.prune_instances-kept.ensures c.saved-done.ensures)) (search (rules, c.tick_inputs-all.ensures.affects.same))
