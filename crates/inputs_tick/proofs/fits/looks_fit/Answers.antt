-- `inputs_tick::fits::looks_fit` meets its contract. Assumes nothing.
use Rattle.std.proofs.Common.{rules}
use mathlib.Core.Path.{ap, ◌∙◌}
use Rattle.rules_tick.specs.declared.Look.{Look}
use Rattle.rules_tick.specs.TickChecks.{look_fits}
use Rattle.inputs_tick.proofs.Shown.{shown, used, past}
use Rattle.rules_tick.proofs.LagCounting.{looks_none, looks_more, looks_stop, looks_end_law}
use Rattle.rules_tick.specs.Looks.{look_at, no_look}
use Rattle.inputs_tick.proofs.fits.looks_fit.Goals as goal

pub loop-look-init : goal.loop-look-init
loop-look-init c = looks_none c.args.inputs c.args.looks

pub returns-then-not-look_fits : goal.returns-then-not-look_fits
unfolding look_at no_look
returns-then-not-look_fits c = looks_stop c.args.inputs c.args.looks _ (used c.args.inputs.count c.args.looks c.loop-look.look-index c.loop-look-test.true) (c.look_fits.ensures ∙ ap (λ (x : Look). look_fits c.args.inputs.policy.delay_max x) (shown c.args.inputs.count c.args.looks c.loop-look.look-index c.loop-look-test.true)) c.if-not-look_fits.true

pub loop-look-preserved : goal.loop-look-preserved
unfolding look_at no_look
loop-look-preserved c = looks_more c.args.inputs c.args.looks _ (used c.args.inputs.count c.args.looks c.loop-look.look-index c.loop-look-test.true) (c.look_fits.ensures ∙ ap (λ (x : Look). look_fits c.args.inputs.policy.delay_max x) (shown c.args.inputs.count c.args.looks c.loop-look.look-index c.loop-look-test.true)) c.loop-look.invariant c.if-not-look_fits.false

pub returns : goal.returns
returns c = looks_end_law c.args.inputs c.args.looks _ c.loop-look.invariant (past c.args.inputs.count c.args.looks c.loop-look.look-index c.requires (search (rules, c.well_formed)) c.loop-look-test.false)
