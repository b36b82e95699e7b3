-- `inputs_tick::fits::lags_fit` meets its contract. Assumes nothing.
use Rattle.std.proofs.Common.{rules}
use mathlib.Core.Path.{ap}
use Rattle.rules_tick.specs.declared.Look.{Look}
use Rattle.inputs_tick.proofs.Shown.{shown, used, past}
use Rattle.rules_tick.proofs.LagCounting.{lags_none, lags_more, lags_stop, lags_end}
use Rattle.rules_tick.specs.Looks.{look_at, no_look}
use Rattle.inputs_tick.proofs.fits.lags_fit.Goals as goal

pub loop-look-init : goal.loop-look-init
loop-look-init c = lags_none c.args.inputs c.args.looks c.args.lags.now

pub returns-then-left-look : goal.returns-then-left-look
unfolding look_at no_look
returns-then-left-look c = lags_stop c.args.inputs c.args.looks c.args.lags.now _ _ c.loop-look.invariant (used c.args.inputs.count c.args.looks c.loop-look.look-index c.loop-look-test.true) (ap (λ (x : Look). x.lags) (shown c.args.inputs.count c.args.looks c.loop-look.look-index c.loop-look-test.true)) c.if-left-look.true

pub loop-look-preserved : goal.loop-look-preserved
unfolding look_at no_look
loop-look-preserved c = lags_more c.args.inputs c.args.looks c.args.lags.now _ _ c.loop-look.invariant (used c.args.inputs.count c.args.looks c.loop-look.look-index c.loop-look-test.true) (ap (λ (x : Look). x.lags) (shown c.args.inputs.count c.args.looks c.loop-look.look-index c.loop-look-test.true)) c.if-left-look.false

pub returns : goal.returns
returns c = lags_end c.args.inputs c.args.looks c.args.lags.now _ _ c.loop-look.invariant (past c.args.inputs.count c.args.looks c.loop-look.look-index c.requires (search (rules, c.well_formed)) c.loop-look-test.false)
