-- `inputs_tick::fits::rooms_fit` meets its contract. Assumes nothing.
use Rattle.std.proofs.Common.{rules}
use mathlib.Core.Path.{ap, ◌∙◌}
use Rattle.rules_tick.specs.declared.Look.{Look}
use Rattle.rules_window.specs.Checks.{room_for}
use Rattle.rules_record.specs.Lent.{lists, window_of}
use Rattle.inputs_tick.proofs.Shown.{shown, used, past}
use Rattle.rules_tick.proofs.LagCounting.{rooms_none, rooms_ask, rooms_more, rooms_stop, rooms_end}
use Rattle.rules_tick.specs.Looks.{look_at, no_look}
use Rattle.inputs_tick.proofs.fits.rooms_fit.Goals as goal

pub loop-i-init : goal.loop-i-init
loop-i-init c = rooms_none c.args.inputs c.args.looks c.args.time c.args.starts.now c.args.totals.now

pub room_fits-requires : goal.room_fits-requires
unfolding look_at no_look
room_fits-requires c = rooms_ask c.args.inputs c.args.looks c.args.time c.args.starts.now c.args.totals.now _ (used c.args.inputs.count c.args.looks c.loop-i.i c.loop-i-test.true) c.requires

pub returns-then-not-room_fits : goal.returns-then-not-room_fits
unfolding look_at no_look
returns-then-not-room_fits c = rooms_stop c.args.inputs c.args.looks c.args.time c.args.starts.now c.args.totals.now _ (used c.args.inputs.count c.args.looks c.loop-i.i c.loop-i-test.true) (λ counts sums times peaks. c.room_fits.ensures counts sums times peaks ∙ ap (λ (x : Look). room_for c.args.time x.lags (window_of c.args.inputs (lists c.args.starts.now c.args.totals.now counts sums times peaks) c.loop-i.i)) (shown c.args.inputs.count c.args.looks c.loop-i.i c.loop-i-test.true)) c.if-not-room_fits.true

pub loop-i-preserved : goal.loop-i-preserved
unfolding look_at no_look
loop-i-preserved c = rooms_more c.args.inputs c.args.looks c.args.time c.args.starts.now c.args.totals.now _ (used c.args.inputs.count c.args.looks c.loop-i.i c.loop-i-test.true) (λ counts sums times peaks. c.room_fits.ensures counts sums times peaks ∙ ap (λ (x : Look). room_for c.args.time x.lags (window_of c.args.inputs (lists c.args.starts.now c.args.totals.now counts sums times peaks) c.loop-i.i)) (shown c.args.inputs.count c.args.looks c.loop-i.i c.loop-i-test.true)) c.loop-i.invariant c.if-not-room_fits.false

pub returns : goal.returns
returns c = rooms_end c.args.inputs c.args.looks c.args.time c.args.starts.now c.args.totals.now _ c.loop-i.invariant (past c.args.inputs.count c.args.looks c.loop-i.i c.requires.most (search (rules, c.well_formed)) c.loop-i-test.false)
