-- `inputs_tick::fits::lags_fit` meets its contract. Assumes nothing.
use Rattle.rules_tick.proofs.LagCounting.{LagsLeft}
use Rattle.inputs_tick.proofs.fits.lags_fit.Given as goal

abbrev pub invariant-loop-look : goal.invariant-loop-look
invariant-loop-look l = LagsLeft l.fn.inputs l.fn.looks l.lags l.look-index l.left
