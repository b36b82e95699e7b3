-- `inputs_tick::fits::looks_fit` meets its contract. Assumes nothing.
use Rattle.rules_tick.proofs.LagCounting.{LooksBelow}
use Rattle.inputs_tick.proofs.fits.looks_fit.Given as goal

abbrev pub invariant-loop-look : goal.invariant-loop-look
invariant-loop-look l = LooksBelow l.fn.inputs l.fn.looks l.look-index
