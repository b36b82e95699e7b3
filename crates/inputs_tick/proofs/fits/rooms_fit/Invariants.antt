-- `inputs_tick::fits::rooms_fit` meets its contract. Assumes nothing.
use Rattle.rules_tick.proofs.LagCounting.{RoomsBelow}
use Rattle.inputs_tick.proofs.fits.rooms_fit.Given as goal

abbrev pub invariant-loop-i : goal.invariant-loop-i
invariant-loop-i l = RoomsBelow l.fn.inputs l.fn.looks l.time l.starts l.totals l.i
