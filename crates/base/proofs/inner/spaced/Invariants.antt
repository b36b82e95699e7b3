-- `base::inner::spaced` meets its contract. Assumes nothing.
use Rattle.std.proofs.Common.{take}
use Rattle.base.proofs.Pairs.{Walked}
use Rattle.base.proofs.inner.spaced.Given as goal

abbrev pub invariant-loop-pair : goal.invariant-loop-pair
invariant-loop-pair l = Walked l.gap (take l.n l.times) l.pair-iterator
