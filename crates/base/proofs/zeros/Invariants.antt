-- `base::zeros` meets its contract. Assumes nothing.
use Rattle.std.proofs.Common.{◌≡◌, ◌&&◌, take}
use Rattle.std.specs.List.{list_all}
use Rattle.base.proofs.Quarters.{zero_to}
use Rattle.base.proofs.zeros.Given as goal

-- the first i places of each quarter
abbrev pub invariant-loop-i : goal.invariant-loop-i
invariant-loop-i g l = g.T.Bits.is_zero l.bits ≡ zero_to g.T.Bits.is_zero l.quarter l.s l.i

-- .. all of them, and the places passed after them
abbrev pub invariant-loop-x : goal.invariant-loop-x
invariant-loop-x g l = g.T.Bits.is_zero l.bits ≡ (zero_to g.T.Bits.is_zero l.quarter l.s l.quarter && list_all g.T.Bits.is_zero (take l.x-index l.x-items))
