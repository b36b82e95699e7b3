-- `base::shift` meets its contract. Assumes nothing.
use Rattle.std.proofs.Common.{◌≡◌, ◌++◌, drop, replicate}
use Rattle.base.proofs.shift.Given as goal

-- as many blanks as places passed stand before the places that are left
abbrev pub invariant-loop-x : goal.invariant-loop-x
invariant-loop-x g l = l.x-items ≡ replicate l.x-index l.blank ++ drop l.x-index l.initial.x-items
