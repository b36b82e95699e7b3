-- `lag_rows::inner::add_blocks` meets its contract. Assumes nothing.
use Rattle.std.proofs.Common.{◌≡◌, ◌*◌}
use Rattle.base.specs.Lists.{sum_from}
use Rattle.lag_rows.proofs.BlockSums.{Kept}
use Rattle.lag_rows.proofs.inner.add_blocks.Given as goal

abbrev pub invariant-loop-i : goal.invariant-loop-i
invariant-loop-i l = (l.all ≡ sum_from 0 (64 * l.i) l.sums) × Kept l.i l.sums l.blocks
