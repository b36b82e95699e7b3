-- `lag_rows::inner::total_upto` meets its contract. Assumes nothing.
use Rattle.std.proofs.Common.{arith}
use Rattle.rules_window.proofs.Reaching.{total_is, shown_few}
use Rattle.lag_rows.proofs.inner.total_upto.Goals as goal

pub add_blocks-requires : goal.add_blocks-requires
add_blocks-requires c = record { m_in_bounds = omega arith; sums_bound = search shown_few }

pub returns : goal.returns
returns c = record { value = total_is _ _ _ _ c.args.row.shape.0 _ c.shown.ensures _ c.add_blocks.ensures.value; blocks = rw c.shown.ensures at c.add_blocks.ensures.blocks }
