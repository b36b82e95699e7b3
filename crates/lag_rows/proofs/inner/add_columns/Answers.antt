-- `lag_rows::inner::add_columns` meets its contract. Assumes nothing.
use Rattle.std.proofs.Common.{◌≡◌, add-zero, add_assoc, arith}
use Rattle.lag_rows.proofs.Tallies.{columns_none, columns_next}
use Rattle.lag_rows.proofs.inner.add_columns.Goals as goal

pub loop-i-init : goal.loop-i-init
loop-i-init c = (rw add-zero c.requires.rows_value, rw add-zero c.requires.covered, search columns_none)

pub add_column-column-requires : goal.add_column-column-requires
add_column-column-requires c = record { b_lt_buckets = omega arith; rows_value = c.loop-i.invariant.0; covered = c.loop-i.invariant.1 }

pub loop-i-preserved : goal.loop-i-preserved
loop-i-preserved c = (rw (← add_assoc) c.add_column-column.ensures.rows_after, rw (← add_assoc) c.add_column-column.ensures.covered_2, columns_next _ _ _ _ _ _ c.loop-i.invariant.2 (omega arith) c.add_column-column.ensures.sum_value)

pub returns : goal.returns
returns c = let all : c.loop-i.i ≡ c.args.k = omega arith in record { rows_after = rw all at c.loop-i.invariant.0; covered_2 = rw all at c.loop-i.invariant.1; columns = rw all at c.loop-i.invariant.2 }
