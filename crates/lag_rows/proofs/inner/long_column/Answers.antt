-- `lag_rows::inner::long_column` meets its contract. Assumes nothing.
use Rattle.std.proofs.Common.{arith, rules}
use borrow.Author.Rules.{scaled_Fits}
use Rattle.base.proofs.Flat.{row_fits, flat_in, flat_fits}
use Rattle.rules_window.proofs.Reaching.{column_none, column_more, column_end}
use Rattle.lag_rows.proofs.inner.long_column.Goals as goal

pub loop-r-init : goal.loop-r-init
loop-r-init c = (search column_none, omega arith)

pub overflow_mul-r : goal.overflow_mul-r
overflow_mul-r c = search (row_fits, rules)

pub overflow_add-r : goal.overflow_add-r
overflow_add-r c = search (flat_fits, rules)

pub offset_bounds-counts-r : goal.offset_bounds-counts-r
offset_bounds-counts-r c = search (scaled_Fits, flat_in, rules)

pub bounds-counts-r : goal.bounds-counts-r
bounds-counts-r c = search (flat_in, rules)

pub loop-r-preserved : goal.loop-r-preserved
loop-r-preserved c = (search column_more, omega arith)

pub returns : goal.returns
returns c = (search column_end, omega arith)
