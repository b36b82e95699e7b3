-- `lag_rows::inner::long_columns` meets its contract. Assumes nothing.
use Rattle.std.proofs.Common.{arith}
use Rattle.rules_window.proofs.Checking.{columns_none, columns_more, columns_stop, columns_end}
use Rattle.lag_rows.proofs.inner.long_columns.Goals as goal

pub loop-b-init : goal.loop-b-init
loop-b-init c = search columns_none

pub returns-then-long_column-sum : goal.returns-then-long_column-sum
returns-then-long_column-sum c = columns_stop _ _ _ _ _ (omega arith) c.long_column.ensures.0 c.if-long_column-sum.true

pub loop-b-preserved : goal.loop-b-preserved
loop-b-preserved c = columns_more _ _ _ _ _ c.loop-b.invariant c.long_column.ensures.0 c.if-long_column-sum.false

pub returns : goal.returns
returns c = columns_end _ _ _ _ c.loop-b.invariant (omega arith) (omega arith)
