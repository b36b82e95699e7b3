-- `lag_rows::inner::edge` meets its contract. Assumes nothing.
use Rattle.base.proofs.Flat.{edge_fits}
use Rattle.lag_rows.proofs.inner.edge.Goals as goal

pub overflow_mul-result : goal.overflow_mul-result
overflow_mul-result c = search edge_fits
