-- `lag_window::inner::drop_old` meets its contract. Assumes nothing.
use Rattle.std.proofs.Common.{arith}
use Rattle.lag_window.proofs.Pushing.{stale_told, old_le, old_rows_fit, dropped_by, dropped_none, take_asks, dropped_sums_by, dropped_sums_none}
use Rattle.lag_window.proofs.inner.drop_old.Goals as goal

pub returns-then-k-eq0-clause-counts_after : goal.returns-then-k-eq0-clause-counts_after
returns-then-k-eq0-clause-counts_after c = dropped_none _ _ _ _ _ _ (stale_told _ _ _ _ _ c.view.ensures.starts (omega arith) c.stale-k.ensures) c.if-k-eq0.true

pub returns-then-k-eq0-clause-sums_after : goal.returns-then-k-eq0-clause-sums_after
returns-then-k-eq0-clause-sums_after c = dropped_sums_none _ _ _ _ _ _ _ c.requires.sums_value (stale_told _ _ _ _ _ c.view.ensures.starts (omega arith) c.stale-k.ensures) c.if-k-eq0.true

pub take_rows-requires : goal.take_rows-requires
take_rows-requires c = let h = take_asks _ c.args.time _ _ _ _ _ c.requires.sums_value (stale_told _ _ _ _ _ c.view.ensures.starts (omega arith) c.stale-k.ensures) c.requires.seconds_bound.0 c.requires.seconds_bound.2 in record { k_bound = h.0; by_index = h.1 }

pub overflow_mul-k : goal.overflow_mul-k
overflow_mul-k c = old_rows_fit _ _ _ _ (stale_told _ _ _ _ _ c.view.ensures.starts (omega arith) c.stale-k.ensures) _ _ c.requires.seconds_bound.0 c.requires.seconds_bound.2 (omega arith)

pub overflow_sub-result : goal.overflow_sub-result
overflow_sub-result c = old_le _ _ _ _ (stale_told _ _ _ _ _ c.view.ensures.starts (omega arith) c.stale-k.ensures)

pub returns-clause-counts_after : goal.returns-clause-counts_after
returns-clause-counts_after c = dropped_by c.args.window c.args.time _ _ _ _ _ _ _ (stale_told _ _ _ _ _ c.view.ensures.starts (omega arith) c.stale-k.ensures) c.shift.ensures c.shift-2.ensures c.shift-3.ensures

pub returns-clause-sums_after : goal.returns-clause-sums_after
returns-clause-sums_after c = dropped_sums_by _ _ _ _ _ _ _ c.requires.sums_value (stale_told _ _ _ _ _ c.view.ensures.starts (omega arith) c.stale-k.ensures) _ c.take_rows.ensures
