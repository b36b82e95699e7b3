-- `lag_window::inner::push` meets its contract. Assumes nothing.
use Rattle.lag_window.proofs.PushCalls.{drop_asks, open_asks, count_asks, push_is, push_sums_is}
use Rattle.lag_window.proofs.inner.push.Goals as goal

pub drop_old-kept-requires : goal.drop_old-kept-requires
drop_old-kept-requires c = let h = drop_asks c.args.time _ _ _ _ _ c.requires in record { seconds_bound = h.0; sums_value = h.1 }

pub open_second-opened-requires : goal.open_second-opened-requires
open_second-opened-requires c = let h = open_asks _ _ _ _ _ _ c.requires _ _ _ _ c.drop_old-kept.ensures.counts_after in record { seconds_in_bounds = h.0; seconds_in_bounds_2 = h.1 }

pub count-requires : goal.count-requires
count-requires c = let h = count_asks _ _ _ _ _ _ c.requires _ _ _ _ c.drop_old-kept.ensures.counts_after _ _ _ c.open_second-opened.ensures _ c.drop_old-kept.ensures.sums_after in record { seconds_nonzero = h.0; width_nonzero = h.1.0; totals_len = h.1.1.0; counts_len = h.1.1.1.0; sums_len = h.1.1.1.1.0; seconds_bound = h.1.1.1.1.1.0; buckets_bound = h.1.1.1.1.1.1 }

pub returns-clause-counts_after : goal.returns-clause-counts_after
returns-clause-counts_after c = push_is _ _ _ _ _ _ c.requires _ _ _ _ c.drop_old-kept.ensures.counts_after _ _ _ c.open_second-opened.ensures _ _ _ c.count.ensures.counts_after

pub returns-clause-sums_after : goal.returns-clause-sums_after
returns-clause-sums_after c = push_sums_is _ _ _ _ _ _ c.requires _ _ _ _ c.drop_old-kept.ensures.counts_after _ _ _ c.open_second-opened.ensures _ c.drop_old-kept.ensures.sums_after _ c.count.ensures.sums_after
