-- `lag_window::inner::count` meets its contract. Assumes nothing.
use Rattle.lag_window.proofs.Pushing.{count_fits, sum_fits, counted_by, summed_by}
use Rattle.lag_window.proofs.inner.count.Goals as goal

pub overflow_add-lists-2 : goal.overflow_add-lists-2
overflow_add-lists-2 c = count_fits c.args.lists.now.counts.now _ _ _ _ _ c.place-at.ensures.0 c.bucket-b.ensures.0 c.requires.seconds_bound.1

pub overflow_add-lists-3 : goal.overflow_add-lists-3
overflow_add-lists-3 c = sum_fits c.args.lists.now.sums.now _ _ c.bucket-b.ensures.0 c.requires.buckets_bound

pub returns-clause-counts_after : goal.returns-clause-counts_after
returns-clause-counts_after c = counted_by _ _ _ _ _ _ c.bucket-b.ensures.0 c.place-at.ensures.0 c.args.lists.now.starts.now

pub returns-clause-sums_after : goal.returns-clause-sums_after
returns-clause-sums_after c = summed_by _ _ c.args.lists.now.sums.now c.bucket-b.ensures.0
