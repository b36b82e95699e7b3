-- `buckets::inner::buckets_of` meets its contract. Assumes nothing.
use borrow.Author.Rules.{rules}
use Rattle.buckets.specs.Ranges.{buckets_of}
use Rattle.buckets.proofs.Divisions.{buckets_cast, buckets_fit}
use Rattle.buckets.proofs.inner.buckets_of.Goals as goal

pub overflow_cast-result : goal.overflow_cast-result
unfolding buckets_of
overflow_cast-result c = search buckets_cast

pub overflow_add-result-3 : goal.overflow_add-result-3
unfolding buckets_of
overflow_add-result-3 c = search buckets_fit

pub returns : goal.returns
unfolding buckets_of
returns c = search rules
