-- `buckets::check_ranges` meets its contract. Assumes nothing.
use mathlib.Core.Path.{sym, ◌∙◌}
use borrow.Author.Tests.{le-leb, lt-leb}
use Rattle.base.proofs.Choices.{yes_ask, no_ask}
use Rattle.base.proofs.All.{told_yes, told_no}
use Rattle.buckets.specs.Ranges.{buckets_few, ranges_number}
use Rattle.buckets.proofs.Told.{reaches_told, width_told}
use Rattle.buckets.proofs.check_ranges.Goals as goal

pub returns-then-not-reaches_allowed : goal.returns-then-not-reaches_allowed
unfolding ranges_number
returns-then-not-reaches_allowed c = sym (no_ask 2 _ (told_no _ _ c.reaches_allowed.ensures c.if-not-reaches_allowed.true))

pub returns-then-not-width_allowed : goal.returns-then-not-width_allowed
unfolding ranges_number
returns-then-not-width_allowed c =
    sym (yes_ask 2 _ (told_yes _ _ c.reaches_allowed.ensures c.if-not-reaches_allowed.false)
    ∙ no_ask 17 _ (told_no _ _ c.width_allowed.ensures c.if-not-width_allowed.true))

pub buckets_of-requires : goal.buckets_of-requires
buckets_of-requires c =
    let reaches = reaches_told _ _ (told_yes _ _ c.reaches_allowed.ensures c.if-not-reaches_allowed.false) in
    (reaches.0, reaches.1, (width_told _ (told_yes _ _ c.width_allowed.ensures c.if-not-width_allowed.false)).0)

pub returns-then-buckets_of-gt-BUCKETS_LIMIT : goal.returns-then-buckets_of-gt-BUCKETS_LIMIT
unfolding ranges_number buckets_few
returns-then-buckets_of-gt-BUCKETS_LIMIT c =
    sym (yes_ask 2 _ (told_yes _ _ c.reaches_allowed.ensures c.if-not-reaches_allowed.false)
    ∙ yes_ask 17 _ (told_yes _ _ c.width_allowed.ensures c.if-not-width_allowed.false)
    ∙ no_ask 18 _ (lt-leb _ _ (rw c.buckets_of.ensures at c.if-buckets_of-gt-BUCKETS_LIMIT.true)))

pub returns : goal.returns
unfolding ranges_number buckets_few
returns c =
    sym (yes_ask 2 _ (told_yes _ _ c.reaches_allowed.ensures c.if-not-reaches_allowed.false)
    ∙ yes_ask 17 _ (told_yes _ _ c.width_allowed.ensures c.if-not-width_allowed.false)
    ∙ yes_ask 18 _ (le-leb _ _ (rw c.buckets_of.ensures at c.if-buckets_of-gt-BUCKETS_LIMIT.false)))
