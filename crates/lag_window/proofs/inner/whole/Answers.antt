-- `lag_window::inner::whole` meets its contract. Assumes nothing.
use mathlib.Core.Path.{sym}
use Rattle.std.proofs.Common.{arith, rules}
use borrow.Author.Tests.{tests}
use Rattle.base.proofs.All.{both_no}
use Rattle.base.proofs.Rows.{up_to_told}
use Rattle.rules_window.proofs.Wholes.{few_fails, apart_fails, span_fails, timely_fails, starts_fail, totals_fail, rows_tell}
use Rattle.lag_window.proofs.inner.whole.Goals as goal

pub returns-then-n-gt-SECONDS : goal.returns-then-n-gt-SECONDS
returns-then-n-gt-SECONDS c = both_no _ _ (sym (few_fails _ c.if-n-gt-SECONDS.true))

pub returns-then-not-spaced : goal.returns-then-not-spaced
returns-then-not-spaced c = both_no _ _ (sym (apart_fails _ _ c.spaced.ensures c.if-not-spaced.true))

pub returns-then-span-gt-LAG_WINDOW : goal.returns-then-span-gt-LAG_WINDOW
returns-then-span-gt-LAG_WINDOW c = both_no _ _ (sym (span_fails _ _ c.span.ensures c.if-span-gt-LAG_WINDOW.true))

pub returns-then-not-all : goal.returns-then-not-all
returns-then-not-all c = both_no _ _ (sym (timely_fails _ _ (up_to_told _ _ _ (omega arith) _ _ _ c.iter.ensures.rest c.all.ensures.ran (λ x q k. search (rules, tests)) (λ x q k. search (rules, tests))) c.if-not-all.true))

pub returns-then-not-blank : goal.returns-then-not-blank
returns-then-not-blank c = both_no _ _ (sym (starts_fail _ _ c.blank.ensures c.if-not-blank.true))

pub returns-then-not-blank-2 : goal.returns-then-not-blank-2
returns-then-not-blank-2 c = both_no _ _ (sym (totals_fail _ _ c.blank-2.ensures c.if-not-blank-2.true))

pub returns : goal.returns
returns c = rows_tell _ _ _ _ _ _ _ _ c.requires.shaped c.if-n-gt-SECONDS.false c.spaced.ensures c.if-not-spaced.false c.span.ensures c.if-span-gt-LAG_WINDOW.false (up_to_told _ _ _ (omega arith) _ _ _ c.iter.ensures.rest c.all.ensures.ran (λ x q k. search (rules, tests)) (λ x q k. search (rules, tests))) c.if-not-all.false c.blank.ensures c.if-not-blank.false c.blank-2.ensures c.if-not-blank-2.false (rw c.row_places-places.ensures at c.right.ensures)
