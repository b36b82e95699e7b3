-- `lag_rows::inner::sums_right` meets its contract. Assumes nothing.
use Rattle.std.proofs.Common.{◌≡◌, refl, ◌∙◌, arith, ne_eqb}
use Rattle.lag_rows.proofs.Tallies.{rows_start, covered_none, alike_to_none, alike_to_more, Summed, all_summed, columns_fail, totals_tell, long_fails, long_tells}
use Rattle.lag_rows.proofs.inner.sums_right.Goals as goal
use Rattle.lag_rows.proofs.inner.sums_right.Goals.{else-loop-b-test, then-loop-b-test+else-buckets-b-gt512}

pub loop-b-init : goal.loop-b-init
loop-b-init c = (omega arith, refl, refl, rows_start _ _ _ refl, covered_none _ _, alike_to_none _ _ _)

pub add_columns-bits-requires : goal.add_columns-bits-requires
add_columns-bits-requires c = record { k_bound = omega arith; rows_value = c.loop-b.invariant.3; covered = c.loop-b.invariant.4 }

pub loop-b-preserved : goal.loop-b-preserved
loop-b-preserved c =
    let e : c.min-k.result ≡ 512 = omega arith in
    (omega arith, omega arith, omega arith, rw e at c.add_columns-bits.ensures.rows_after, rw e at c.add_columns-bits.ensures.covered_2, rw e at (alike_to_more _ _ _ _ _ c.loop-b.wrong c.differing-wrong.result _ c.loop-b.invariant.5 c.add_columns-bits.ensures.columns c.differing-wrong.ensures))

pub returns-then-wrong-eq0 : goal.returns-then-wrong-eq0
returns-then-wrong-eq0 c =
    let all : Summed c.args.places.now.buckets c.args.lists.counts.now c.args.lists.sums.now c.loop-b-test.rows c.loop-b-test.bits c.loop-b-test.wrong = elim c.loop-b-test.branch [
      | else-loop-b-test w ↦ rw (w.rows-is, w.bits-is, w.wrong-is) (all_summed _ _ _ _ _ _ _ (omega arith) c.loop-b.invariant.4 c.loop-b.invariant.3 c.loop-b.invariant.5)
      | then-loop-b-test+else-buckets-b-gt512 w ↦ rw (w.rows-is, w.bits-is, w.wrong-is) (all_summed _ _ _ _ _ _ _ (omega arith) w.add_columns-bits.ensures.covered_2 w.add_columns-bits.ensures.rows_after (alike_to_more _ _ _ _ _ c.loop-b.wrong w.differing-wrong.result _ c.loop-b.invariant.5 w.add_columns-bits.ensures.columns w.differing-wrong.ensures))
    ] in
    totals_tell _ _ _ _ _ _ _ c.args.places.now.few (omega arith) (omega arith) c.if-bits-lt1048576.true all.covered all.each_row _ all.alike c.if-wrong-eq0.true _ c.totals_are.ensures

pub returns-else-wrong-eq0 : goal.returns-else-wrong-eq0
returns-else-wrong-eq0 c =
    let all : Summed c.args.places.now.buckets c.args.lists.counts.now c.args.lists.sums.now c.loop-b-test.rows c.loop-b-test.bits c.loop-b-test.wrong = elim c.loop-b-test.branch [
      | else-loop-b-test w ↦ rw (w.rows-is, w.bits-is, w.wrong-is) (all_summed _ _ _ _ _ _ _ (omega arith) c.loop-b.invariant.4 c.loop-b.invariant.3 c.loop-b.invariant.5)
      | then-loop-b-test+else-buckets-b-gt512 w ↦ rw (w.rows-is, w.bits-is, w.wrong-is) (all_summed _ _ _ _ _ _ _ (omega arith) w.add_columns-bits.ensures.covered_2 w.add_columns-bits.ensures.rows_after (alike_to_more _ _ _ _ _ c.loop-b.wrong w.differing-wrong.result _ c.loop-b.invariant.5 w.add_columns-bits.ensures.columns w.differing-wrong.ensures))
    ] in
    ne_eqb _ _ c.if-wrong-eq0.false ∙ columns_fail _ _ _ _ _ _ _ c.args.places.now.few (omega arith) (omega arith) c.if-bits-lt1048576.true all.covered all.each_row _ all.alike c.if-wrong-eq0.false

pub returns-then-long_rows : goal.returns-then-long_rows
returns-then-long_rows c = long_tells _ _ _ _ c.long_rows.ensures c.if-long_rows.true c.long_columns.ensures

pub returns-else-long_rows : goal.returns-else-long_rows
returns-else-long_rows c = c.if-long_rows.false ∙ long_fails _ _ _ c.long_rows.ensures c.if-long_rows.false
