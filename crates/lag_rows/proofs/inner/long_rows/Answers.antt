-- `lag_rows::inner::long_rows` meets its contract. Assumes nothing.
use Rattle.std.proofs.Common.{◌+◌, ◌-◌, ◌*◌, drop, ◌∙◌, arith, length-take}
use Rattle.lag_rows.proofs.Parts.{row_cut}
use Rattle.base.proofs.Flat.{row_fits}
use Rattle.rules_window.proofs.Checking.{summed_none, summed_more, summed_stop_total, summed_stop_row, summed_end}
use Rattle.lag_rows.proofs.inner.long_rows.Goals as goal
use Rattle.lag_rows.proofs.inner.long_rows.Goals.{then-total-gt-MOST-via-then-total-gt-MOST, then-total-gt-MOST-via-else-total-gt-MOST+then-long_sum-total}

pub loop-i-init : goal.loop-i-init
loop-i-init c = search summed_none

pub overflow_mul-i : goal.overflow_mul-i
overflow_mul-i c = row_fits _ 11 _ _ (omega arith) (omega arith) c.requires.2 (omega arith)

pub long_sum-requires : goal.long_sum-requires
long_sum-requires c = omega (arith, length-take (c.loop-i.i * c.args.buckets + c.args.buckets - c.loop-i.i * c.args.buckets) (drop (c.loop-i.i * c.args.buckets) c.args.counts.now))

pub returns-then-total-gt-MOST : goal.returns-then-total-gt-MOST
returns-then-total-gt-MOST c =
    elim c.then-total-gt-MOST.branch [
      | then-total-gt-MOST-via-then-total-gt-MOST w ↦ summed_stop_total _ _ _ 11 _ (omega arith) w.if-total-gt-MOST.true
      | then-total-gt-MOST-via-else-total-gt-MOST+then-long_sum-total w ↦ summed_stop_row _ _ _ 11 _ _ (omega arith) w.if-total-gt-MOST.false (w.long_sum.ensures ∙ row_cut _ _ _ (omega arith) c.requires.2) w.if-long_sum-total.true
    ]

pub loop-i-preserved : goal.loop-i-preserved
loop-i-preserved c = summed_more _ _ _ _ _ c.loop-i.invariant c.if-total-gt-MOST.false (c.long_sum.ensures ∙ row_cut _ _ _ (omega arith) c.requires.2) c.if-long_sum-total.false

pub returns : goal.returns
returns c = summed_end _ _ _ 11 _ c.loop-i.invariant (omega arith) (omega arith)
