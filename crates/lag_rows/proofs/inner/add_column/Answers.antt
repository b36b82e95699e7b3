-- `lag_rows::inner::add_column` meets its contract. Assumes nothing.
use Rattle.std.proofs.Common.{◌≡◌, arith, get_or, refl, ap}
use Rattle.lag_rows.proofs.Tallies.{sum_none, sum_next, row_next, rows_end, passed_none, passed_next, passed_end}
use Rattle.lag_rows.proofs.inner.add_column.Goals as goal

pub loop-r-init : goal.loop-r-init
loop-r-init c = (c.requires.rows_value, search sum_none, search passed_none)

pub loop-r-preserved : goal.loop-r-preserved
loop-r-preserved c =
    let at = ap (λ y. get_or c.args.counts.now y 0) c.place.ensures.0 in
    (row_next _ _ _ _ _ _ _ c.loop-r.invariant.0 c.loop-r-test.true at refl, sum_next _ _ _ _ _ _ _ c.loop-r.invariant.1 at refl, passed_next _ _ _ _ _ _ c.loop-r.invariant.2 at)

pub returns : goal.returns
returns c = let all : c.loop-r.r ≡ 11 = omega arith in record { rows_after = search rows_end; covered_2 = search passed_end; sum_value = rw all at c.loop-r.invariant.1 }
