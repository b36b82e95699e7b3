-- `lag_rows::inner::take_rows` meets its contract. Assumes nothing.
use Rattle.std.proofs.Common.{◌≡◌, ◌∙◌, arith}
use Rattle.rules_window.proofs.SumsKept.{less_none, less_more}
use Rattle.lag_rows.proofs.Taken.{row_in_sums}
use Rattle.lag_rows.proofs.inner.take_rows.Goals as goal

pub loop-r-init : goal.loop-r-init
loop-r-init c = search less_none

pub take_row-requires : goal.take_row-requires
take_row-requires c = record { r_bound = (omega arith, omega arith, omega arith); by_index = row_in_sums _ _ _ _ _ _ c.loop-r.invariant c.loop-r-test.true c.requires.by_index }

pub loop-r-preserved : goal.loop-r-preserved
loop-r-preserved c = c.take_row.ensures ∙ less_more _ _ _ _ _ c.loop-r.invariant

pub returns : goal.returns
returns c = let all : c.loop-r.r ≡ c.args.k = omega arith in rw all at c.loop-r.invariant
