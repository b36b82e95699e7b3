-- `lag_rows::inner::quantile_upto` meets its contract. Assumes nothing.
use Rattle.std.proofs.Common.{◌≡◌, None, arith, rules}
use Rattle.rules_window.proofs.Reaching.{quantile_none, quantile_nowhere, quantile_end, bucket_found}
use Rattle.lag_rows.proofs.inner.quantile_upto.Goals as goal

pub returns-then-total-eq0 : goal.returns-then-total-eq0
returns-then-total-eq0 c = quantile_none _ _ _ _ _ _ _ c.total_upto-total.ensures.value c.if-total-eq0.true

pub reached-requires : goal.reached-requires
reached-requires c = c.total_upto-total.ensures.blocks

pub returns-in_err-b : goal.returns-in_err-b
returns-in_err-b c = let e : c.from_residual.result ≡ None = search rules in rw e (quantile_nowhere _ _ _ _ _ _ _ c.total_upto-total.ensures.value _ c.quantile_place-target.ensures _ c.reached.ensures c.if-total-eq0.false c.in_err-b.was)

pub overflow_add-b : goal.overflow_add-b
overflow_add-b c = omega (arith, bucket_found _ _ _ _ _ _ _ c.total_upto-total.ensures.value _ c.quantile_place-target.ensures _ c.reached.ensures _ c.in_ok-b.was)

pub edge-requires : goal.edge-requires
edge-requires c = omega (arith, bucket_found _ _ _ _ _ _ _ c.total_upto-total.ensures.value _ c.quantile_place-target.ensures _ c.reached.ensures _ c.in_ok-b.was)

pub returns : goal.returns
returns c = quantile_end _ _ _ _ _ _ _ c.total_upto-total.ensures.value _ c.quantile_place-target.ensures _ c.reached.ensures c.if-total-eq0.false _ _ c.in_ok-b.was c.edge.ensures
