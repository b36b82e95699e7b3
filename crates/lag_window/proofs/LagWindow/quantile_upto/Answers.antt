-- `lag_window::LagWindow::quantile_upto` meets its contract. Assumes nothing.
use Rattle.std.proofs.Common.{refl, rules}
use Rattle.std.specs.Prelude.{◌≡◌, Err}
use Rattle.refusals.proofs.Answers.{never_zero}
use Rattle.rules_window.proofs.Numbers.{quantile_asks, quantile_refused, quantile_made}
use Rattle.lag_window.proofs.LagWindow.quantile_upto.Goals as goal

pub returns-in_err-check_quantile : goal.returns-in_err-check_quantile
returns-in_err-check_quantile c = let e : c.from_residual.result ≡ Err c.in_err-check_quantile.field-0.0 = search rules in rw e (quantile_refused _ _ _ _ c.args.limit c.in_err-check_quantile.ensures (never_zero _))

pub quantile_upto-requires : goal.quantile_upto-requires
quantile_upto-requires c = let h = quantile_asks _ _ _ _ _ c.in_ok-check_quantile.ensures refl in record { buckets_le_buckets_limit = h.0; sums_len = h.1.0; placeable = h.1.1 }

pub returns : goal.returns
returns c = quantile_made _ _ _ _ c.args.limit _ c.in_ok-check_quantile.ensures refl c.quantile_upto.ensures
