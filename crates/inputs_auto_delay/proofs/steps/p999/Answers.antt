-- `inputs_auto_delay::steps::p999` meets its contract. Assumes nothing.
use mathlib.Core.Path.{sym, ap, ◌∙◌}
use Rattle.rules_tick.specs.AutoDelay.{quantile_lag}
use Rattle.std.specs.Prelude.{ℕ, Option}
use Rattle.rules_window.specs.Quantile.{found}
use Rattle.inputs_auto_delay.proofs.P999Cases.{short_by, long_by}
use Rattle.inputs_auto_delay.proofs.WindowAsks.{span_asks, quantile_asks}
use Rattle.rules_window.proofs.Thousandths.{highest_is}
use Rattle.inputs_auto_delay.proofs.steps.p999.Goals as goal

pub span-requires : goal.span-requires
span-requires c = span_asks _ _ _ _ _ c.requires c.window_in-window.ensures

pub returns-then-span-lt-MIN_SPAN : goal.returns-then-span-lt-MIN_SPAN
returns-then-span-lt-MIN_SPAN c = short_by c.args.inputs c.args.slot c.args.i c.args.starts.now c.args.sums.now c.window_in-window.ensures c.span.ensures c.if-span-lt-MIN_SPAN.true

pub quantile_upto-quantile-requires : goal.quantile_upto-quantile-requires
quantile_upto-quantile-requires c = let h = quantile_asks _ _ _ _ _ c.requires c.window_in-window.ensures highest_is _ in record { buckets_le_buckets_limit = h.0; buckets_in_bounds = h.1.0; placeable = h.1.1 }

pub returns-in_default : goal.returns-in_default
returns-in_default c = λ totals counts times peaks own. sym (ap (λ (q : Option ℕ). quantile_lag (found q)) c.in_default.is) ∙ long_by c.args.inputs c.args.slot _ _ _ c.window_in-window.ensures c.span.ensures highest_is c.if-span-lt-MIN_SPAN.false c.quantile_upto-quantile.ensures totals counts times peaks own

pub returns : goal.returns
returns c = λ totals counts times peaks own. sym (ap (λ (q : Option ℕ). quantile_lag (found q)) c.in-Some.is) ∙ long_by c.args.inputs c.args.slot _ _ _ c.window_in-window.ensures c.span.ensures highest_is c.if-span-lt-MIN_SPAN.false c.quantile_upto-quantile.ensures totals counts times peaks own
