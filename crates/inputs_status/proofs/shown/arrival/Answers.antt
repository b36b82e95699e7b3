-- `inputs_status::shown::arrival` meets its contract. Assumes nothing.
use Rattle.std.specs.Prelude.{◌*◌}
use mathlib.Core.Path.{◌∙◌}
use native.Mathlib.Omega.{arith}
use Rattle.base.specs.Lists.{part}
use Rattle.rules_window.specs.ColumnSums.{as_one_second}
use Rattle.rules_window.proofs.Thousandths.{half_is, high_is, highest_is}
use Rattle.rules_calls.proofs.StatusShows.{arrival_by_law}
use Rattle.inputs_status.proofs.ShownCases.{quantile_asks}
use Rattle.inputs_status.proofs.shown.arrival.Goals as goal

pub quantile_upto-half-requires : goal.quantile_upto-half-requires
quantile_upto-half-requires c = let h = quantile_asks c.requires 500 half_is (omega arith) in record { buckets_le_buckets_limit = h.0; buckets_in_bounds = h.1.0; placeable = h.1.1 }

pub quantile_upto-high-requires : goal.quantile_upto-high-requires
quantile_upto-high-requires c = let h = quantile_asks c.requires 990 high_is (omega arith) in record { buckets_le_buckets_limit = h.0; buckets_in_bounds = h.1.0; placeable = h.1.1 }

pub quantile_upto-highest-requires : goal.quantile_upto-highest-requires
quantile_upto-highest-requires c = let h = quantile_asks c.requires 999 highest_is (omega arith) in record { buckets_le_buckets_limit = h.0; buckets_in_bounds = h.1.0; placeable = h.1.1 }

pub returns : goal.returns
returns c = c.arrival_of.ensures ∙ arrival_by_law (as_one_second c.args.window.buckets c.args.window.width (part (c.args.i * c.args.window.buckets) c.args.window.buckets c.args.sums.now)) c.quantile_upto-half.ensures half_is c.quantile_upto-high.ensures high_is c.quantile_upto-highest.ensures highest_is
