-- `inputs_window::inner::quantile_upto` meets its contract. Assumes nothing.
use Rattle.inputs_window.proofs.Parting.{part_quantile_asks, part_quantile}
use Rattle.inputs_window.proofs.inner.quantile_upto.Goals as goal

pub quantile_upto-requires : goal.quantile_upto-requires
quantile_upto-requires c = let h = part_quantile_asks _ _ c.args.j c.args.window c.args.sums.now c.requires.buckets_le_buckets_limit c.requires.buckets_in_bounds c.requires.placeable in record { buckets_le_buckets_limit = h.0; sums_len = h.1.0; placeable = h.1.1 }

pub returns : goal.returns
returns c = part_quantile c.args.q c.args.limit c.args.j c.args.window c.args.sums.now _ c.quantile_upto.ensures
