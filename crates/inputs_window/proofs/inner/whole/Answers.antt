-- `inputs_window::inner::whole` meets its contract. Assumes nothing.
use Rattle.inputs_window.proofs.Parting.{part_asks, part_whole}
use Rattle.inputs_window.proofs.inner.whole.Goals as goal

pub whole-requires : goal.whole-requires
whole-requires c = let h = part_asks c.args.j c.args.window c.args.lists.starts.now c.args.lists.totals.now c.args.lists.counts.now c.args.lists.sums.now c.requires.parts_in c.requires.buckets_in_bounds in record { shaped = h.0; sums_len = h.1 }

pub returns : goal.returns
returns c = part_whole c.args.j c.args.window c.args.lists.starts.now c.args.lists.totals.now c.args.lists.counts.now c.args.lists.sums.now _ c.whole.ensures
