-- `inputs_window::inner::clear` meets its contract. Assumes nothing.
use Rattle.inputs_window.proofs.Parting.{part_asks, part_placed, part_sums}
use Rattle.rules_window.specs.Window.{cleared, fresh}
use mathlib.Core.Path.{refl}
use Rattle.inputs_window.proofs.inner.clear.Goals as goal

pub clear_own-requires : goal.clear_own-requires
unfolding fresh
clear_own-requires c = let h = part_asks c.args.j c.args.window c.args.lists.now.starts.now c.args.lists.now.totals.now c.args.lists.now.counts.now c.args.lists.now.sums.now c.requires.parts_in c.requires.buckets_in_bounds in record { shaped = h.0; sums_len = h.1 }

pub returns-clause-counts_after : goal.returns-clause-counts_after
unfolding fresh
returns-clause-counts_after c = part_placed c.args.j c.args.window c.args.lists.now.starts.now c.args.lists.now.totals.now c.args.lists.now.counts.now c.args.lists.now.sums.now cleared (refl, refl) _ _ _ _ c.clear_own.ensures.counts_after

pub returns-clause-sums_after : goal.returns-clause-sums_after
unfolding fresh
returns-clause-sums_after c = part_sums c.args.j c.args.window c.args.lists.now.starts.now c.args.lists.now.totals.now c.args.lists.now.counts.now c.args.lists.now.sums.now cleared _ c.clear_own.ensures.sums_after
