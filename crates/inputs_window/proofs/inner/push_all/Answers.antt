-- `inputs_window::inner::push_all` meets its contract. Assumes nothing.
use Rattle.rules_window.proofs.Parting.{pushed_all_sizes}
use Rattle.inputs_window.proofs.Parting.{part_push_asks, part_placed, part_sums}
use Rattle.rules_window.specs.Window.{pushed_all}
use Rattle.inputs_window.proofs.inner.push_all.Goals as goal

pub push_own-requires : goal.push_own-requires
push_own-requires c = part_push_asks c.args.j c.args.window c.args.lists.now.starts.now c.args.lists.now.totals.now c.args.lists.now.counts.now c.args.lists.now.sums.now c.args.time c.args.lags.now c.requires.parts_in c.requires.counts_value c.requires.sums_value c.requires.time_le_time_limit c.requires.counts_value_2

pub returns-clause-counts_after : goal.returns-clause-counts_after
returns-clause-counts_after c = part_placed c.args.j c.args.window c.args.lists.now.starts.now c.args.lists.now.totals.now c.args.lists.now.counts.now c.args.lists.now.sums.now (pushed_all c.args.time c.args.lags.now) (pushed_all_sizes _ _ _) _ _ _ _ c.push_own.ensures.counts_after

pub returns-clause-sums_after : goal.returns-clause-sums_after
returns-clause-sums_after c = part_sums c.args.j c.args.window c.args.lists.now.starts.now c.args.lists.now.totals.now c.args.lists.now.counts.now c.args.lists.now.sums.now (pushed_all c.args.time c.args.lags.now) _ c.push_own.ensures.sums_after
