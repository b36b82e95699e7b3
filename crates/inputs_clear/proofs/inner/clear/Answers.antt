-- `inputs_clear::inner::clear` meets its contract. Assumes nothing.
use Rattle.rules_record.specs.Lending.{lists_lent}
use Rattle.inputs_clear.proofs.ClearParts.{before_held, cleared_by}
use native.Mathlib.Omega.{arith}
use mathlib.Core.Path.{ap}
use Rattle.std.specs.Prelude.{length}
use Rattle.inputs_clear.proofs.inner.clear.Goals as goal

pub clear-window-requires : goal.clear-window-requires
clear-window-requires c = let h = before_held _ _ c.args.slot c.window_in-before.ensures (lists_lent c.args.lists.now) c.requires.fitting c.requires.i_lt_count in record { parts_in = h.0; buckets_in_bounds = h.1 }

pub clear_hold-hold-requires : goal.clear_hold-hold-requires
clear_hold-hold-requires c =
    let times = ap length c.clear-window.ensures.times_kept in
    let peaks = ap length c.clear-window.ensures.peaks_kept in (
      omega (arith, c.requires.i_lt_count, c.requires.fitting.allowed.most),
      omega (arith, c.requires.i_lt_count, c.requires.fitting.long.times, times),
      omega (arith, c.requires.i_lt_count, c.requires.fitting.long.peaks, peaks),
    )

pub returns-clause-cleared : goal.returns-clause-cleared
returns-clause-cleared c = cleared_by c.args.inputs c.args.i c.args.slot (lists_lent c.args.lists.now) (lists_lent c.clear-window.new.lists) c.window_in-before.ensures c.clear-window.ensures.counts_after c.clear-window.ensures.sums_after c.clear-window.ensures.times_kept c.clear-window.ensures.peaks_kept c.clear_hold-hold.ensures c.put_slot.ensures
