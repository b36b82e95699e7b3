-- `inputs_status::shown::status` meets its contract. Assumes nothing.
use Rattle.std.specs.Prelude.{◌*◌}
use native.Mathlib.Omega.{arith}
use mathlib.Core.Path.{refl}
use Rattle.rules_record.specs.Lent.{lists}
use Rattle.inputs_status.proofs.ShownCases.{countable, lags_within, peaks_in, span_is, status_by_law}
use Rattle.inputs_status.proofs.shown.status.Goals as goal

pub arrival-arrival_lag_ms-requires : goal.arrival-arrival_lag_ms-requires
arrival-arrival_lag_ms-requires c = countable _ _ c.requires.checked _ c.requires.input c.slot_at-slot.ensures c.window_in-window.ensures

pub overflow_mul-from : goal.overflow_mul-from
overflow_mul-from c = omega (arith, c.requires.input, c.requires.checked.fitting.allowed.most)

pub overflow_add-end : goal.overflow_add-end
overflow_add-end c = omega (arith, c.requires.input, c.requires.checked.fitting.allowed.most)

pub offset_bounds-peaks-from : goal.offset_bounds-peaks-from
offset_bounds-peaks-from c = omega (arith, c.requires.input, c.requires.checked.fitting.allowed.most)

pub slice_bounds-worst_ms-end : goal.slice_bounds-worst_ms-end
slice_bounds-worst_ms-end c = lags_within _ _ c.requires.checked _ c.requires.input c.slot_at-slot.ensures

pub worst_ms-worst_lag_ms-requires : goal.worst_ms-worst_lag_ms-requires
worst_ms-worst_lag_ms-requires c = peaks_in _ _ c.requires.checked _ c.requires.input c.slot_at-slot.ensures (span_is (c.args.i * 600) 600)

pub overflow_add-policy : goal.overflow_add-policy
overflow_add-policy c = omega (arith, c.requires.applied_most, c.requires.checked.fitting.allowed.sound.offset, c.requires.checked.fitting.allowed.sound.maximum)

pub returns : goal.returns
returns c starts totals counts times own = status_by_law c.args.inputs (lists starts totals counts c.args.sums.now times c.args.peaks.now) c.args.i c.args.applied c.args.channels c.slot_at-slot.ensures c.source_of-source.ensures c.window_in-window.ensures c.arrival-arrival_lag_ms.ensures own (span_is (c.args.i * 600) 600) c.worst_ms-worst_lag_ms.ensures c.in_ms.ensures.proposed refl c.channels_shown.ensures c.ms.ensures c.ms-2.ensures c.ms-3.ensures
