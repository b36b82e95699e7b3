-- `inputs_auto_delay::inner::arrive` meets its contract. Assumes nothing.
use Rattle.std.specs.Prelude.{[]}
use mathlib.Core.Path.{refl}
use Rattle.inputs_auto_delay.proofs.ArriveCases.{arrived_by}
use Rattle.inputs_auto_delay.proofs.WindowAsks.{push_asks}
use Rattle.rules_record.specs.Lent.{lists}
use Rattle.inputs_auto_delay.proofs.inner.arrive.Goals as goal

pub push_all-window-requires : goal.push_all-window-requires
push_all-window-requires c = let h = push_asks _ (lists c.args.lent.now.starts.now c.args.lent.now.totals.now c.args.lent.now.counts.now c.args.lent.now.sums.now [] []) _ _ c.args.lags.now c.requires c.slot_at-slot.ensures c.window_in-before.ensures in record { parts_in = h.0; buckets_in_bounds = h.1.0; counts_value = h.1.1.0; sums_value = h.1.1.1.0; time_le_time_limit = h.1.1.1.1.0; counts_value_2 = h.1.1.1.1.1 }

pub returns-clause-arrived : goal.returns-clause-arrived
returns-clause-arrived c = λ times peaks. let old = c.args.lent.now in let new = c.push_all-window.new.lists in arrived_by _ _ _ c.args.lags.now (lists old.starts.now old.totals.now old.counts.now old.sums.now times peaks) (lists new.starts.now new.totals.now new.counts.now new.sums.now times peaks) c.slot_at-slot.ensures c.window_in-before.ensures c.push_all-window.ensures.counts_after c.push_all-window.ensures.sums_after refl refl c.last_lag.ensures
