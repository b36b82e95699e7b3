-- `inputs_auto_delay::steps::next_for` meets its contract. Assumes nothing.
use Rattle.std.specs.Prelude.{◌*◌}
use native.Mathlib.Nat.{add-sub_cancel_left}
use Rattle.rules_record.specs.Lent.{lists}
use Rattle.rules_tick.proofs.AutoDelayCases.{next_by}
use Rattle.rules_tick.proofs.Ready.{told_own, auto_p999, auto_told, next_asks}
use Rattle.inputs_auto_delay.proofs.steps.next_for.Goals as goal

pub p999-p999-requires : goal.p999-p999-requires
p999-p999-requires c = auto_p999 _ _ _ _ _ _ c.requires.1 c.requires.0

pub next_own-requires : goal.next_own-requires
next_own-requires c = let p = auto_told _ _ _ _ _ _ c.requires.1 c.requires.0 c.p999-p999.ensures in next_asks _ _ _ _ _ _ c.requires.1 c.requires.0 p c.current.ensures (add-sub_cancel_left (c.args.i * 600) 600)

pub returns : goal.returns
returns c = λ totals counts own. let p = told_own _ _ _ _ c.args.times.now c.args.peaks.now c.requires.0 c.p999-p999.ensures totals counts own in next_by _ _ _ _ (lists c.args.starts.now totals counts c.args.sums.now c.args.times.now c.args.peaks.now) c.requires.0 p c.current.ensures (add-sub_cancel_left (c.args.i * 600) 600) c.next_own.ensures
