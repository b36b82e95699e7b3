-- `inputs_clear::inner::clear_hold` meets its contract. Assumes nothing.
use Rattle.std.specs.Prelude.{◌*◌}
use native.Mathlib.Nat.{add-sub_cancel_left}
use Rattle.inputs_clear.proofs.ClearParts.{hold_by}
use Rattle.inputs_clear.proofs.inner.clear_hold.Goals as goal

pub returns : goal.returns
returns c = hold_by c.args.i c.args.times.now c.args.peaks.now (add-sub_cancel_left (c.args.i * 600) 600) c.clear_own.ensures
