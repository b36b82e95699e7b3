-- `base::shift` meets its contract. Assumes nothing.
use Rattle.base.proofs.Shifts.{shifted_by_none, blanks_more, shift_all}
use Rattle.base.proofs.shift.Goals as goal

pub returns-then-k-eq0 : goal.returns-then-k-eq0
returns-then-k-eq0 g c = shifted_by_none c.args.blank c.args.k c.args.s.now c.if-k-eq0.true

pub loop-x-preserved : goal.loop-x-preserved
loop-x-preserved g c = blanks_more c.args.blank c.loop-x.x-index _ c.loop-x-test.true c.loop-x.invariant

pub returns : goal.returns
returns g c = shift_all c.args.blank c.args.k c.min-gone.result c.args.s.now c.copy_within.new.self c.min-gone.ensures c.copy_within.ensures.after c.copy_within.ensures.len c.loop-x.x-index c.loop-x.auto.x-index-end c.loop-x-test.false c.loop-x.invariant
