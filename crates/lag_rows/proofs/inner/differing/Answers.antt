-- `lag_rows::inner::differing` meets its contract. Assumes nothing.
use Rattle.std.proofs.Common.{◌≡◌, refl, ◌∙◌, arith, length-take}
use lib.Seq.{get_or-take}
use Rattle.lag_rows.proofs.Tallies.{alike_none, alike_next}
use Rattle.lag_rows.proofs.inner.differing.Goals as goal

pub loop-i-init : goal.loop-i-init
loop-i-init c = search alike_none

pub loop-i-preserved : goal.loop-i-preserved
loop-i-preserved c =
    alike_next c.args.from c.args.columns.now c.args.sums.now _ _ _ _ _ c.loop-i.invariant refl (c.from.ensures ∙ get_or-take c.args.k c.args.columns.now c.loop-i.i 0 (omega (arith, length-take c.args.k c.args.columns.now)))

pub returns : goal.returns
returns c = let all : c.loop-i.i ≡ c.args.k = omega (arith, length-take c.args.k c.args.columns.now) in rw all at c.loop-i.invariant
