-- `text_requests::lists::sixteen` meets its contract: the first i places are filled, and those that are left have none. Assumes nothing.
use mathlib.Core.Path.{◌∙◌}
use native.Mathlib.Omega.{arith}
use Rattle.text_requests.proofs.Sixteen.{filling_more}
use Rattle.text_requests.proofs.lists.sixteen.Goals as goal

pub loop-i-preserved : goal.loop-i-preserved
loop-i-preserved g c =
    let same = c.loop-i.invariant.0 in
    (c.keep.ensures.same ∙ same, filling_more c.loop-i.invariant.1 (omega (arith, c.min-i-end.ensures)) (rw same at c.keep.ensures.value) (rw same at c.keep.ensures.read))
