-- `text_requests::lists::store_loads` meets its contract: the first i loaded delays are stored. Assumes nothing.
use mathlib.Core.Path.{◌∙◌}
use native.Mathlib.Omega.{arith}
use Rattle.text_requests.proofs.Loads.{loading_more}
use Rattle.text_requests.proofs.lists.store_loads.Goals as goal

pub loop-i-preserved : goal.loop-i-preserved
loop-i-preserved c =
    let same = c.loop-i.invariant.0 in (
      c.keep-load.ensures.same ∙ same,
      loading_more c.loop-i.invariant.1 (omega (arith, c.min-i-end.ensures)) (rw same at c.keep-load.ensures.value) (rw same at c.keep-load.ensures.read)
          c.put_half.ensures c.put_half.auto.flows c.put_half-in-loop-i.ensures c.put_half-in-loop-i.auto.flows,
    )
