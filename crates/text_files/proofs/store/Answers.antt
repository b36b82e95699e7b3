-- `text_files::store` meets its contract: the bytes that were stored, with those that are left in the line, are all that are kept. Assumes nothing.
use mathlib.Core.Path.{◌≡◌, ap, sym, ◌∙◌}
use native.Mathlib.Omega.{arith}
use lib.ListN.{take}
use Rattle.text_files.proofs.Pairs.{kept_full}
use Rattle.text_files.proofs.store.Goals as goal

pub returns : goal.returns
returns c =
    let e : c.loop-k.k ≡ 1292 = omega arith in
    ap (λ n. take n c.loop-k.file) (sym e) ∙ kept_full c.args.s.now c.args.at c.loop-k.next c.loop-k.k c.loop-k.file c.loop-k.invariant (omega arith)
