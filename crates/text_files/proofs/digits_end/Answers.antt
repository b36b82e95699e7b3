-- `text_files::digits_end` meets its contract: the digits that are left end where all do. Assumes nothing.
use mathlib.Core.Path.{sym, ◌∙◌}
use Rattle.text_files.proofs.Pairs.{end_more}
use Rattle.text_files.proofs.digits_end.Goals as goal

pub loop-next-preserved : goal.loop-next-preserved
loop-next-preserved c = end_more _ _ _ c.loop-next.invariant (sym c.in-Some.is ∙ c.pair.ensures.value)
