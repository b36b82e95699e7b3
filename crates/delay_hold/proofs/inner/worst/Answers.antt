-- `delay_hold::inner::worst` meets its contract. Assumes nothing.
use mathlib.Core.Path.{sym, ◌∙◌}
use Rattle.std.proofs.lemmas.Iterator.{YieldsList-from_slice}
use Rattle.std.proofs.lemmas.Iterator.Adapters.{option_map_id}
use Rattle.std.proofs.lemmas.Iterator.Consumers.{YieldsList-from_copied, max_from_yields_List}
use Rattle.delay_hold.proofs.Loops.{worst_reduced}
use Rattle.delay_hold.proofs.inner.worst.Goals as goal

pub returns : goal.returns
returns c =
    sym (option_map_id _) ∙ max_from_yields_List c.copied.result _ c.max.ensures.ran (YieldsList-from_copied (YieldsList-from_slice c.args.lags.now cc)) ∙ worst_reduced c.args.lags.now
