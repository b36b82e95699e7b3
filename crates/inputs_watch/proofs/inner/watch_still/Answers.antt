-- `inputs_watch::inner::watch_still` meets its contract. Assumes nothing.
use Rattle.inputs_watch.proofs.Finding.{still_stays}
use Rattle.rules_routing.proofs.WatchCases.{stalled_reopens}
use mathlib.Core.Path.{refl, sym, ◌∙◌}
use Rattle.inputs_commands.proofs.Steps.{does_by, does_quiet}
use Rattle.inputs_watch.proofs.inner.watch_still.Goals as goal

pub try_open-requires : goal.try_open-requires
try_open-requires c = (c.requires.0.0, c.requires.0.1, stalled_reopens c.args.inputs c.args.i c.args.slot c.put_slot-all.ensures c.requires.0.2 c.requires.1)

pub returns : goal.returns
returns c = does_by (still_stays _ _ _ _ _ (sym c.stalls.ensures ∙ c.if-stalls.false)) (does_quiet refl)
