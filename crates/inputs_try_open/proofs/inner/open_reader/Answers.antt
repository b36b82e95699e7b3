-- `inputs_try_open::inner::open_reader` meets its contract. Assumes nothing.
use Rattle.inputs_commands.specs.declared.Command.TheVariants.{SetInput}
use Rattle.inputs_commands.proofs.Steps.{does_by, does_quiet, does_first}
use mathlib.Core.Path.{refl}
use Rattle.rules_routing.proofs.TryOpenCases.{reader_shut, reader_opens}
use Rattle.inputs_try_open.proofs.inner.open_reader.Goals as goal

pub returns-in_default : goal.returns-in_default
returns-in_default c = does_by (reader_shut _ _ _ _ _ _ c.in_default.is) (does_quiet refl)

pub returns : goal.returns
returns c = does_by (reader_opens _ _ _ _ _ _ c.in-Some.is c.slot_at-slot.ensures c.opened-open.ensures c.put_slot-all.ensures) (does_first (SetInput _ _) c.send.ensures c.recall.ensures)
