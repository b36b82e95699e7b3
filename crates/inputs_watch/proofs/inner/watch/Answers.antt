-- `inputs_watch::inner::watch` meets its contract. Assumes nothing.
use Rattle.inputs_watch.proofs.Finding.{watch_by, found_lost, found_moved}
use native.Mathlib.Omega.{arith}
use mathlib.Core.Path.{refl, ◌∙◌}
use Rattle.std.specs.Prelude.{false}
use Rattle.inputs_commands.specs.declared.Command.TheVariants.{ClearInput}
use Rattle.inputs_commands.proofs.Steps.{does_by, does_quiet, does_sent}
use Rattle.inputs_watch.proofs.inner.watch.Goals as goal

pub returns-in-Unwatched : goal.returns-in-Unwatched
returns-in-Unwatched c = does_by (watch_by _ _ _ _ _ _ c.slot_at-slot.ensures c.finds-found.ensures c.in-Unwatched.is) (does_quiet refl)

pub returns-in-Lost : goal.returns-in-Lost
returns-in-Lost c = does_by (watch_by _ _ _ _ _ _ c.slot_at-slot.ensures c.finds-found.ensures c.in-Lost.is ∙ found_lost _ _ _ c.args.time c.args.world c.lost-waits.ensures c.put_slot.ensures) (does_sent (ClearInput _ false) (omega arith) refl c.send.ensures)

pub returns-in-Created : goal.returns-in-Created
returns-in-Created c = does_by (watch_by _ _ _ _ _ _ c.slot_at-slot.ensures c.finds-found.ensures c.in-Created.is) c.try_open.ensures

pub returns-in-Moved : goal.returns-in-Moved
returns-in-Moved c = does_by (watch_by _ _ _ _ _ _ c.slot_at-slot.ensures c.finds-found.ensures c.in-Moved.is ∙ found_moved _ _ _ c.args.time c.args.world c.moved-moved.ensures c.put_slot-in-Moved.ensures) (does_quiet refl)

pub returns-in-Still : goal.returns-in-Still
returns-in-Still c = does_by (watch_by _ _ _ _ _ _ c.slot_at-slot.ensures c.finds-found.ensures c.in-Still.is) c.watch_still.ensures
