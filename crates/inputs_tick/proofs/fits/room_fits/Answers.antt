-- `inputs_tick::fits::room_fits` meets its contract. Assumes nothing.
use Rattle.rules_tick.proofs.LagCounting.{room_asks, room_by}
use Rattle.inputs_tick.proofs.fits.room_fits.Goals as goal

pub room-requires : goal.room-requires
room-requires c = (room_asks _ _ c.slot_at-slot.ensures c.requires.0, c.requires.1, c.requires.2)

pub returns : goal.returns
returns c = room_by _ _ c.slot_at-slot.ensures _ _ _ _ c.room.ensures
