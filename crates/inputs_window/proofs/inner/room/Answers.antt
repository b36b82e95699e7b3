-- `inputs_window::inner::room` meets its contract. Assumes nothing.
use Rattle.inputs_window.proofs.Parting.{part_room}
use Rattle.inputs_window.proofs.inner.room.Goals as goal

pub returns : goal.returns
returns c = part_room _ _ _ _ _ _ c.requires.0 c.requires.1 c.requires.2 _ c.room.ensures
