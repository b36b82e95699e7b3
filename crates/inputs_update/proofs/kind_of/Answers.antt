-- `inputs_update::kind_of` meets its contract. Assumes nothing.
use Rattle.inputs_update.proofs.kind_of.Goals as goal

pub returns-in-Auto : goal.returns-in-Auto
returns-in-Auto c = rw c.in-Auto.is

pub returns-in-Ms : goal.returns-in-Ms
returns-in-Ms c = rw c.in-Ms.is

pub returns-in-Desk : goal.returns-in-Desk
returns-in-Desk c = rw c.in-Desk.is
