-- `inputs_update::desk_fits` meets its contract. Assumes nothing.
use Rattle.inputs_update.proofs.desk_fits.Goals as goal

pub returns-in-Desk : goal.returns-in-Desk
returns-in-Desk c = rw (c.ms.ensures, c.desk_limit.ensures, c.in-Desk.is)
