-- `inputs_try_open::seed` meets its contract. Assumes nothing.
use Rattle.rules_routing.proofs.TryOpenCases.{seeded_by}
use Rattle.inputs_try_open.proofs.seed.Goals as goal

pub returns : goal.returns
returns c = seeded_by _ _ _ _ c.slot_at-slot.ensures c.seed.ensures c.put_slot.ensures
