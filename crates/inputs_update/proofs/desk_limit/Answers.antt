-- `inputs_update::desk_limit` meets its contract. Assumes nothing.
use Rattle.rules_calls.specs.UpdateChecks.{desk_limit}
use Rattle.inputs_update.proofs.desk_limit.Goals as goal

pub returns : goal.returns
unfolding desk_limit
returns c = c.min.ensures
