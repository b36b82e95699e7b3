-- `inputs_new::blank_for` meets its contract. Assumes nothing.
use Rattle.rules_calls.specs.NewRecord.{blank_for}
use Rattle.inputs_new.proofs.blank_for.Goals as goal

pub returns : goal.returns
unfolding blank_for
returns c = rw (c.blank.ensures, c.policy_of-policy.ensures)
