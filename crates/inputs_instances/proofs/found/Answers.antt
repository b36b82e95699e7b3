-- `inputs_instances::found` meets its contract. Assumes nothing.
use Rattle.std.proofs.Common.{rules}
use Rattle.rules_record.proofs.InstanceCases.{held_most, found_by}
use Rattle.inputs_instances.proofs.found.Goals as goal

pub shared_ref_as_front-contains : goal.shared_ref_as_front-contains
shared_ref_as_front-contains c = rw c.places-n.ensures (held_most _)

pub returns : goal.returns
returns c = found_by c.args.inputs (search (rules, c.well_formed)) c.places-n.ensures c.args.key c.contains.ensures.value
