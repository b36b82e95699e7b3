-- `inputs_instances::prune_instances` meets its contract. Assumes nothing.
use Rattle.rules_record.proofs.InstanceCases.{Pruning}
use Rattle.inputs_instances.proofs.prune_instances.Given as goal

abbrev pub invariant-loop-key : goal.invariant-loop-key
invariant-loop-key l = Pruning l.fn.inputs l.extra l.n l.key-index l.kept l.count
