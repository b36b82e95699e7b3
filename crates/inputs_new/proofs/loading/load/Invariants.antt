-- `inputs_new::loading::load` meets its contract. Assumes nothing.
use Rattle.rules_calls.proofs.NewLoops.{Loading}
use Rattle.inputs_new.proofs.loading.load.Given as goal

abbrev pub invariant-loop-k : goal.invariant-loop-k
invariant-loop-k l = Loading l.bytes l.delays l.fn.inputs l.k l.all
