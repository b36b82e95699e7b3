-- `inputs_new::start::started` meets its contract. Assumes nothing.
use Rattle.std.specs.Prelude.{◌≡◌}
use Rattle.rules_calls.proofs.NewLoops.{Starting}
use Rattle.inputs_new.proofs.start.started.Given as goal

abbrev pub invariant-loop-i : goal.invariant-loop-i
invariant-loop-i l =
    Starting l.kinds l.time l.count l.initial.all l.initial.commands.words.now l.initial.commands.used l.i l.all l.commands.used l.commands.words.now
    × (l.commands.words.ghost_name ≡ l.initial.commands.words.ghost_name)
