-- `inputs_tick::each::tick_inputs` meets its contract. Assumes nothing.
use Rattle.std.specs.Prelude.{◌≡◌}
use Rattle.rules_record.specs.Lending.{lists_lent, SameLists}
use Rattle.rules_tick.proofs.TickTurns.{Turn}
use Rattle.inputs_tick.proofs.each.tick_inputs.Given as goal

abbrev pub invariant-loop-i : goal.invariant-loop-i
invariant-loop-i l =
    Turn l.looks l.lags l.time l.fn.inputs (lists_lent l.initial.lists) l.initial.commands.words.now l.initial.commands.used l.i l.all (lists_lent l.lists) l.commands.words.now l.commands.used l.from
    × (l.commands.words.ghost_name ≡ l.initial.commands.words.ghost_name)
    × SameLists l.initial.lists l.lists
