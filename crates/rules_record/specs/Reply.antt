-- What a call leaves: its number, the record, the lists and the commands. Assumes nothing.
use Rattle.std.specs.Prelude.{ℕ, List, length, Result}
use Rattle.base.specs.Choice.{accepted}
use Rattle.base.specs.Lists.{padded}
use Rattle.rules_record.specs.declared.Inputs.{Inputs}
use Rattle.rules_record.specs.Lent.{Lists}
use Rattle.rules_record.specs.Effects.{Effect}
use Rattle.refusals.specs.declared.Refusal.{Refusal}
use Rattle.refusals.specs.Numbers.{number_in, value_in}

pub record Reply : Type 0 where
  pub number : ℕ
  pub inputs : Inputs
  pub lists : Lists
  pub commands : List ℕ

-- each case of what a call gives, with the lists and commands that it leaves; refused, the record as it came
abbrev pub left_inputs : (came : Inputs) → Result Inputs Refusal → (l : Lists) (commands : List ℕ) → Reply
left_inputs came result l commands = record { number = number_in result; inputs = value_in came result; lists = l; commands = commands }

-- an accepted call writes all its commands: "Commands stand in sending order", then zeros
abbrev pub carried_out : (number : ℕ) (commands : List ℕ) (effect : Effect) → Reply
carried_out number commands effect =
    record { number = number; inputs = effect.inputs; lists = effect.lists; commands = padded (length commands) effect.words }

-- refused: "that number, a zero value, and record and buffers unchanged"
abbrev pub replied : (number : ℕ) (s : Inputs) (l : Lists) (commands : List ℕ) (effect : Effect) → Reply
replied number s l commands effect =
    accepted number (record { number = number; inputs = s; lists = l; commands = commands }) (carried_out number commands effect)
