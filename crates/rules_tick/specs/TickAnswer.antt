-- What `tick` leaves together with its answer. Assumes nothing.
use Rattle.std.specs.Prelude.{ℕ, Bool, false, List, Result}
use Rattle.rules_record.specs.Lent.{Lists}
use Rattle.rules_record.specs.Effects.{Effect}
use Rattle.rules_record.specs.Reply.{Reply, carried_out}
use Rattle.rules_record.specs.declared.Inputs.{Inputs}
use Rattle.rules_tick.specs.declared.Ticked.{Ticked}
use Rattle.refusals.specs.declared.Refusal.{Refusal}
use Rattle.refusals.specs.Numbers.{number_in, value_in}

-- number, record, lists and commands, and the unsaved mark that is reported
pub record TickReply : Type 0 where
  pub reply : Reply
  pub unsaved : Bool

-- the record as it came, with nothing to save
abbrev pub unticked : (came : Inputs) → Ticked
unticked came = record { inputs = came; unsaved = false }

-- each case of what the call gives, with the lists and commands that it leaves; refused, the record as it came
abbrev pub told : (came : Inputs) → Result Ticked Refusal → (l : Lists) (commands : List ℕ) → TickReply
told came result l commands =
    record {
      reply = record { number = number_in result; inputs = (value_in (unticked came) result).inputs; lists = l; commands = commands };
      unsaved = (value_in (unticked came) result).unsaved;
    }

-- a tick that is carried out, over these commands
abbrev pub carried : (commands : List ℕ) (effect : Effect) (unsaved : Bool) → TickReply
carried commands effect unsaved = record { reply = carried_out 0 commands effect; unsaved = unsaved }
