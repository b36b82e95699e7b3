-- Document 01, "Supervision": `has_channels` of one input. Assumes nothing.
use Rattle.std.specs.Prelude.{Result, ℕ, Bool, false, leb}
use Rattle.base.specs.Choice.{both, accepted}
use Rattle.rules_record.specs.declared.Slot.{Slot}
use Rattle.rules_record.specs.declared.Inputs.{Inputs}
use Rattle.rules_record.specs.States.{is_running}
use Rattle.rules_record.specs.Inputs.{slot_at}
use Rattle.rules_record.specs.Lent.{Lists}
use Rattle.refusals.specs.declared.Refusal.{Refusal}
use Rattle.refusals.specs.Numbers.{number_in, value_in}
use Rattle.rules_calls.specs.StatusChecks.{channels_number}

-- an answer as the papers have it: its number, and yes or no; and of each case of what a call gives
pub record Answer : Type 0 where
  pub number : ℕ
  pub value : Bool

abbrev pub told : Result Bool Refusal → Answer
told result = record { number = number_in result; value = value_in false result }

-- an answer: its number, and yes or no; refused: no
abbrev pub answer_by : (number : ℕ) (answer : Bool) → Answer
answer_by number answer = record { number = number; value = accepted number false answer }

-- "`has_channels`: Running, and channels at least the number given."
unfoldable pub has_channels : (slot : Slot) (channels wanted : ℕ) → Bool
has_channels slot channels wanted = both (is_running slot.state) (leb wanted channels)

unfoldable pub has_channels_reply : (s : Inputs) (l : Lists) (input channels wanted : ℕ) → Answer
has_channels_reply s l input channels wanted = answer_by (channels_number s l input channels) (has_channels (slot_at s input) channels wanted)
