-- A command's words, and what a step leaves in the list. Assumes nothing.
use Rattle.std.specs.Prelude.{◌≡◌, ℕ, ◌+◌, ◌<◌, ◌≤◌, List, length, Bool, true, false}
use Rattle.base.specs.Limits.{counter_limit}
use Rattle.std.proofs.lemmas.List.Edits.{sets}
use Rattle.rules_record.specs.declared.Inputs.{Inputs}
use Rattle.rules_record.specs.Inputs.{slot_at}
use Rattle.rules_record.specs.Commands.{Done, Did, set_input, clear_input, set_delay}
use Rattle.rules_record.specs.Lent.{Lists}
use Rattle.rules_record.specs.Effects.{Effect, Effected}
use Rattle.inputs_commands.specs.declared.Command.{Command}
use Rattle.inputs_commands.specs.declared.Command.TheVariants.{SetInput, ClearInput, SetDelay}
use Rattle.inputs_commands.specs.declared.Commands.{Commands}

-- forget as 0 or 1
abbrev pub bit : Bool → ℕ
bit false = 0
bit true = 1

abbrev pub input_of : Command → ℕ
input_of (SetInput input channels) = input
input_of (ClearInput input forget) = input
input_of (SetDelay input samples) = input

abbrev pub words_of : Command → List ℕ
words_of (SetInput input channels) = set_input input channels
words_of (ClearInput input forget) = clear_input input (bit forget)
words_of (SetDelay input samples) = set_delay input samples

-- Room for so many words more.
abbrev pub Room : (n : ℕ) → Commands → Type 0
Room n c = c.used + n ≤ length c.words.now

-- What is asked of input i and of the list: that a command can be sent to the input, and that it can open, which sends two and counts a reopen.
-- Facts of two or three values together, so no type's invariant; a contract says them by their names.
abbrev pub CanSend : (i : ℕ) → Commands → Type 0
CanSend i c = Room 3 c × (i < 16)

abbrev pub CanOpen : Inputs → (i : ℕ) → Commands → Type 0
CanOpen s i c = Room 6 c × (i < 16) × ((slot_at s i).reopens < counter_limit)

-- One command more: its words stand after those in use, in the same lent list.
pub record Sends (command : Command) (before after : Commands) : Type 0 where
  pub used : after.used ≡ before.used + 3
  pub words : after.words.now ≡ sets before.words.now before.used (words_of command)
  pub same : after.words.ghost_name ≡ before.words.ghost_name

-- These words are appended to those in use, at most `most` of them, in the same lent list.
pub record Appends (most : ℕ) (sent : List ℕ) (before after : Commands) : Type 0 where
  pub used : after.used ≡ before.used + length sent
  pub words : after.words.now ≡ sets before.words.now before.used sent
  pub room : length sent ≤ most
  pub same : after.words.ghost_name ≡ before.words.ghost_name

-- What a step does: `Did` of the words in use before and after, in the same lent list
pub record Does (most : ℕ) (done : Done) (answer : Inputs) (before after : Commands) : Type 0 where
  pub did : Did most done (record { inputs = answer; used = after.used }) before.words.now after.words.now before.used
  pub same : after.words.ghost_name ≡ before.words.ghost_name

-- and of a step that changes the lent lists besides
pub record Affects (most : ℕ) (effect : Effect) (answer : Inputs) (l : Lists) (before after : Commands) : Type 0 where
  pub effected : Effected most effect (record { inputs = answer; used = after.used }) l before.words.now after.words.now before.used
  pub same : after.words.ghost_name ≡ before.words.ghost_name
