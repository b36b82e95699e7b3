-- The commands' words, and what a step does: the record that it leaves and the words that it sends. Assumes nothing.
use Rattle.std.specs.Prelude.{◌≡◌, ℕ, ◌+◌, ◌≤◌, List, [], ◌∷◌, ◌++◌, length}
use Rattle.std.proofs.lemmas.List.Edits.{sets}
use Rattle.rules_record.specs.declared.Inputs.{Inputs}

-- "three u32 words a command: kind (1 SetInput, 2 ClearInput, 3 SetDelay), input from 0, then channels, forget as 0 or 1, or samples"
abbrev pub set_input : (input channels : ℕ) → List ℕ
set_input input channels = 1 ∷ input ∷ channels ∷ []

abbrev pub clear_input : (input forget : ℕ) → List ℕ
clear_input input forget = 2 ∷ input ∷ forget ∷ []

abbrev pub set_delay : (input samples : ℕ) → List ℕ
set_delay input samples = 3 ∷ input ∷ samples ∷ []

-- what a step does to the record, and the words that it sends
pub record Done : Type 0 where
  pub inputs : Inputs
  pub words : List ℕ

-- nothing is sent
unfoldable pub quiet : Inputs → Done
quiet s = record { inputs = s; words = [] }

-- the words are sent first, then what follows
unfoldable pub send_first : (words : List ℕ) (next : Done) → Done
send_first words next = record { inputs = next.inputs; words = words ++ next.words }

-- the record changes once more, with nothing sent
unfoldable pub changed : (f : (Inputs → Inputs)) (done : Done) → Done
changed f done = record { inputs = f done.inputs; words = done.words }

-- the record after a step, and how many command words are in use
pub record Sent : Type 0 where
  pub inputs : Inputs
  pub used : ℕ

-- The answer is what `done` says, and the lent words `after` are `before` with the words of `done` from place `from` on
-- ("Commands stand in sending order"), at most `most` of them.
pub record Did (most : ℕ) (done : Done) (answer : Sent) (before after : List ℕ) (from : ℕ) : Type 0 where
  pub inputs : answer.inputs ≡ done.inputs
  pub used : answer.used ≡ from + length done.words
  pub words : after ≡ sets before from done.words
  pub room : length done.words ≤ most
