-- What a step of a call does to the whole supervisor: the record and the lists that it leaves, and the words that it sends.
-- Assumes nothing.
use Rattle.std.specs.Prelude.{◌≡◌, ℕ, List, [], ◌++◌}
use Rattle.rules_record.specs.declared.Inputs.{Inputs}
use Rattle.rules_record.specs.Commands.{Sent, Done, Did}
use Rattle.rules_record.specs.Lent.{Lists}

pub record Effect : Type 0 where
  pub inputs : Inputs
  pub lists : Lists
  pub words : List ℕ

-- nothing is sent
abbrev pub silent : (s : Inputs) (l : Lists) → Effect
silent s l = record { inputs = s; lists = l; words = [] }

-- a step on the record alone, beside these lists
abbrev pub beside : (l : Lists) (done : Done) → Effect
beside l done = record { inputs = done.inputs; lists = l; words = done.words }

-- what a step does to the record alone
abbrev pub done_of : Effect → Done
done_of effect = record { inputs = effect.inputs; words = effect.words }

-- one step after another: what the first sends stands first
unfoldable pub followed_by : (effect : Effect) (next : (Inputs → Lists → Effect)) → Effect
followed_by effect next =
    record {
      inputs = (next effect.inputs effect.lists).inputs;
      lists = (next effect.inputs effect.lists).lists;
      words = effect.words ++ (next effect.inputs effect.lists).words;
    }

-- The answer, the lists l and the lent words `after` are what the effect says: `before` with its words from place `from` on, at most `most` of them.
pub record Effected (most : ℕ) (effect : Effect) (answer : Sent) (l : Lists) (before after : List ℕ) (from : ℕ) : Type 0 where
  pub lists : l ≡ effect.lists
  pub done : Did most (done_of effect) answer before after from
