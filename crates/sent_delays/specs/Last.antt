-- Document 01, "Supervision": "An input's delay: the samples of the last SetDelay to it from `new` on, 0 before any." Assumes nothing.
use Rattle.std.specs.Prelude.{ℕ, List, [], ◌∷◌, eqb}
use Rattle.base.specs.Choice.{pick, both}

-- one command of three words: kind 3 is SetDelay, to this input, with its samples
unfoldable pub delay_told : (i before kind input word : ℕ) → ℕ
delay_told i before kind input word = pick (both (eqb kind 3) (eqb input i)) word before

-- the samples of the last SetDelay to input i among commands in sending order, or what it was before them; words of an unused place are 0 and tell nothing
unfoldable pub last_delay : (i before : ℕ) → List ℕ → ℕ
last_delay i before [] = before
last_delay i before (kind ∷ []) = before
last_delay i before (kind ∷ (input ∷ [])) = before
last_delay i before (kind ∷ (input ∷ (word ∷ words))) = last_delay i (delay_told i before kind input word) words
