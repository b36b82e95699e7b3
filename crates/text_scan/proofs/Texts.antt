-- A quoted text is the list of its bytes. Assumes nothing.
use Rattle.std.specs.Prelude.{◌≡◌, ℕ, List, [], ◌∷◌}
use mathlib.Core.Path.{refl}
use Rattle.text_scan.specs.Scan.{after_word}
use Rattle.text_scan.specs.Text.{text}

pub tick_bytes : text "tick" ≡ 116 ∷ 105 ∷ 99 ∷ 107 ∷ []
tick_bytes = refl

pub word_tick : (s : List ℕ) (at : ℕ) → after_word s at (text "tick") ≡ after_word s at (116 ∷ 105 ∷ 99 ∷ 107 ∷ [])
word_tick s at = refl
