-- The separating bytes of the protocol's table, and the places after its names (compare/README.md). The forms of its words are text_words'
-- (Words). Assumes nothing.
use Rattle.std.specs.Prelude.{ℕ, List, Option}
use Prim.Native.String.{String}
use Rattle.text_scan.specs.Scan.{after_text, after_word}
use Rattle.text_scan.specs.Text.{text}

-- ---- the separating bytes
abbrev pub space : ℕ
space = 32

abbrev pub comma : ℕ
comma = 44

abbrev pub slash : ℕ
slash = 47

abbrev pub colon : ℕ
colon = 58

abbrev pub equals : ℕ
equals = 61

-- ---- the place after a text, and after a text that is a whole word
abbrev pub text_end : (s : List ℕ) (at : ℕ) (name : String) → Option ℕ
text_end s at name = after_text s at (text name)

abbrev pub word_end : (s : List ℕ) (at : ℕ) (name : String) → Option ℕ
word_end s at name = after_word s at (text name)
