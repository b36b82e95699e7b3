-- The bytes of a quoted text, so that a definition can write a word as "tick". Assumes nothing.
use Rattle.std.specs.Prelude.{ℕ, List, [], ◌∷◌}
use Prim.Native.Char.{code}
use Prim.Native.String.{String, [] as no_text, ◌∷◌ as ◌then◌}

abbrev pub text : String → List ℕ
text no_text = []
text (c then cs) = code c ∷ text cs
