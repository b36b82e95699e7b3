-- What printing writes: the text of numbers, and a buffer with a text laid into it from a place on. Assumes nothing.
use Rattle.std.specs.Prelude.{ℕ, zero, suc, ◌+◌, ◌/◌, ◌%◌, min, Bool, false, List, [], ◌∷◌, ◌++◌, leb, ltb, eqb, length}
use Rattle.std.proofs.lemmas.List.Edits.{sets}
use Rattle.base.specs.Choice.{pick}

-- a buffer and the place where the next text goes
pub record Page : Type 0 where
  pub place : ℕ
  pub bytes : List ℕ

abbrev pub page : (place : ℕ) (bytes : List ℕ) → Page
page place bytes = record { place = place; bytes = bytes }

-- the text is written as far as the buffer goes; the next place is at most the buffer's end
unfoldable pub printed : (text : List ℕ) (p : Page) → Page
printed text p = page (min (p.place + length text) (length p.bytes)) (sets p.bytes p.place text)

-- the byte of a digit below 16: `0` to `9`, then `a` to `f`
unfoldable pub glyph_of : ℕ → ℕ
glyph_of d = pick (ltb d 10) (48 + d) (87 + d)

-- nothing is left of the number, and it has its least number of digits
unfoldable pub spells : (rest count least : ℕ) → Bool
spells rest count least = pick (eqb rest 0) (leb least count) false

-- the digits of n in a base before those that are there already, of k places at most
abbrev pub spelled : (base least : ℕ) → ℕ → (n : ℕ) (digits : List ℕ) → List ℕ
spelled base least zero n digits = digits
spelled base least (suc k) n digits =
    pick (spells (n / base) (suc (length digits)) least) (glyph_of (n % base) ∷ digits) (spelled base least k (n / base) (glyph_of (n % base) ∷ digits))

-- a number of 64 bits has at most 20 digits
unfoldable pub digits_text : (base least n : ℕ) → List ℕ
digits_text base least n = spelled base least 20 n []

abbrev pub decimal_text : ℕ → List ℕ
decimal_text n = digits_text 10 1 n

abbrev pub hex_text : ℕ → List ℕ
hex_text n = digits_text 16 1 n

-- all 16 digits
abbrev pub whole_hex_text : ℕ → List ℕ
whole_hex_text n = digits_text 16 16 n

-- both digits of a byte
abbrev pub byte_text : ℕ → List ℕ
byte_text n = digits_text 16 2 n

-- a flow's 128 bits without leading zeros
unfoldable pub flow_text : (high low : ℕ) → List ℕ
flow_text high low = pick (eqb high 0) (hex_text low) (hex_text high ++ whole_hex_text low)
