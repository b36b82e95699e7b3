-- "the bytes of a delay file, two lower-case hex digits each, or `-` for none" (compare/README.md, `dread1`). Assumes nothing.
use Rattle.std.specs.Prelude.{ℕ, ◌+◌, ◌*◌, List, [], ◌∷◌, ◌==◌, length, take, drop, Option, None, Some, option_map, unwrap_or}
use Rattle.std.specs.Option.{option_or}
use Rattle.base.specs.Choice.{pick}
use Rattle.text_scan.specs.declared.Word.{Word}
use Rattle.text_scan.specs.Scan.{word, ◌>>=◌, after_byte, digit_of}
use Rattle.text_words.specs.Words.{mark_after}

-- the byte that two digits say, the first weighing 16
unfoldable pub pair_of : (first second : ℕ) → Option ℕ
pair_of first second = do
  high ← digit_of first 16
  low ← digit_of second 16
  Some (high * 16 + low)

abbrev pub pair_in : List ℕ → Option ℕ
pair_in (x ∷ y ∷ rest) = pair_of x y
pair_in (x ∷ []) = None
pair_in [] = None

unfoldable pub pair_at : (s : List ℕ) (at : ℕ) → Option ℕ
pair_at s at = pair_in (drop at s)

-- the bytes that digits say, two by two, up to the first two that are no digits
abbrev pub bytes_from : List ℕ → List ℕ
bytes_from (x ∷ y ∷ rest) = unwrap_or (option_map (λ byte. byte ∷ bytes_from rest) (pair_of x y)) []
bytes_from (x ∷ []) = []
bytes_from [] = []

-- the place after the digits of all these bytes
unfoldable pub digits_end : (s : List ℕ) (from : ℕ) → ℕ
digits_end s from = from + length (bytes_from (drop from s)) * 2

-- ---- the word: where its digits begin and the place after them; after `-` (45) there are none, and without a byte there is no word
unfoldable pub file_at : (s : List ℕ) (at sep : ℕ) → Option (Word ℕ)
file_at s at sep = option_or
    (option_map (λ next. word next next) (mark_after s at sep 45))
    (after_byte s at sep >>= λ from. pick (digits_end s from == from) None (Some (word from (digits_end s from))))

-- ---- what is kept of the file whose digits begin at this place: all of a file of at most 1,291 bytes, which no edition exceeds, and of a longer
-- one 1,292, which is refused by 19 for its length as the longer one would be (rules_files ReadCases.too-long)
unfoldable pub kept_from : (s : List ℕ) (at : ℕ) → List ℕ
kept_from s at = take 1292 (bytes_from (drop at s))
