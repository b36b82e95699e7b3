-- What scanning finds at a place of a line, the line as the list of its bytes: bytes, words, texts, numbers. Assumes nothing.
use Rattle.std.specs.Prelude.{ℕ, suc, ◌+◌, ◌-◌, ◌*◌, Bool, false, List, [], ◌∷◌, length, drop, ◌==◌, nat_le, nat_lt, slice_index, Option, None, Some, option_map, option_and_then, unwrap_or}
use Rattle.base.specs.Choice.{pick}
use Rattle.text_scan.specs.declared.Word.{Word}

-- what the second finds with what the first found; none where the first found none
infixl 10 ◌>>=◌
abbrev pub ◌>>=◌ : {A B : Type 0} → Option A → (A → Option B) → Option B
o >>= f = option_and_then f o

-- ---- a value, and the place after it
abbrev pub word : {A : Type 0} → (value : A) (next : ℕ) → Word A
word value next = record { value = value; next = next }

-- does the byte b stand at this place?
unfoldable pub has_byte : (s : List ℕ) (at b : ℕ) → Bool
has_byte s at b = pick (nat_lt at (length s)) (slice_index s at == b) false

-- the place after the byte b, which stands at this place
unfoldable pub after_byte : (s : List ℕ) (at b : ℕ) → Option ℕ
after_byte s at b = pick (nat_lt at (length s)) (pick (slice_index s at == b) (Some (at + 1)) None) None

-- does the line end at this place?
unfoldable pub ends_at : (s : List ℕ) (at : ℕ) → Bool
ends_at s at = at == length s

-- the first place before `to` that holds the byte b, of the bytes from place i on
abbrev pub first_of : (to b i : ℕ) → List ℕ → Option ℕ
first_of to b i [] = None
first_of to b i (x ∷ xs) = pick (nat_le to i) None (pick (x == b) (Some i) (first_of to b (suc i) xs))

unfoldable pub first_from : (s : List ℕ) (at to b : ℕ) → Option ℕ
first_from s at to b = first_of to b at (drop at s)

-- the place after the text, each of its bytes after the one before
unfoldable pub after_text : (s : List ℕ) (at : ℕ) (text : List ℕ) → Option ℕ
after_text s at [] = Some at
after_text s at (t ∷ ts) = do
  next ← after_byte s at t
  after_text s next ts

-- the place after a text that is a whole word: a space follows, or the line ends
unfoldable pub after_word : (s : List ℕ) (at : ℕ) (text : List ℕ) → Option ℕ
after_word s at text = do
  next ← after_text s at text
  pick (ends_at s next) (Some next) (pick (has_byte s next 32) (Some next) None)

-- the value of a digit of the base, those above 9 in lower case
abbrev pub below_base : (base d : ℕ) → Option ℕ
below_base base d = pick (nat_lt d base) (Some d) None

unfoldable pub digit_of : (b base : ℕ) → Option ℕ
digit_of b base = below_base base (pick (nat_lt b 48) 16 (pick (nat_lt b 58) (b - 48) (pick (nat_lt b 97) 16 (pick (nat_lt b 103) (b - 87) 16))))

-- a number that began at `from` and ends at `to` has at least one digit
unfoldable pub closed : (from value to : ℕ) → Option (Word ℕ)
closed from value to = pick (nat_lt from to) (Some (word value to)) None

-- the number that began at `from` with the value so far and goes on with the bytes from place i on, up to the first that is no digit of the base;
-- none where it exceeds `most`
abbrev pub digits_of : (base most from value i : ℕ) → List ℕ → Option (Word ℕ)
digits_of base most from value i [] = closed from value i
digits_of base most from value i (x ∷ xs) =
    unwrap_or
    (option_map
    (λ d. pick (nat_le (value * base + d) most) (digits_of base most from (value * base + d) (suc i) xs) None)
    (digit_of x base))
    (closed from value i)

unfoldable pub number_from : (s : List ℕ) (at base most : ℕ) → Option (Word ℕ)
number_from s at base most = digits_of base most at 0 at (drop at s)
