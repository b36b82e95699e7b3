-- The words of a line, each after the byte that separates it from the one before: the value that stands there, and the place after it, or none
-- where nothing of that form stands there. Assumes nothing.
use Rattle.std.specs.Prelude.{ℕ, ◌==◌, Bool, List, Option, None, Some, option_map}
use Rattle.std.specs.Option.{option_or}
use Rattle.text_scan.specs.declared.Word.{Word}
use Rattle.text_scan.specs.Scan.{word, ◌>>=◌, after_byte, number_from}

-- ---- what a reader answered, with the place at which it then stands
abbrev pub read_as : {A : Type 0} → (next : ℕ) → Option A → Option (Word A)
read_as next found = option_map (λ value. word value next) found

abbrev pub passed_as : {A : Type 0} → (next : ℕ) → Option A → Option ℕ
passed_as next found = option_map (λ value. next) found

-- ---- numbers: in base 10 or 16, of at most `most`
unfoldable pub number_after : (s : List ℕ) (at sep base most : ℕ) → Option (Word ℕ)
number_after s at sep base most = do
  from ← after_byte s at sep
  number_from s from base most

-- u64, and hex64
unfoldable pub u64_in : (s : List ℕ) (at sep base : ℕ) → Option (Word ℕ)
u64_in s at sep base = number_after s at sep base 18446744073709551615

unfoldable pub u64_at : (s : List ℕ) (at sep : ℕ) → Option (Word ℕ)
u64_at s at sep = u64_in s at sep 10

unfoldable pub hex_at : (s : List ℕ) (at sep : ℕ) → Option (Word ℕ)
hex_at s at sep = u64_in s at sep 16

-- u32, and a number from 0 to 255
unfoldable pub u32_at : (s : List ℕ) (at sep : ℕ) → Option (Word ℕ)
u32_at s at sep = number_after s at sep 10 4294967295

unfoldable pub u8_at : (s : List ℕ) (at sep : ℕ) → Option (Word ℕ)
u8_at s at sep = number_after s at sep 10 255

-- bit: 1 for yes, 0 for no
unfoldable pub bit_at : (s : List ℕ) (at sep : ℕ) → Option (Word Bool)
bit_at s at sep = do
  w ← number_after s at sep 10 1
  Some (word (w.value == 1) w.next)

-- flow: a number of 128 bits in hex
unfoldable pub flow_at : (s : List ℕ) (at sep : ℕ) → Option (Word ℕ)
flow_at s at sep = number_after s at sep 16 340282366920938463463374607431768211455

-- ---- a value, or a mark for none
unfoldable pub mark_after : (s : List ℕ) (at sep b : ℕ) → Option ℕ
mark_after s at sep b = do
  from ← after_byte s at sep
  after_byte s from b

unfoldable pub or_none : {A : Type 0} → (mark : Option ℕ) (found : Option (Word A)) → Option (Word (Option A))
or_none mark found = option_or (option_map (λ next. word None next) mark) (option_map (λ w. word (Some w.value) w.next) found)

-- u64|-, u32|- (45)
unfoldable pub maybe_u64_at : (s : List ℕ) (at sep : ℕ) → Option (Word (Option ℕ))
maybe_u64_at s at sep = or_none (mark_after s at sep 45) (u64_at s at sep)

unfoldable pub maybe_u32_at : (s : List ℕ) (at sep : ℕ) → Option (Word (Option ℕ))
maybe_u32_at s at sep = or_none (mark_after s at sep 45) (u32_at s at sep)

-- (u64:number)|-, with a colon (58) between the two numbers; the second is at most `most`
unfoldable pub pair_at : (s : List ℕ) (at sep most : ℕ) → Option (Word (ℕ × ℕ))
pair_at s at sep most = do
  first ← u64_at s at sep
  second ← number_after s first.next 58 10 most
  Some (word (first.value, second.value) second.next)

unfoldable pub maybe_pair_at : (s : List ℕ) (at sep most : ℕ) → Option (Word (Option (ℕ × ℕ)))
maybe_pair_at s at sep most = or_none (mark_after s at sep 45) (pair_at s at sep most)

-- kind: `M` (77) and the bits of a double, or `A` (65) for an automatic one
unfoldable pub manual_at : (s : List ℕ) (at sep : ℕ) → Option (Word ℕ)
manual_at s at sep = do
  from ← after_byte s at sep
  hex_at s from 77

unfoldable pub kind_at : (s : List ℕ) (at sep : ℕ) → Option (Word (Option ℕ))
kind_at s at sep = or_none (mark_after s at sep 65) (manual_at s at sep)
