-- Numbers and their bytes, by the end that weighs most. Assumes nothing.
use Rattle.std.specs.Prelude.{ℕ, zero, suc, ◌+◌, ◌*◌, ◌/◌, ◌%◌, ◌<◌, List, slice_index}

-- "A flow is 16 bytes", "the first byte weighing most": the number that n bytes from a place on make
unfoldable pub bytes_at : (bytes : List ℕ) (place n : ℕ) → ℕ
bytes_at bytes place zero = 0
bytes_at bytes place (suc n) = bytes_at bytes place n * 256 + slice_index bytes (place + n)

-- "Numbers are little-endian": the same with the first weighing least
unfoldable pub little_at : (bytes : List ℕ) (place n : ℕ) → ℕ
little_at bytes place zero = 0
little_at bytes place (suc n) = slice_index bytes place + little_at bytes (place + 1) n * 256

-- the byte of a number that has k lighter ones
unfoldable pub byte_of : (k value : ℕ) → ℕ
byte_of zero value = value % 256
byte_of (suc k) value = byte_of k (value / 256)

-- every number of a list is a byte, as in every list of u8
pub record AllBytes (bytes : List ℕ) : Type 0 where
  pub small : (i : ℕ) → slice_index bytes i < 256
