-- The order of the bytes, on numbers. Assumes nothing.
use Rattle.std.specs.Prelude.{◌≡◌, ℕ, List, [], ◌∷◌}
use mathlib.Core.Path.{refl}
use Rattle.byte_order.specs.Bytes.{bytes_at, little_at, byte_of}

abbrev bytes : List ℕ
bytes = 9 ∷ 1 ∷ 2 ∷ 3 ∷ 4 ∷ 9 ∷ []

-- "the first byte weighing most": 1, 2, 3 are 1 · 65,536 + 2 · 256 + 3
pub first_weighs_most : bytes_at bytes 1 3 ∷ bytes_at bytes 1 1 ∷ bytes_at bytes 1 0 ∷ bytes_at bytes 5 2 ∷ [] ≡ 66051 ∷ 1 ∷ 0 ∷ 2304 ∷ []
unfolding bytes_at
first_weighs_most = refl

-- "little-endian": 1, 2 are 1 + 2 · 256
pub first_weighs_least : little_at bytes 1 2 ∷ little_at bytes 1 4 ∷ little_at bytes 1 1 ∷ little_at bytes 5 2 ∷ [] ≡ 513 ∷ 67305985 ∷ 1 ∷ 9 ∷ []
unfolding little_at
first_weighs_least = refl

pub bytes_of_a_number : byte_of 0 66051 ∷ byte_of 1 66051 ∷ byte_of 2 66051 ∷ byte_of 3 66051 ∷ [] ≡ 3 ∷ 2 ∷ 1 ∷ 0 ∷ []
unfolding byte_of
bytes_of_a_number = refl
