-- The numbers and the bytes that std makes are those of the definitions. Assumes nothing.
use Rattle.std.specs.Prelude.{◌≡◌, ℕ, zero, suc, ◌+◌, ◌-◌, ◌*◌, ◌/◌, ◌%◌, ◌<◌, List, [], ◌∷◌, get_or, take, drop}
use mathlib.Core.Path.{refl, sym, ap, ◌∙◌}
use native.Mathlib.Omega.{arith}
use lib.Seq.{get_or-take, get_or-drop}
use Rattle.byte_order.specs.Bytes.{bytes_at, little_at, byte_of}

-- ---- eight bytes, the first weighing most
pub eight_bytes : (bytes : List ℕ) (place : ℕ) {eight : List ℕ} {r : ℕ} → eight ≡ take (place + 8 - place) (drop place bytes) → r ≡ get_or eight 0 0 * 72057594037927936 + get_or eight 1 0 * 281474976710656 + get_or eight 2 0 * 1099511627776 + get_or eight 3 0 * 4294967296 + get_or eight 4 0 * 16777216 + get_or eight 5 0 * 65536 + get_or eight 6 0 * 256 + get_or eight 7 0 → r ≡ bytes_at bytes place 8
unfolding bytes_at
eight_bytes bytes place {eight} e f = omega (arith, f, at 0 (omega arith), at 1 (omega arith), at 2 (omega arith), at 3 (omega arith), at 4 (omega arith), at 5 (omega arith), at 6 (omega arith), at 7 (omega arith))
  where
    at : (i : ℕ) → i < 8 → get_or eight i 0 ≡ get_or bytes (place + i) 0
    at i l = rw e (get_or-take (place + 8 - place) (drop place bytes) i 0 (omega arith) ∙ get_or-drop place bytes i 0)

-- ---- four bytes, the first weighing least
pub four_bytes : (bytes : List ℕ) (place : ℕ) {r : ℕ} → r ≡ get_or bytes place 0 + get_or bytes (place + 1) 0 * 256 + get_or bytes (place + 2) 0 * 65536 + get_or bytes (place + 3) 0 * 16777216 → r ≡ little_at bytes place 4
unfolding little_at
four_bytes bytes place e =
    let q : place + 1 + 1 ≡ place + 2 = omega arith in
    let w : place + 1 + 1 + 1 ≡ place + 3 = omega arith in
    rw (w, q) (omega (arith, e))

-- ---- the bytes of a number, the lightest first
byte_of_zero : (k : ℕ) → byte_of k 0 ≡ 0
unfolding byte_of
byte_of_zero zero = refl
byte_of_zero (suc k) = byte_of_zero k

pub byte_at_place : (k v : ℕ) → v < 18446744073709551616 → get_or (v % 256 ∷ v / 256 % 256 ∷ v / 65536 % 256 ∷ v / 16777216 % 256 ∷ v / 4294967296 % 256 ∷ v / 1099511627776 % 256 ∷ v / 281474976710656 % 256 ∷ v / 72057594037927936 % 256 ∷ []) k 0 ≡ byte_of k v
unfolding byte_of
byte_at_place zero v l = refl
byte_at_place (suc zero) v l = refl
byte_at_place (suc (suc zero)) v l = omega arith
byte_at_place (suc (suc (suc zero))) v l = omega arith
byte_at_place (suc (suc (suc (suc zero)))) v l = omega arith
byte_at_place (suc (suc (suc (suc (suc zero))))) v l = omega arith
byte_at_place (suc (suc (suc (suc (suc (suc zero)))))) v l = omega arith
byte_at_place (suc (suc (suc (suc (suc (suc (suc zero))))))) v l = omega arith
byte_at_place (suc (suc (suc (suc (suc (suc (suc (suc k)))))))) v l =
    let none : v / 256 / 256 / 256 / 256 / 256 / 256 / 256 / 256 ≡ 0 = omega arith in sym (ap (byte_of k) none ∙ byte_of_zero k)
