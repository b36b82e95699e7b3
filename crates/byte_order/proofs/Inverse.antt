-- Reading bytes and writing them undo each other. Assumes nothing.
use Rattle.std.specs.Prelude.{◌≡◌, ℕ, zero, suc, ◌+◌, ◌-◌, ◌*◌, ◌/◌, ◌%◌, ◌<◌, List, get_or}
use mathlib.Core.Path.{refl, sym, ap, ap₂, ◌∙◌}
use mathlib.Core.Logic.{⊎_elim}
use native.Mathlib.Nat.{eq-or-lt_of_le, le_of_suc-le-suc}
use native.Mathlib.Omega.{arith}
use Rattle.byte_order.specs.Bytes.{bytes_at, little_at, byte_of, AllBytes}

-- ---- the bytes of a number that was read
pub big_byte : (bytes : List ℕ) (p n j : ℕ) → AllBytes bytes → j < n → byte_of (n - 1 - j) (bytes_at bytes p n) ≡ get_or bytes (p + j) 0
unfolding bytes_at byte_of
big_byte bytes p zero j small l = absurd (omega arith)
big_byte bytes p (suc n) j small l = ⊎_elim last (λ m. before m (big_byte bytes p n j small m)) (eq-or-lt_of_le (le_of_suc-le-suc l))
  where
    v : ℕ
    v = bytes_at bytes p n * 256 + get_or bytes (p + n) 0

    last : j ≡ n → byte_of (suc n - 1 - j) v ≡ get_or bytes (p + j) 0
    last e =
        let q : suc n - 1 - j ≡ 0 = omega arith in
        let b : get_or bytes (p + n) 0 < 256 = small.small (p + n) in
        let w : v % 256 ≡ get_or bytes (p + n) 0 = omega arith in
        ap (λ (k : ℕ). byte_of k v) q ∙ w ∙ ap (λ (k : ℕ). get_or bytes (p + k) 0) (sym e)

    before : j < n → byte_of (n - 1 - j) (bytes_at bytes p n) ≡ get_or bytes (p + j) 0 → byte_of (suc n - 1 - j) v ≡ get_or bytes (p + j) 0
    before m ih =
        let q : suc n - 1 - j ≡ suc (n - 1 - j) = omega arith in
        let b : get_or bytes (p + n) 0 < 256 = small.small (p + n) in
        let w : v / 256 ≡ bytes_at bytes p n = omega arith in
        ap (λ (k : ℕ). byte_of k v) q ∙ ap (byte_of (n - 1 - j)) w ∙ ih

pub little_byte : (bytes : List ℕ) (p n j : ℕ) → AllBytes bytes → j < n → byte_of j (little_at bytes p n) ≡ get_or bytes (p + j) 0
unfolding little_at byte_of
little_byte bytes p zero j small l = absurd (omega arith)
little_byte bytes p (suc n) zero small l =
    let b : get_or bytes p 0 < 256 = small.small p in
    let q : p + 0 ≡ p = omega arith in
    let w : (get_or bytes p 0 + little_at bytes (p + 1) n * 256) % 256 ≡ get_or bytes p 0 = omega arith in
    w ∙ ap (λ (k : ℕ). get_or bytes k 0) (sym q)
little_byte bytes p (suc n) (suc j) small l =
    let b : get_or bytes p 0 < 256 = small.small p in
    let q : p + 1 + j ≡ p + suc j = omega arith in
    let w : (get_or bytes p 0 + little_at bytes (p + 1) n * 256) / 256 ≡ little_at bytes (p + 1) n = omega arith in
    ap (byte_of j) w ∙ little_byte bytes (p + 1) n j small (omega arith) ∙ ap (λ (k : ℕ). get_or bytes k 0) q

-- ---- how many numbers n bytes hold
unfoldable pub weight : ℕ → ℕ
weight zero = 1
weight (suc n) = weight n * 256

pub big_small : (bytes : List ℕ) (p n : ℕ) → AllBytes bytes → bytes_at bytes p n < weight n
unfolding bytes_at weight
big_small bytes p zero small = omega arith
big_small bytes p (suc n) small = omega (arith, big_small bytes p n small, small.small (p + n))

pub little_small : (bytes : List ℕ) (p n : ℕ) → AllBytes bytes → little_at bytes p n < weight n
unfolding little_at weight
little_small bytes p zero small = omega arith
little_small bytes p (suc n) small = omega (arith, little_small bytes (p + 1) n small, small.small p)

-- ---- the number of bytes that were written
pub big_of : (bytes : List ℕ) (p n v : ℕ) → v < weight n → ((j : ℕ) → j < n → get_or bytes (p + j) 0 ≡ byte_of (n - 1 - j) v) → bytes_at bytes p n ≡ v
unfolding bytes_at weight byte_of
big_of bytes p zero v l f = omega arith
big_of bytes p (suc n) v l f = ap₂ (λ (a b : ℕ). a * 256 + b) (big_of bytes p n (v / 256) (omega arith) rest) last ∙ together
  where
    together : v / 256 * 256 + v % 256 ≡ v
    together = omega arith

    last : get_or bytes (p + n) 0 ≡ v % 256
    last = let q : suc n - 1 - n ≡ 0 = omega arith in f n (omega arith) ∙ ap (λ (k : ℕ). byte_of k v) q

    rest : (j : ℕ) → j < n → get_or bytes (p + j) 0 ≡ byte_of (n - 1 - j) (v / 256)
    rest j m = let q : suc n - 1 - j ≡ suc (n - 1 - j) = omega arith in f j (omega arith) ∙ ap (λ (k : ℕ). byte_of k v) q

pub little_of : (bytes : List ℕ) (p n v : ℕ) → v < weight n → ((j : ℕ) → j < n → get_or bytes (p + j) 0 ≡ byte_of j v) → little_at bytes p n ≡ v
unfolding little_at weight byte_of
little_of bytes p zero v l f = omega arith
little_of bytes p (suc n) v l f = ap₂ (λ (a b : ℕ). a + b * 256) first (little_of bytes (p + 1) n (v / 256) (omega arith) rest) ∙ together
  where
    together : v % 256 + v / 256 * 256 ≡ v
    together = omega arith

    first : get_or bytes p 0 ≡ v % 256
    first = let q : p ≡ p + 0 = omega arith in ap (λ (k : ℕ). get_or bytes k 0) q ∙ f 0 (omega arith)

    rest : (j : ℕ) → j < n → get_or bytes (p + 1 + j) 0 ≡ byte_of j (v / 256)
    rest j m = let q : p + 1 + j ≡ p + suc j = omega arith in ap (λ (k : ℕ). get_or bytes k 0) q ∙ f (suc j) (omega arith)

-- ---- the same bytes elsewhere
pub big_cong : (bytes other : List ℕ) (p q n : ℕ) → ((j : ℕ) → j < n → get_or bytes (p + j) 0 ≡ get_or other (q + j) 0) → bytes_at bytes p n ≡ bytes_at other q n
unfolding bytes_at
big_cong bytes other p q zero f = refl
big_cong bytes other p q (suc n) f = ap₂ (λ (a b : ℕ). a * 256 + b) (big_cong bytes other p q n (λ j l. f j (omega arith))) (f n (omega arith))
