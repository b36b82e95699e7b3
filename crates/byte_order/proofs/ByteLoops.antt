-- The number of the first n of eight bytes, one byte after the other. Assumes nothing.
use Rattle.std.specs.Prelude.{◌≡◌, ℕ, suc, ◌+◌, ◌*◌, ◌^◌, ◌<◌, ◌≤◌, List, get_or}
use mathlib.Core.Path.{refl, sym, ap, ◌∙◌}
use native.Mathlib.Nat.{le_antisymm, mul-le-mul_right}
use native.Mathlib.Numerals.{add-one}
use native.Mathlib.Omega.{arith}
use lib.Pow.{pow_mono, pow-add}
use Rattle.byte_order.specs.Bytes.{bytes_at}

-- ---- eight bytes, the first weighing most
-- the number of the first n bytes, which is below 2 to the 8 n
pub record Reading (bytes : List ℕ) (place n value : ℕ) : Type 0 where
  pub within : n ≤ 8
  pub number : value ≡ bytes_at bytes place n
  pub small : value < 2 ^ (8 * n)

power_more : (n value more : ℕ) → value < 2 ^ (8 * n) → more < (value + 1) * 256 → more < 2 ^ (8 * suc n)
power_more n value more h k =
    let e : 8 * suc n ≡ 8 * n + 8 = omega arith in
    rw (e, pow-add 2 (8 * n) 8) (omega (arith, mul-le-mul_right {m = value + 1} {n = 2 ^ (8 * n)} 256 (omega arith)))

power_most : (n : ℕ) → n < 8 → 2 ^ (8 * n) ≤ 2 ^ 56
power_most n h = pow_mono {i = 8 * n} {j = 56} (omega arith)

module _ (bytes : List ℕ) (place : ℕ) where
  pub reading_none : Reading bytes place 0 0
  unfolding bytes_at
  reading_none = record { within = omega arith; number = refl; small = omega arith }

  module _ {n value : ℕ} (inv : Reading bytes place n value) where
    pub reading_room : n < 8 → value < 72057594037927936
    reading_room h = omega (arith, inv.small, power_most n h)

    pub reading_more : n < 8 → {more : ℕ} → (more ≡ value * 256 + get_or bytes (place + n) 0) × (more < (value + 1) * 256) → Reading bytes place (n + 1) more
    unfolding bytes_at
    reading_more h {more} e = record {
      within = omega arith;
      number = e.0 ∙ ap (λ (v : ℕ). v * 256 + get_or bytes (place + n) 0) inv.number ∙ ap (bytes_at bytes place) (sym (add-one n));
      small = rw (add-one n) (power_more n value more inv.small e.1);
    }

    pub reading_end : 8 ≤ n → value ≡ bytes_at bytes place 8
    reading_end h = inv.number ∙ ap (bytes_at bytes place) (le_antisymm inv.within h)
