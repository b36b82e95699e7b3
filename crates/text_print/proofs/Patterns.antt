-- Doubles and their bit patterns where there may be a NaN. Assumes nothing.
use Prim.Native.Nat.{ℕ, ◌%◌, ◌/◌}
use mathlib.Core.Bool.{Bool, true, not, true≢false}
use mathlib.Core.Path.{◌≡◌, refl, sym, ◌∙◌}
use borrow.Author.Tests.{eq-eqb, ne_eqb}
use lib.Dec.{eqb}
use lib.Ieee.{Float, nan, inf, fin, binary64, is_nan, nan_bits, of_bits, to_bits}
use lib.Ieee.Bits.{nan_bits_is}

module _ (bits : ℕ) where
  pub nan_digits : bits % 9223372036854775808 / 4503599627370496 ≡ 2047 → not (eqb (bits % 4503599627370496) 0) ≡ nan_bits binary64 bits
  unfolding nan_bits
  nan_digits h = rw (eq-eqb (bits % 9223372036854775808 / 4503599627370496) 2047 h)

  pub nan_exponent : (bits % 9223372036854775808 / 4503599627370496 ≡ 2047 → ⊥) → eqb (bits % 9223372036854775808 / 4503599627370496) 2047 ≡ nan_bits binary64 bits
  unfolding nan_bits
  nan_exponent h = rw (ne_eqb (bits % 9223372036854775808 / 4503599627370496) 2047 h)

no_other : (x : Float) → is_nan x ≡ true → nan ≡ x
unfolding is_nan
no_other nan h = refl
no_other (inf s) h = absurd (true≢false (sym h))
no_other (fin s m e) h = absurd (true≢false (sym h))

-- a NaN's bits read as the NaN, whose own bits these are
pub reads_nan : (bits : ℕ) {b : Bool} → b ≡ nan_bits binary64 bits → b ≡ true → of_bits binary64 9221120237041090560 ≡ of_bits binary64 bits
unfolding of_bits
reads_nan bits q h = no_other (of_bits binary64 bits) (sym (nan_bits_is binary64 bits) ∙ sym q ∙ h)

pub writes_nan : (x : Float) {b : Bool} → b ≡ is_nan x → b ≡ true → 9221120237041090560 ≡ to_bits binary64 x
unfolding to_bits
writes_nan x q h = rw (← no_other x (sym q ∙ h))
