-- Document 02, §3: "Show of the answer, for doubles from 0 to 4,294,967,295: no whole number lies nearer, and another equally near is smaller."
-- It is what roundTiesToAway of IEEE 754-2019, clause 4.3.1 asks, of whole numbers. All arithmetic here is exact. Assumes nothing.
use Rattle.std.specs.Prelude.{◌≡◌, ℕ, ◌*◌, ◌≤◌, true, false, T, ◌≢◌, ℤ, pos, ◌-ℤ◌, ◌*ℤ◌, neg_ℤ, ◌<ℤ◌, unsigned_abs, Float}
use Rattle.std.specs.Float.{nan, inf, fin}
use Rattle.std.specs.Float.Ieee.{up, down, le}
use Rattle.doubles.specs.Doubles.{half_away, to_u32}

-- a finite double is the fraction numerator / denominator; 0 / 1 stands for what is not finite
abbrev pub numerator : Float → ℤ
numerator nan = pos 0
numerator (inf s) = pos 0
numerator (fin false m e) = pos (m * up e)
numerator (fin true m e) = neg_ℤ (pos (m * up e))

abbrev pub denominator : Float → ℕ
denominator nan = 1
denominator (inf s) = 1
denominator (fin s m e) = down e

-- how far x lies from the whole number k: |x - k|, counted in parts of 1 / denominator
unfoldable pub distance : (x : Float) (k : ℤ) → ℕ
distance x k = unsigned_abs (numerator x -ℤ k *ℤ pos (denominator x))

-- what is asked of the answer
pub record Nearest (x : Float) (answer : ℤ) : Type 0 where
  -- "no whole number lies nearer"
  pub none_nearer : (k : ℤ) → distance x answer ≤ distance x k
  -- "and another equally near is smaller"
  pub another_smaller : (k : ℤ) → k ≢ answer → distance x k ≡ distance x answer → k <ℤ answer

-- "for doubles from 0 to 4,294,967,295", -0 among them
pub record InRange (x : Float) : Type 0 where
  pub low : T (le (fin false 0 (pos 0)) x)
  pub high : T (le x (fin false 4294967295 (pos 0)))

-- the claim, of the answer half_away x of `round_half_away`
pub record Rounding : Type 0 where
  pub nearest : (x : Float) → InRange x → Nearest x (pos (half_away x))
  -- no other whole number meets both
  pub only : (x : Float) → InRange x → (k : ℤ) → Nearest x k → k ≡ pos (half_away x)
  -- `samples` gives to_u32 x for the double x = m times 48000 / 1000: nothing is cut off there
  pub uncut : (x : Float) → InRange x → to_u32 x ≡ half_away x
