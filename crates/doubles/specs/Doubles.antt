-- Document 01, "Doubles": samples and milliseconds over the toolchain's IEEE 754. A literal is its number m * 2 ^ e with m odd. Assumes nothing.
use Rattle.std.specs.Prelude.{ℕ, ◌+◌, ◌-◌, ◌*◌, ◌/◌, min, true, false, pos, Float}
use Rattle.std.specs.Float.{nan, inf, fin, binary64}
use Rattle.std.specs.Float.Ieee.{up, down, of_int, mul, div}

-- 1000 is 125 * 2 ^ 3
abbrev pub thousand : Float
thousand = fin false 125 (pos 3)

-- 48000 is 375 * 2 ^ 7: the samples of a second
abbrev pub rate : Float
rate = fin false 375 (pos 7)

-- a whole number as a double
abbrev pub double : ℕ → Float
double n = of_int binary64 (pos n)

-- "`ms(n)` = n times 1000 / 48000 in doubles, each operation rounded once"
unfoldable pub ms_of : ℕ → Float
ms_of n = div binary64 (mul binary64 (double n) thousand) rate

-- "rounded to a whole number with halves away from zero": floor (v + 1 / 2) of the exact value v; 0 where it is below zero or not finite
unfoldable pub half_away : Float → ℕ
half_away nan = 0
half_away (inf s) = 0
half_away (fin true m e) = 0
half_away (fin false m e) = (2 * (m * up e) + down e) / (2 * down e)

-- "raised to the next whole number": the ceiling of the exact value; 0 where it is below zero or not finite
unfoldable pub ceil_of : Float → ℕ
ceil_of nan = 0
ceil_of (inf s) = 0
ceil_of (fin true m e) = 0
ceil_of (fin false m e) = (m * up e + (down e - 1)) / down e

-- "below 0 and NaN give 0, above 4,294,967,295 gives that"
unfoldable pub to_u32 : Float → ℕ
unfolding half_away
to_u32 nan = 0
to_u32 (inf true) = 0
to_u32 (inf false) = 4294967295
to_u32 (fin s m e) = min 4294967295 (half_away (fin s m e))

-- "`samples(m)` = m times 48000 / 1000", rounded so
unfoldable pub samples_of : Float → ℕ
unfolding to_u32
samples_of m = to_u32 (div binary64 (mul binary64 m rate) thousand)
