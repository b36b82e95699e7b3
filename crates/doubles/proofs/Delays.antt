-- A manual delay from 0 to `ms`(n), in samples, is at most n. Assumes nothing.
use Rattle.std.proofs.Common.{ℕ, ◌+◌, ◌*◌, ◌/◌, ◌^◌, ◌<◌, ◌≤◌, false, T, pos, le_trans, arith, leb→le, pow_pos}
use lib.Ieee.{Float, fin, binary64, mul, div, le}
use Rattle.doubles.specs.Doubles.{thousand, rate, double, ms_of, samples_of}
use Rattle.doubles.proofs.Products.{double_value}
use Rattle.doubles.proofs.Bounds.{Upto, upto_of_value, upto_trans, mul_upto, div_upto, to_u32_upto}

-- n / 48 in units of 2 ^ -30, rounded up
abbrev step : ℕ → ℕ
step n = n * 1073741824 / 48 + 1

one : 0 < 1
one = leb→le 1 1 tt

ms_upto : (n : ℕ) → n ≤ 96000 → Upto (ms_of n) (step n) (2 ^ 30)
unfolding ms_of
ms_upto n h =
    div_upto (mul binary64 (double n) thousand) (n * 1000) 1 374 7 (step n) 30 one
    (mul_upto (double n) n 1 125 3 (n * 1000) 0 one (upto_of_value (double n) n 1 (double_value n (omega arith))) (omega arith) (omega arith) (omega arith))
    (omega arith) (omega arith) (omega arith)

pub manual_fits_law : (m : Float) (n : ℕ) → n ≤ 96000 → T (le (fin false 0 (pos 0)) m) → T (le m (ms_of n)) → samples_of m ≤ n
unfolding samples_of
manual_fits_law m n h z l =
    let u = upto_trans m (ms_of n) (step n) (2 ^ 30) z l (ms_upto n h) in
    let v = mul_upto m (step n) (2 ^ 30) 375 7 (n * 16384000 + 1) 14 (pow_pos 30) u (omega arith) (omega arith) (omega arith) in
    let w = div_upto (mul binary64 m rate) (n * 16384000 + 1) (2 ^ 14) 124 3 (4 * n + 1) 2 (pow_pos 14) v (omega arith) (omega arith) (omega arith) in
    le_trans (to_u32_upto (div binary64 (mul binary64 m rate) thousand) (4 * n + 1) (2 ^ 2) (pow_pos 2) w) (omega arith)
