-- Thousandths as doubles: they are from 0 to 1, and the code's literals are three of them. Assumes nothing.
use Prim.Native.Nat.{ℕ, ◌≤◌}
use mathlib.Core.Bool.{true}
use mathlib.Core.Path.{◌≡◌, refl}
use native.Mathlib.Omega.{arith}
use denote.Floats.{is_true}
use lib.Ieee.{binary64, round, of_bits}
use lib.Ieee.Order.{round_mono}
use Rattle.base.proofs.Points.{true_both}
use Rattle.doubles.proofs.Values.{zero_is, one_is}
use Rattle.rules_window.specs.Quantile.{thousandths}
use Rattle.rules_window.specs.Checks.{from_zero_to_one}

pub thousandths_in : (k : ℕ) → k ≤ 1000 → from_zero_to_one (thousandths k) ≡ true
unfolding from_zero_to_one thousandths
thousandths_in k h =
    true_both _ _
    (is_true _ (rw zero_is at (round_mono binary64 0 1 k 1000 (omega arith) (omega arith) (omega arith))))
    (is_true _ (rw one_is at (round_mono binary64 k 1000 1 1 (omega arith) (omega arith) (omega arith))))

-- the code's literals
pub half_is : of_bits binary64 4602678819172646912 ≡ thousandths 500
unfolding of_bits round thousandths
half_is = refl

pub high_is : of_bits binary64 4607092346807469998 ≡ thousandths 990
unfolding of_bits round thousandths
high_is = refl

pub highest_is : of_bits binary64 4607173411600762667 ≡ thousandths 999
unfolding of_bits round thousandths
highest_is = refl
