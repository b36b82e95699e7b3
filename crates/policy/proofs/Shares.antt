-- A percent from 0 to 1,000 is a share from 0 to 10. Assumes nothing.
use Rattle.std.specs.Prelude.{◌<◌, false, T, pos}
use native.Mathlib.Omega.{arith}
use lib.Dec.{leb→le}
use lib.Ieee.{Float, fin, binary64, div, le}
use Rattle.doubles.proofs.Bounds.{upto_trans, upto_low, upto_high, div_upto}
use Rattle.policy.specs.Settings.{share_of_percent}

one : 0 < 1
one = leb→le 1 1 tt

pub share_sound : (p : Float) → T (le (fin false 0 (pos 0)) p) → T (le p (fin false 125 (pos 3))) → T (le (fin false 0 (pos 0)) (share_of_percent p)) × T (le (share_of_percent p) (fin false 5 (pos 1)))
unfolding share_of_percent
share_sound p z h =
    let u = upto_trans p (fin false 125 (pos 3)) 1000 1 z h (leb→le 1000 1000 tt) in
    let v = div_upto p 1000 1 24 2 10 0 one u (omega arith) (omega arith) (omega arith) in
    (upto_low (div binary64 p (fin false 25 (pos 2))) 10 1 v, upto_high (div binary64 p (fin false 25 (pos 2))) 5 1 (omega arith) v)
