-- The number of buckets fits its type. Assumes nothing.
use Rattle.std.specs.Prelude.{ℕ, ◌+◌, ◌/◌, ◌≤◌}
use native.Mathlib.Omega.{arith}
use native.Mathlib.Nat.{div-le_self}
use mir.Syntax.{w64}
use mir.Val.{Fits}
use Rattle.base.specs.Limits.{samples_limit}
use Rattle.buckets.specs.Ranges.{tenth}

pub buckets_cast : (a b w : ℕ) → a ≤ samples_limit → b ≤ samples_limit → Fits w64 ((a + b + tenth) / w)
buckets_cast a b w h k = omega (arith, div-le_self (a + b + tenth) w)

pub buckets_fit : (a b w : ℕ) → a ≤ samples_limit → b ≤ samples_limit → Fits w64 ((a + b + tenth) / w + 2)
buckets_fit a b w h k = omega (arith, div-le_self (a + b + tenth) w)
