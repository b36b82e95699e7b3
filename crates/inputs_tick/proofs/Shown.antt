-- The looks of the inputs in use, the first so many of 16. Assumes nothing.
use Rattle.std.specs.Prelude.{◌≡◌, ℕ, ◌<◌, ◌≤◌, List, length, take, get_or}
use native.Mathlib.Omega.{arith}
use Rattle.std.proofs.lemmas.List.{get_or-take, length-take, length-take-le}
use Rattle.rules_tick.specs.declared.Look.{Look}
use Rattle.rules_tick.specs.Looks.{look_at, no_look}

module _ (n : ℕ) (looks : List Look) (i : ℕ) where
  pub used : i < length (take n looks) → i < n
  used h = omega (arith, length-take n looks, h)

  pub shown : i < length (take n looks) → get_or (take n looks) i no_look ≡ look_at looks i
  unfolding look_at
  shown h = get_or-take n looks i no_look (used h)

  pub past : n ≤ 16 → length looks ≡ 16 → length (take n looks) ≤ i → n ≤ i
  past few long h = omega (arith, length-take-le n looks (omega (arith, few, long)), h)
