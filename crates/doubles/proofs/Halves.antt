-- Rounding with halves away from zero, by the definition's fraction: 0 where the value is not above zero, and against 4,294,967,295. Assumes nothing.
use Rattle.std.proofs.Common.{◌≡◌, ℕ, ◌+◌, ◌*◌, ◌/◌, ◌^◌, ◌<◌, ◌≤◌, min, true, false, not, T, ltb, ℤ, pos, sym, refl, subst, zero-le, le_trans, le_of_eq, div-lt_iff_lt-mul, le-div_iff_mul-le, zero-mul, mul-one, arith, nltb→le}
use native.Mathlib.Nat.{div-eq_of_lt}
use lib.Ieee.{Float, nan, inf, fin, up, down, lt, le}
use lib.Ieee.Fits.{down_pos}
use Rattle.doubles.specs.Doubles.{half_away, to_u32}
use Rattle.doubles.proofs.Values.{lt_of_value, below_says, lt_le, le_says}

-- ---- not above zero
pub no_halves : (n d : ℕ) → n ≡ 0 → 0 < d → (2 * n + d) / (2 * d) ≡ 0
no_halves n d e D = div-eq_of_lt (small n d e D)
  where
    small : (n d : ℕ) → n ≡ 0 → 0 < d → 2 * n + d < 2 * d
    small n d e D = omega arith

at_zero : (m : ℕ) (e : ℤ) → T (not (lt (fin false 0 (pos 0)) (fin false m e))) → m * up e ≡ 0
unfolding lt
at_zero m e t = le_zero (m * up e) (le_trans (le_of_eq (sym (mul-one (m * up e)))) (le_trans (nltb→le (0 * down e) (m * up e * 1) t) (le_of_eq (zero-mul (down e)))))
  where
    le_zero : (a : ℕ) → a ≤ 0 → a ≡ 0
    le_zero a h = omega arith

pub halves_none : (x : Float) → T (not (lt (fin false 0 (pos 0)) x)) → half_away x ≡ 0
unfolding half_away
halves_none nan p = refl
halves_none (inf s) p = refl
halves_none (fin true m e) p = refl
halves_none (fin false m e) p = no_halves (m * up e) (down e) (at_zero m e p) (down_pos e)

pub twice_pos : (d : ℕ) → 0 < d → 0 < 2 * d
twice_pos d h = omega arith

-- ---- against 4,294,967,295, which is C
-- x at most C: rounded to at most C, so that `to_u32` cuts nothing off
halves_most : (x : Float) → T (le x (fin false 4294967295 (pos 0))) → half_away x ≤ 4294967295
unfolding half_away
halves_most nan q = zero-le
halves_most (inf s) q = zero-le
halves_most (fin true m e) q = zero-le
halves_most (fin false m e) q = pred ((div-lt_iff_lt-mul (twice_pos (down e) (down_pos e))).1 (room (m * up e) (down e) (le_says m e 4294967295 (pos 0) q) (down_pos e)))
  where
    room : (n d : ℕ) → n * 1 ≤ 4294967295 * 1 * d → 0 < d → 2 * n + d < 4294967296 * (2 * d)
    room n d h D = omega arith

    pred : {a : ℕ} → a < 4294967296 → a ≤ 4294967295
    pred h = omega arith

pub uncut : (x : Float) → T (le (fin false 0 (pos 0)) x) → T (le x (fin false 4294967295 (pos 0))) → to_u32 x ≡ half_away x
uncut nan p q = absurd (unfold le in p)
uncut (inf true) p q = absurd (unfold le in p)
uncut (inf false) p q = absurd (unfold le in q)
uncut (fin s m e) p q = unfold to_u32 in least (halves_most (fin s m e) q)
  where
    least : {a : ℕ} → a ≤ 4294967295 → min 4294967295 a ≡ a
    least h = omega arith

pub small_cast : (x : Float) → T (lt (fin false 0 (pos 0)) x) → T (lt x (fin false 4294967295 (pos 0))) → half_away x ≤ 4294967295
small_cast x p q = halves_most x (lt_le x (fin false 4294967295 (pos 0)) q)

pub small_is : (x : Float) → T (lt (fin false 0 (pos 0)) x) → T (lt x (fin false 4294967295 (pos 0))) → to_u32 x ≡ half_away x
small_is x p q = uncut x (lt_le (fin false 0 (pos 0)) x p) (lt_le x (fin false 4294967295 (pos 0)) q)

pub wide : (x : Float) → T (lt (fin false 0 (pos 0)) x) → T (lt x (fin false 4294967295 (pos 0))) → T (lt x (fin false 1 (pos 62)))
wide nan p q = absurd (unfold lt in p)
wide (inf true) p q = absurd (unfold lt in p)
wide (inf false) p q = absurd (unfold lt in q)
wide (fin true m e) p q = absurd (unfold lt in p)
wide (fin false m e) p q =
    lt_of_value (fin false m e) (m * up e) (down e) 62 (down_pos e) (refl, refl) (room (m * up e) (down e) (below_says m e 4294967295 0 q) (down_pos e))
  where
    room : (n d : ℕ) → n < 4294967295 * 1 * d → 0 < d → n < 2 ^ 62 * d
    room n d h D = omega arith

-- C or more: C
pub large_is : (x : Float) → T (lt (fin false 0 (pos 0)) x) → T (not (lt x (fin false 4294967295 (pos 0)))) → to_u32 x ≡ 4294967295
unfolding lt
large_is nan p q = absurd (unfold lt in p)
large_is (inf true) p q = absurd (unfold lt in p)
large_is (inf false) p q = unfold to_u32 in refl
large_is (fin true m e) p q = absurd (unfold lt in p)
large_is (fin false m e) p q =
    unfold to_u32 in
    least ((le-div_iff_mul-le (twice_pos (down e) (down_pos e))).1 (room (m * up e) (down e) (back (m * up e) (4294967295 * 1 * down e) q)))
  where
    back : (a b : ℕ) → T (not (ltb (a * 1) b)) → b ≤ a
    back a b t = subst (λ (z : ℕ). b ≤ z) (mul-one a) (nltb→le (a * 1) b t)

    room : (n d : ℕ) → 4294967295 * 1 * d ≤ n → 4294967295 * (2 * d) ≤ 2 * n + d
    room n d h = omega arith

    least : {a : ℕ} → 4294967295 ≤ a → min 4294967295 a ≡ 4294967295
    least h = omega arith

-- not above zero, a NaN too: 0
pub none_is : (x : Float) → T (not (lt (fin false 0 (pos 0)) x)) → to_u32 x ≡ 0
none_is nan p = unfold to_u32 in refl
none_is (inf true) p = unfold to_u32 in refl
none_is (inf false) p = absurd (unfold lt in p)
none_is (fin s m e) p = unfold to_u32 in least (halves_none (fin s m e) p)
  where
    least : {a : ℕ} → a ≡ 0 → min 4294967295 a ≡ 0
    least h = omega arith
