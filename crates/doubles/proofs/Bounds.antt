-- A double that is not negative and at most p / r, and how such a bound goes through a product or a quotient by a literal, each rounded once:
-- a bound that is itself a double is kept by rounding. Assumes nothing.
use Rattle.std.proofs.Common.{◌≡◌, ℕ, suc, ◌+◌, ◌*◌, ◌/◌, ◌^◌, ◌<◌, ◌≤◌, min, Bool, true, false, cond, ◌&&◌, ◌||◌, T, eqb, ltb, pos, sym, ap, ◌∙◌, subst, inl, inr, true≢false, zero-le, le_trans, le_of_eq, mul-le-mul_right, zero-lt-suc, mul_assoc, mul_comm, eq-or-lt_of_le, mul-pos, zero-mul, mul-one, mul_right_comm, le_of_mul-le-mul_right, mul_left_comm, arith, lt→ltb, leb→le, pow_pos}
use lib.Dec.{eqb-suc-zero}
use lib.Ieee.{Float, nan, inf, fin, binary64, up, down, round, mul, div, le}
use lib.Ieee.Fits.{down_pos, and_i, eq→eqb}
use lib.Ieee.Exact.{HasValue}
use lib.Ieee.Nearest.{div_mono}
use lib.Ieee.Order.{round_mono}
use Rattle.doubles.specs.Doubles.{half_away, to_u32}
use Rattle.doubles.proofs.Halves.{twice_pos}
use Rattle.doubles.proofs.Products.{round_zero, halves_cross}
use Rattle.doubles.proofs.Values.{zero_is, or_l, exact, le_says, le_negative, minus_zero, no_factor}

abbrev pub Upto : Float → ℕ → ℕ → Type 0
Upto nan p r = ⊥
Upto (inf s) p r = ⊥
Upto (fin true m e) p r = m * up e ≡ 0
Upto (fin false m e) p r = m * up e * r ≤ p * down e

pub upto_of_value : (y : Float) (p r : ℕ) → HasValue y false p r → Upto y p r
upto_of_value nan p r v = absurd v
upto_of_value (inf s) p r v = absurd v
upto_of_value (fin true m e) p r v = absurd (true≢false v.0)
upto_of_value (fin false m e) p r v = le_of_eq v.1

upto_of_neg : (y : Float) (a c p r : ℕ) → HasValue y true a c → a ≡ 0 → 0 < c → Upto y p r
upto_of_neg nan a c p r v e C = absurd v
upto_of_neg (inf s) a c p r v e C = absurd v
upto_of_neg (fin false m g) a c p r v e C = absurd (true≢false (sym v.0))
upto_of_neg (fin true m g) a c p r v e C = no_factor (m * up g) c C (v.1 ∙ ap (λ (z : ℕ). z * down g) e ∙ zero-mul (down g))

-- what is from 0 to a value that is at most p / r is at most p / r
none_le : (a b c d : ℕ) → a ≡ 0 → a * b ≤ c * d
none_le a b c d e = le_trans (le_of_eq (ap (λ (z : ℕ). z * b) e ∙ zero-mul b)) zero-le

pub upto_trans : (x y : Float) (p r : ℕ) → T (le (fin false 0 (pos 0)) x) → T (le x y) → Upto y p r → Upto x p r
upto_trans nan y p r z h u = absurd (unfold le in z)
upto_trans (inf true) y p r z h u = absurd (unfold le in z)
upto_trans (inf false) nan p r z h u = absurd u
upto_trans (inf false) (inf t) p r z h u = absurd u
upto_trans (inf false) (fin t n d) p r z h u = absurd (unfold le in h)
upto_trans (fin true m e) y p r z h u = minus_zero m e z
upto_trans (fin false m e) nan p r z h u = absurd u
upto_trans (fin false m e) (inf t) p r z h u = absurd u
upto_trans (fin false m e) (fin true n d) p r z h u = none_le (m * up e) r p (down e) (le_negative m e n d h)
upto_trans (fin false m e) (fin false n d) p r z h u =
    le_of_mul-le-mul_right
    (le_trans (le_of_eq (mul_right_comm (m * up e) r (down d)))
    (le_trans (mul-le-mul_right r (le_says m e n d h))
    (le_trans (le_of_eq (mul_right_comm (n * up d) (down e) r))
    (le_trans (mul-le-mul_right (down e) u) (le_of_eq (mul_right_comm p (down d) (down e)))))))
    (down_pos d)

-- ---- q / 2 ^ j is a double, so rounding keeps it as a bound
pub round_upto : (a b q j : ℕ) → 0 < b → q < 2 ^ 53 → j ≤ 1074 → a * 2 ^ j ≤ q * b → Upto (round binary64 false a b) q (2 ^ j)
round_upto a b q j B h l k =
    upto_trans (round binary64 false a b) (round binary64 false q (2 ^ j)) q (2 ^ j)
    (subst (λ (z : Float). T (le z (round binary64 false a b))) zero_is (round_mono binary64 0 1 a b (leb→le 1 1 tt) B (le_trans (le_of_eq (zero-mul b)) zero-le)))
    (round_mono binary64 a b q (2 ^ j) B (pow_pos j) k)
    (upto_of_value (round binary64 false q (2 ^ j)) q (2 ^ j) (exact q j h l))

-- ---- times a literal n * 2 ^ k
mul_cross : (A D p r c w q : ℕ) → 0 < r → A * r ≤ p * D → p * c * w ≤ q * r → A * c * w ≤ q * D
mul_cross A D p r c w q R u h =
    le_of_mul-le-mul_right
    (le_trans (le_of_eq (regroup A c w r))
    (le_trans (mul-le-mul_right (c * w) u)
    (le_trans (le_of_eq (regroup' p D c w))
    (le_trans (mul-le-mul_right D h) (le_of_eq (mul_right_comm q r D))))))
    R
  where
    regroup : (A c w r : ℕ) → A * c * w * r ≡ A * r * (c * w)
    regroup A c w r = simp (mul_assoc, mul_comm, mul_left_comm)

    regroup' : (p D c w : ℕ) → p * D * (c * w) ≡ p * c * w * D
    regroup' p D c w = simp (mul_assoc, mul_comm, mul_left_comm)

pub mul_upto : (x : Float) (p r n k q j : ℕ) → 0 < r → Upto x p r → q < 2 ^ 53 → j ≤ 1074 → p * (n * 2 ^ k) * 2 ^ j ≤ q * r → Upto (mul binary64 x (fin false n (pos k))) q (2 ^ j)
unfolding mul
mul_upto nan p r n k q j R u h l b = absurd u
mul_upto (inf s) p r n k q j R u h l b = absurd u
mul_upto (fin true m e) p r n k q j R u h l b =
    let z : m * up e * (n * 2 ^ k) ≡ 0 = ap (λ (z : ℕ). z * (n * 2 ^ k)) u ∙ zero-mul (n * 2 ^ k) in
    let D : 0 < down e * 1 = mul-pos (down_pos e) (zero-lt-suc 0) in
    upto_of_neg (round binary64 true (m * up e * (n * 2 ^ k)) (down e * 1)) (m * up e * (n * 2 ^ k)) (down e * 1) q (2 ^ j) (round_zero true (m * up e * (n * 2 ^ k)) (down e * 1) z D) z D
mul_upto (fin false m e) p r n k q j R u h l b =
    round_upto (m * up e * (n * 2 ^ k)) (down e * 1) q j (mul-pos (down_pos e) (zero-lt-suc 0)) h l
    (le_trans (mul_cross (m * up e) (down e) p r (n * 2 ^ k) (2 ^ j) q R u b) (le_of_eq (ap (λ (z : ℕ). q * z) (sym (mul-one (down e))))))

-- ---- by a literal suc n * 2 ^ k
div_cross : (A D p r c w q : ℕ) → 0 < r → A * r ≤ p * D → p * w ≤ q * (c * r) → A * 1 * w ≤ q * (c * D)
div_cross A D p r c w q R u h =
    le_of_mul-le-mul_right
    (le_trans (le_of_eq (ap (λ (z : ℕ). z * w * r) (mul-one A) ∙ mul_right_comm A w r))
    (le_trans (mul-le-mul_right w u)
    (le_trans (le_of_eq (mul_right_comm p D w))
    (le_trans (mul-le-mul_right D h) (le_of_eq (regroup q c r D))))))
    R
  where
    regroup : (q c r D : ℕ) → q * (c * r) * D ≡ q * (c * D) * r
    regroup q c r D = simp (mul_assoc, mul_comm, mul_left_comm)

pub div_upto : (x : Float) (p r n k q j : ℕ) → 0 < r → Upto x p r → q < 2 ^ 53 → j ≤ 1074 → p * 2 ^ j ≤ q * (suc n * 2 ^ k * r) → Upto (div binary64 x (fin false (suc n) (pos k))) q (2 ^ j)
unfolding div
div_upto nan p r n k q j R u h l b = absurd u
div_upto (inf s) p r n k q j R u h l b = absurd u
div_upto (fin true m e) p r n k q j R u h l b =
    let A = m * up e * 1 in
    let B = suc n * 2 ^ k * down e in
    let z : A ≡ 0 = ap (λ (z : ℕ). z * 1) u in
    let P : 0 < B = mul-pos (mul-pos (zero-lt-suc n) (pow_pos k)) (down_pos e) in
    subst (λ (t : Bool). Upto (cond t (cond (eqb m 0) nan (inf true)) (round binary64 true A B)) q (2 ^ j)) (sym (eqb-suc-zero n))
    (upto_of_neg (round binary64 true A B) A B q (2 ^ j) (round_zero true A B z P) z P)
div_upto (fin false m e) p r n k q j R u h l b =
    let A = m * up e * 1 in
    let B = suc n * 2 ^ k * down e in
    let P : 0 < B = mul-pos (mul-pos (zero-lt-suc n) (pow_pos k)) (down_pos e) in
    subst (λ (t : Bool). Upto (cond t (cond (eqb m 0) nan (inf false)) (round binary64 false A B)) q (2 ^ j)) (sym (eqb-suc-zero n))
    (round_upto A B q j P h l (div_cross (m * up e) (down e) p r (suc n * 2 ^ k) (2 ^ j) q R u b))

-- ---- the whole numbers
pub half_away_upto : (y : Float) (p r : ℕ) → 0 < r → Upto y p r → half_away y ≤ (2 * p + r) / (2 * r)
unfolding half_away
half_away_upto nan p r R u = absurd u
half_away_upto (inf s) p r R u = absurd u
half_away_upto (fin true m e) p r R u = zero-le
half_away_upto (fin false m e) p r R u =
    div_mono (2 * (m * up e) + down e) (2 * down e) (2 * p + r) (2 * r) (twice_pos (down e) (down_pos e)) (twice_pos r R) (halves_cross (m * up e) (down e) p r u)

pub to_u32_upto : (y : Float) (p r : ℕ) → 0 < r → Upto y p r → to_u32 y ≤ (2 * p + r) / (2 * r)
unfolding to_u32
to_u32_upto nan p r R u = absurd u
to_u32_upto (inf s) p r R u = absurd u
to_u32_upto (fin s m e) p r R u = le_trans (least (half_away (fin s m e))) (half_away_upto (fin s m e) p r R u)
  where
    least : (a : ℕ) → min 4294967295 a ≤ a
    least a = omega arith

-- ---- back to the comparisons, at a bound that is a literal p * 2 ^ k

or_r : (a b : Bool) → T b → T (a || b)
or_r true b t = tt
or_r false b t = t

of_le : (a b : ℕ) → a ≤ b → T (ltb a b || (eqb a b && true))
of_le a b h = elim (eq-or-lt_of_le h) [ inl p ↦ or_r (ltb a b) (eqb a b && true) (and_i (eqb a b) true (eq→eqb p) tt) | inr q ↦ or_l (ltb a b) (eqb a b && true) (lt→ltb a b q) ]

pub upto_low : (y : Float) (p r : ℕ) → Upto y p r → T (le (fin false 0 (pos 0)) y)
upto_low nan p r u = absurd u
upto_low (inf s) p r u = absurd u
upto_low (fin true m e) p r u =
    unfold le in
    and_i (eqb (0 * down e) (m * up e * 1)) (eqb (0 * down e) 0) (eq→eqb (zero-mul (down e) ∙ sym u ∙ sym (mul-one (m * up e)))) (eq→eqb (zero-mul (down e)))
upto_low (fin false m e) p r u = unfold le in of_le (0 * down e) (m * up e * 1) (le_trans (le_of_eq (zero-mul (down e))) zero-le)

pub upto_high : (y : Float) (p k : ℕ) → 0 < p → Upto y (p * 2 ^ k) 1 → T (le y (fin false p (pos k)))
upto_high nan p k P u = absurd u
upto_high (inf s) p k P u = absurd u
upto_high (fin true m e) p k P u =
    unfold le in
    or_l (ltb 0 (m * up e * 1 + p * 2 ^ k * down e)) (eqb (m * up e * 1) (p * 2 ^ k * down e) && eqb (m * up e * 1) 0)
    (lt→ltb 0 (m * up e * 1 + p * 2 ^ k * down e) (some (m * up e * 1) (p * 2 ^ k * down e) (mul-pos (mul-pos P (pow_pos k)) (down_pos e))))
  where
    some : (a b : ℕ) → 0 < b → 0 < a + b
    some a b h = omega arith
upto_high (fin false m e) p k P u = unfold le in of_le (m * up e * 1) (p * 2 ^ k * down e) u
