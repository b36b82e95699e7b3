-- A whole number times a double that is not negative, rounded once: as a fraction, its bounds, and its order. Assumes nothing.
use Rattle.std.proofs.Common.{◌≡◌, ℕ, ◌+◌, ◌*◌, ◌/◌, ◌^◌, ◌<◌, ◌≤◌, Bool, true, false, ◌&&◌, T, eqb, ltb, ℤ, pos, sym, refl, ap, ◌∙◌, subst, true≢false, zero-le, le_trans, le_of_eq, mul-le-mul_right, mul_assoc, mul_comm, add-mul, mul-le-mul, mul-pos, zero-mul, mul-one, mul_left_comm, arith, lt→ltb, leb→le}
use lib.Ieee.{Float, nan, inf, fin, binary64, up, down, round, mul, lt, le, of_int}
use lib.Ieee.Fits.{down_pos}
use lib.Ieee.Exact.{HasValue, round_exact}
use lib.Ieee.Back.{round_whole}
use lib.Ieee.Nearest.{div_mono}
use lib.Ieee.Order.{round_mono}
use lib.Ieee.Scale.{round_same}
use Rattle.doubles.specs.Doubles.{double, half_away}
use Rattle.doubles.proofs.Halves.{twice_pos, no_halves}
use Rattle.doubles.proofs.Values.{or_l, le_says, le_negative, minus_zero}

-- ---- the product, as one fraction rounded
pub double_value : (n : ℕ) → n ≤ 2 ^ 53 → HasValue (double n) false n 1
unfolding of_int
double_value n h = round_whole binary64 false n h

pub mul_value : (d : Float) (n m : ℕ) (e : ℤ) → HasValue d false n 1 → mul binary64 d (fin false m e) ≡ round binary64 false (n * (m * up e)) (down e)
unfolding mul
mul_value nan n m e v = absurd v
mul_value (inf s) n m e v = absurd v
mul_value (fin true a g) n m e v = absurd (true≢false v.0)
mul_value (fin false a g) n m e v =
    round_same binary64 false (a * up g * (m * up e)) (down g * down e) (n * (m * up e)) (down e) (mul-pos (down_pos g) (down_pos e)) (down_pos e)
    (crossed (a * up g) (m * up e) (down e) n (down g) (sym (mul-one (a * up g)) ∙ v.1))
  where
    crossed : (A B D n G : ℕ) → A ≡ n * G → A * B * D ≡ n * B * (G * D)
    crossed A B D n G h = ap (λ (z : ℕ). z * B * D) h ∙ simp (mul_assoc, mul_comm, mul_left_comm)

pub mul_value_neg : (d : Float) (n m : ℕ) (e : ℤ) → HasValue d false n 1 → mul binary64 d (fin true m e) ≡ round binary64 true (n * (m * up e)) (down e)
unfolding mul
mul_value_neg nan n m e v = absurd v
mul_value_neg (inf s) n m e v = absurd v
mul_value_neg (fin true a g) n m e v = absurd (true≢false v.0)
mul_value_neg (fin false a g) n m e v =
    round_same binary64 true (a * up g * (m * up e)) (down g * down e) (n * (m * up e)) (down e) (mul-pos (down_pos g) (down_pos e)) (down_pos e)
    (crossed (a * up g) (m * up e) (down e) n (down g) (sym (mul-one (a * up g)) ∙ v.1))
  where
    crossed : (A B D n G : ℕ) → A ≡ n * G → A * B * D ≡ n * B * (G * D)
    crossed A B D n G h = ap (λ (z : ℕ). z * B * D) h ∙ simp (mul_assoc, mul_comm, mul_left_comm)

-- zero over anything rounds to zero, with the sign
pub round_zero : (s : Bool) (a c : ℕ) → a ≡ 0 → 0 < c → HasValue (round binary64 s a c) s a c
round_zero s a c e C =
    round_exact binary64 s a c 0 0 C (leb→le 1 (2 ^ 53) tt) (leb→le 1 (2 ^ 2098) tt)
    (ap (λ (z : ℕ). z * 2 ^ 1074) e ∙ zero-mul (2 ^ 1074) ∙ sym (zero-mul c))

-- ---- the rounding is no smaller at a larger value
expand : (A d D : ℕ) → (2 * A + d) * (2 * D) ≡ 4 * (A * D) + 2 * (d * D)
expand A d D = mul_left_comm (2 * A + d) 2 D ∙ ap (λ (z : ℕ). 2 * z) (add-mul (2 * A) d D ∙ ap (λ (z : ℕ). z + d * D) (mul_assoc 2 A D)) ∙ fours (A * D) (d * D)
  where
    fours : (p q : ℕ) → 2 * (2 * p + q) ≡ 4 * p + 2 * q
    fours p q = omega arith

pub halves_cross : (A d B D : ℕ) → A * D ≤ B * d → (2 * A + d) * (2 * D) ≤ (2 * B + D) * (2 * d)
halves_cross A d B D h = le_trans (le_of_eq (expand A d D)) (le_trans (step (A * D) (B * d) (d * D) (D * d) h (mul_comm d D)) (le_of_eq (sym (expand B D d))))
  where
    step : (p q r s : ℕ) → p ≤ q → r ≡ s → 4 * p + 2 * r ≤ 4 * q + 2 * s
    step p q r s a b = omega arith

zero_halves : (n d : ℕ) → n ≡ 0 → 0 < d → (2 * n + d) / (2 * d) ≤ 0
zero_halves n d e D = le_of_eq (no_halves n d e D)

-- 2 ^ 62 is the bound of `round_half_away`; any would do, to rule out an infinity
pub half_away_mono : (x y : Float) → T (le x y) → T (lt y (fin false 1 (pos 62))) → half_away x ≤ half_away y
unfolding half_away
half_away_mono nan y h f = zero-le
half_away_mono (inf s) y h f = zero-le
half_away_mono (fin true m e) y h f = zero-le
half_away_mono (fin false m e) nan h f = absurd (unfold lt in f)
half_away_mono (fin false m e) (inf true) h f = absurd (unfold le in h)
half_away_mono (fin false m e) (inf false) h f = absurd (unfold lt in f)
half_away_mono (fin false m e) (fin true n d) h f = zero_halves (m * up e) (down e) (le_negative m e n d h) (down_pos e)
half_away_mono (fin false m e) (fin false n d) h f =
    div_mono (2 * (m * up e) + down e) (2 * down e) (2 * (n * up d) + down d) (2 * down d) (twice_pos (down e) (down_pos e)) (twice_pos (down d) (down_pos d))
    (halves_cross (m * up e) (down e) (n * up d) (down d) (le_says m e n d h))

-- ---- a whole number up to 2 ^ 32 times a share from 0 to 10

negative_le : (y : Float) (a c : ℕ) → HasValue y true a c → T (le y (fin false 5 (pos 33)))
negative_le nan a c v = absurd v
negative_le (inf s) a c v = absurd v
negative_le (fin false n d) a c v = absurd (true≢false (sym v.0))
negative_le (fin true n d) a c v =
    unfold le in
    or_l (ltb 0 (n * up d * 1 + 42949672960 * down d)) (eqb (n * up d * 1) (42949672960 * down d) && eqb (n * up d * 1) 0)
    (lt→ltb 0 (n * up d * 1 + 42949672960 * down d) (some (n * up d * 1) (down d) (down_pos d)))
  where
    some : (p q : ℕ) → 0 < q → 0 < p + 42949672960 * q
    some p q h = omega arith

top_is : round binary64 false 42949672960 1 ≡ fin false 5 (pos 33)
unfolding round
top_is = refl

pub share_le : (n : ℕ) (s : Float) → n ≤ 2 ^ 32 → T (le (fin false 0 (pos 0)) s) → T (le s (fin false 5 (pos 1))) → T (le (mul binary64 (double n) s) (fin false 5 (pos 33)))
share_le n nan h p q = absurd (unfold le in p)
share_le n (inf true) h p q = absurd (unfold le in p)
share_le n (inf false) h p q = absurd (unfold le in q)
share_le n (fin true m e) h p q =
    subst (λ (z : Float). T (le z (fin false 5 (pos 33)))) (sym (mul_value_neg (double n) n m e (double_value n (le_trans h (leb→le (2 ^ 32) (2 ^ 53) tt)))))
    (negative_le (round binary64 true (n * (m * up e)) (down e)) (n * (m * up e)) (down e)
    (round_zero true (n * (m * up e)) (down e) (mul_comm n (m * up e) ∙ ap (λ (z : ℕ). z * n) (minus_zero m e p) ∙ zero-mul n) (down_pos e)))
share_le n (fin false m e) h p q =
    subst (λ (z : Float). T (le z (fin false 5 (pos 33)))) (sym (mul_value (double n) n m e (double_value n (le_trans h (leb→le (2 ^ 32) (2 ^ 53) tt)))))
    (subst (λ (z : Float). T (le (round binary64 false (n * (m * up e)) (down e)) z)) top_is
    (round_mono binary64 (n * (m * up e)) (down e) 42949672960 1 (down_pos e) (leb→le 1 1 tt)
    (le_trans (le_of_eq (mul-one (n * (m * up e))))
    (le_trans (mul-le-mul h (subst (λ (z : ℕ). z ≤ 10 * down e) (mul-one (m * up e)) (le_says m e 5 (pos 1) q))) (le_of_eq (sym (mul_assoc (2 ^ 32) 10 (down e))))))))

pub le_then_lt : (y : Float) → T (le y (fin false 5 (pos 33))) → T (lt y (fin false 1 (pos 62)))
unfolding lt
le_then_lt nan h = absurd (unfold le in h)
le_then_lt (inf true) h = tt
le_then_lt (inf false) h = absurd (unfold le in h)
le_then_lt (fin true m e) h = lt→ltb 0 (m * up e * 1 + 2 ^ 62 * down e) (some (m * up e * 1) (down e) (down_pos e))
  where
    some : (p q : ℕ) → 0 < q → 0 < p + 2 ^ 62 * q
    some p q h = omega arith
le_then_lt (fin false m e) h = lt→ltb (m * up e * 1) (2 ^ 62 * down e) (room (m * up e * 1) (down e) (le_says m e 5 (pos 33) h) (down_pos e))
  where
    room : (n d : ℕ) → n ≤ 42949672960 * d → 0 < d → n < 2 ^ 62 * d
    room n d h D = omega arith

pub share_halves_le : (n : ℕ) (s : Float) → n ≤ 2 ^ 32 → T (le (fin false 0 (pos 0)) s) → T (le s (fin false 5 (pos 1))) → half_away (mul binary64 (double n) s) ≤ 42949672960
unfolding half_away
share_halves_le n s h p q = half_away_mono (mul binary64 (double n) s) (fin false 5 (pos 33)) (share_le n s h p q) (unfold lt in tt)

-- ---- the product grows with the whole number
negative_halves : (y : Float) (a c : ℕ) → HasValue y true a c → half_away y ≡ 0
unfolding half_away
negative_halves nan a c v = absurd v
negative_halves (inf s) a c v = absurd v
negative_halves (fin false n d) a c v = absurd (true≢false (sym v.0))
negative_halves (fin true n d) a c v = refl

pub share_mono : (k n : ℕ) (s : Float) → k ≤ n → n ≤ 2 ^ 32 → T (le (fin false 0 (pos 0)) s) → T (le s (fin false 5 (pos 1)))
    → half_away (mul binary64 (double k) s) ≤ half_away (mul binary64 (double n) s)
share_mono k n nan l h p q = absurd (unfold le in p)
share_mono k n (inf true) l h p q = absurd (unfold le in p)
share_mono k n (inf false) l h p q = absurd (unfold le in q)
share_mono k n (fin true m e) l h p q =
    le_trans (le_of_eq (ap half_away (mul_value_neg (double k) k m e (double_value k (le_trans l (le_trans h (leb→le (2 ^ 32) (2 ^ 53) tt)))))
    ∙ negative_halves (round binary64 true (k * (m * up e)) (down e)) (k * (m * up e)) (down e)
    (round_zero true (k * (m * up e)) (down e) (mul_comm k (m * up e) ∙ ap (λ (z : ℕ). z * k) (minus_zero m e p) ∙ zero-mul k) (down_pos e))))
    zero-le
share_mono k n (fin false m e) l h p q =
    let H : n ≤ 2 ^ 53 = le_trans h (leb→le (2 ^ 32) (2 ^ 53) tt) in
    half_away_mono (mul binary64 (double k) (fin false m e)) (mul binary64 (double n) (fin false m e))
    (subst (λ (z : Float). T (le z (mul binary64 (double n) (fin false m e)))) (sym (mul_value (double k) k m e (double_value k (le_trans l H))))
    (subst (λ (z : Float). T (le (round binary64 false (k * (m * up e)) (down e)) z)) (sym (mul_value (double n) n m e (double_value n H)))
    (round_mono binary64 (k * (m * up e)) (down e) (n * (m * up e)) (down e) (down_pos e) (down_pos e) (mul-le-mul_right (down e) (mul-le-mul_right (m * up e) l)))))
    (le_then_lt (mul binary64 (double n) (fin false m e)) (share_le n (fin false m e) h p q))
