-- Rounding with halves away from zero gives the nearest whole number, and of two equally near ones the larger (document 02, §3). Assumes nothing.
use Rattle.std.proofs.Common.{◌≡◌, ℕ, zero, suc, ◌+◌, ◌-◌, ◌*◌, ◌/◌, ◌<◌, ◌≤◌, Bool, true, false, cond, not, T, ltb, ◌⊎◌, ℤ, pos, negsuc, ◌+ℤ◌, ◌-ℤ◌, ◌*ℤ◌, neg_ℤ, nat_abs, ◌<ℤ◌, sym, ap, subst, inl, inr, le_of_eq, lt_of_le_of_lt, le_of_lt, lt_irrefl, mul-le-mul_right, le_antisymm, eq-or-lt_of_le, div-mul-le_self, arith, ltb→lt, lt→ltb, nltb→le}
use native.Mathlib.Nat.{lt-div-mul-add}
use lib.IntN.{neg_ℤ-neg_ℤ}
use lib.Signed.{lt_z_yes, <ℤ_irrefl}
use lib.Ieee.{Float, nan, inf, fin, up, down, le}
use lib.Ieee.Fits.{down_pos}
use Rattle.doubles.specs.Doubles.{half_away}
use Rattle.doubles.specs.Nearest.{numerator, denominator, distance, Nearest, InRange, Rounding}
use Rattle.doubles.proofs.Values.{minus_zero}
use Rattle.doubles.proofs.Halves.{twice_pos, uncut}

-- ---- how far v / D lies from a whole number, in parts of 1 / D
abbrev gap : (v : ℤ) (D : ℕ) (k : ℤ) → ℕ
gap v D k = nat_abs (v -ℤ k *ℤ pos D)

abs_pos : (a b : ℕ) → nat_abs (pos a -ℤ pos b) ≡ (a - b) + (b - a)
abs_pos a zero = omega arith
abs_pos a (suc b) = go (ltb a (suc b)) (ltb→lt a (suc b)) (nltb→le a (suc b))
  where
    go : (t : Bool) → (T t → a < suc b) → (T (not t) → suc b ≤ a) → nat_abs (cond t (negsuc (suc b - suc a)) (pos (a - suc b))) ≡ (a - suc b) + (suc b - a)
    go true h k = let l = h tt in omega arith
    go false h k = let l = k tt in omega arith

abs_neg : (a b : ℕ) → nat_abs (pos a -ℤ neg_ℤ (pos b)) ≡ a + b
abs_neg a b = ap (λ (z : ℤ). nat_abs (pos a +ℤ z)) (neg_ℤ-neg_ℤ (pos b))

-- a whole number k beside the answer: it is the answer; it is smaller and no nearer; or it lies farther
abbrev Beside : (v : ℤ) (D answer : ℕ) (k : ℤ) → Type 0
Beside v D answer k = (k ≡ pos answer) ⊎ ((k <ℤ pos answer) × (gap v D (pos answer) ≤ gap v D k)) ⊎ (gap v D (pos answer) < gap v D k)

-- A is (2 N + D) / (2 D)
module _ (N D A : ℕ) (some : 0 < D) (low : A * (2 * D) ≤ 2 * N + D) (high : 2 * N + D < (A + 1) * (2 * D)) where
  larger : (k : ℕ) → A < k → gap (pos N) D (pos A) < gap (pos N) D (pos k)
  larger k h = omega (arith, mul-le-mul_right D h, abs_pos N (A * D), abs_pos N (k * D))

  smaller : (k : ℕ) → k < A → gap (pos N) D (pos A) ≤ gap (pos N) D (pos k)
  smaller k h = omega (arith, mul-le-mul_right D h, abs_pos N (A * D), abs_pos N (k * D))

  negative : (k : ℕ) → gap (pos N) D (pos A) < gap (pos N) D (negsuc k)
  negative k = omega (arith, abs_pos N (A * D), abs_neg N (suc k * D))

  beside : (k : ℤ) → Beside (pos N) D A k
  beside (pos k) = go (ltb k A) (ltb→lt k A) (nltb→le k A)
    where
      go : (t : Bool) → (T t → k < A) → (T (not t) → A ≤ k) → Beside (pos N) D A (pos k)
      go true h g = inr (inl (lt_z_yes (lt→ltb k A (h tt)), smaller k (h tt)))
      go false h g = elim (eq-or-lt_of_le (g tt)) [ inl e ↦ inl (ap pos (sym e)) | inr l ↦ inr (inr (larger k l)) ]
  beside (negsuc k) = inr (inr (negative k))

-- ---- a double in range
beside_rounded : (x : Float) → InRange x → (k : ℤ) → Beside (numerator x) (denominator x) (half_away x) k
unfolding half_away
beside_rounded nan r k = absurd (unfold le in r.low)
beside_rounded (inf true) r k = absurd (unfold le in r.low)
beside_rounded (inf false) r k = absurd (unfold le in r.high)
beside_rounded (fin true m e) r k =
    subst (λ (v : ℤ). Beside v (down e) 0 k) (ap (λ (n : ℕ). neg_ℤ (pos n)) (sym (minus_zero m e r.low)))
    (beside 0 (down e) 0 (down_pos e) (omega arith) (omega (arith, down_pos e)) k)
beside_rounded (fin false m e) r k =
    let N = m * up e in
    let D = down e in
    let A = (2 * N + D) / (2 * D) in
    beside N D A (down_pos e) (div-mul-le_self (2 * N + D) (2 * D)) (next A (2 * D) (2 * N + D) (lt-div-mul-add (twice_pos D (down_pos e)))) k
  where
    next : (q d n : ℕ) → n < q * d + d → n < (q + 1) * d
    next q d n h = omega arith

rounded_nearest : (x : Float) → InRange x → Nearest x (pos (half_away x))
unfolding distance
rounded_nearest x r = record {
  none_nearer = λ k. elim (beside_rounded x r k) [ inl e ↦ le_of_eq (ap (distance x) (sym e)) | inr (inl s) ↦ s.1 | inr (inr f) ↦ le_of_lt f ];
  another_smaller =
      λ k other near.
      elim (beside_rounded x r k) [
        | inl e ↦ absurd (other e)
        | inr (inl s) ↦ s.0
        | inr (inr f) ↦ absurd (lt_irrefl (distance x k) (subst (λ (d : ℕ). d < distance x k) (sym near) f))
      ];
}

-- no two whole numbers are each smaller than the other
both_ways : (n : ℤ) (a : ℕ) → n <ℤ pos a → pos a <ℤ n → ⊥
both_ways (pos n) a h k = clash (ltb→lt n a h.lt) (ltb→lt a n k.lt)
  where
    clash : n < a → a < n → ⊥
    clash p q = omega arith
both_ways (negsuc n) a h k = k.lt

only_rounded : (x : Float) → InRange x → (k : ℤ) → Nearest x k → k ≡ pos (half_away x)
unfolding distance
only_rounded x r k near =
    let a = pos (half_away x) in
    elim (beside_rounded x r k) [
      | inl e ↦ e
      | inr (inl s) ↦
          absurd
          (both_ways k (half_away x) s.0
          (near.another_smaller a (λ (e : a ≡ k). <ℤ_irrefl (subst (λ (z : ℤ). z <ℤ a) (sym e) s.0)) (le_antisymm s.1 (near.none_nearer a))))
      | inr (inr f) ↦ absurd (lt_irrefl (distance x k) (lt_of_le_of_lt (near.none_nearer a) f))
    ]

pub rounding : Rounding
rounding = record { nearest = rounded_nearest; only = only_rounded; uncut = λ x r. uncut x r.low r.high }
