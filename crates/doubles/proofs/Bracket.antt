-- The two whole numbers that bracket a double above zero: its whole part, and one more. How far it lies from the one below is a double, so the difference is exact;
-- and rounding with halves away from zero gives the one or the other by how that distance compares with a half. Assumes nothing.
use Rattle.std.proofs.Common.{◌≡◌, ℕ, suc, ◌+◌, ◌-◌, ◌*◌, ◌/◌, ◌%◌, ◌^◌, ◌<◌, ◌≤◌, Bool, true, false, cond, not, T, ltb, ℤ, pos, negsuc, sym, refl, ap, ◌∙◌, subst, le_trans, le_of_eq, lt_of_lt_of_le, lt_of_le_of_lt, mod-lt, zero-lt-suc, mul_assoc, mul_comm, div-lt_iff_lt-mul, mul-lt-mul_of_pos_right, mul-pos, div-add-mod', mul-one, div-le_self, not-le_of_lt, div-mul-le_self, div-one, arith, lit≤, ltb→lt, pow_pos, pow-add}
use native.Mathlib.Nat.{mul-sub, mod-one, mod-le, mod-eq-sub-div-mul, div-eq_of_lt-le}
use lib.Ieee.{Float, nan, inf, fin, binary64, up, down, round, sum, sub, lt, eq, of_int, fits, to_unsigned}
use lib.Ieee.Fits.{down_pos}
use lib.Ieee.Exact.{HasValue, round_exact}
use lib.Ieee.Order.{transfer}
use lib.Ieee.Scale.{round_same}
use lib.Ieee.Positive.{num, den, den_pos}
use Rattle.doubles.specs.Doubles.{double, half_away}
use Rattle.doubles.proofs.Values.{by_numbers, lt_of_value, above_minus_one, trunc_of_value, exp_le, fits_says, exact, positive_says, below_says, lt_values, ge_values, eq_values, ne_values}
use Rattle.doubles.proofs.Products.{double_value, round_zero}

-- ---- above 0, and below 2 ^ 62 as the caller of `round_half_away` owes
abbrev pub AboveZero : Float → Type 0
AboveZero x = T (lt (fin false 0 (pos 0)) x) × T (lt x (fin false 1 (pos 62)))

as_number : (P : Float → Type 0) → ((m : ℕ) (e : ℤ) → AboveZero (fin false m e) → P (fin false m e)) → (x : Float) → AboveZero x → P x
as_number P p nan h = absurd (unfold lt in h.0)
as_number P p (inf true) h = absurd (unfold lt in h.0)
as_number P p (inf false) h = absurd (unfold lt in h.1)
as_number P p (fin true m e) h = absurd (unfold lt in h.0)
as_number P p (fin false m e) h = p m e h

own_value : (x : Float) → AboveZero x → HasValue x false (num x) (den x)
own_value x h = as_number (λ (x : Float). HasValue x false (num x) (den x)) (λ m e h. (refl, refl)) x h

under : (x : Float) → AboveZero x → num x < 2 ^ 62 * den x
under x h = as_number (λ (x : Float). num x < 2 ^ 62 * den x) (λ m e h. below_says m e 1 62 h.1) x h

halves : (x : Float) → AboveZero x → half_away x ≡ (2 * num x + den x) / (2 * den x)
unfolding half_away
halves x h = as_number (λ (x : Float). half_away x ≡ (2 * num x + den x) / (2 * den x)) (λ m e h. refl) x h

-- ---- the whole number below, or x itself: what truncation asks, and what it gives
abbrev pub below : Float → ℕ
below x = num x / den x

more : (a d : ℕ) → a < 2 ^ 62 * d → a < 2 ^ 64 * d
more a d h = omega arith

-- what truncation asks
pub cut_asks : (x : Float) → AboveZero x → T (lt (fin true 1 (pos 0)) x) × T (lt x (fin false 1 (pos 64)))
cut_asks x h = (
  above_minus_one x (num x) (den x) (own_value x h),
  lt_of_value x (num x) (den x) 64 (den_pos x) (own_value x h) (more (num x) (den x) (under x h)),
)

pub cut : (x : Float) → AboveZero x → to_unsigned 64 x ≡ below x
cut x h = trunc_of_value x (num x) (den x) (den_pos x) (own_value x h) (more (num x) (den x) (under x h))

pub below_lt : (x : Float) → AboveZero x → below x < 2 ^ 62
below_lt x h = (div-lt_iff_lt-mul (den_pos x)).1 (under x h)

-- it is a double
whole_up : (m k : ℕ) → m < 2 ^ 53 → m * 2 ^ k < 2 ^ 62 → HasValue (round binary64 false (m * 2 ^ k) 1) false (m * 2 ^ k) 1
whole_up m k h l =
    let r : m * 2 ^ (k + 1074) ≡ m * 2 ^ k * 2 ^ 1074 = ap (λ (z : ℕ). m * z) (pow-add 2 k 1074) ∙ sym (mul_assoc m (2 ^ k) (2 ^ 1074)) in
    round_exact binary64 false (m * 2 ^ k) 1 m (k + 1074) (zero-lt-suc 0) h
    (lt_of_le_of_lt (le_of_eq r) (lt_of_lt_of_le (mul-lt-mul_of_pos_right l (pow_pos 1074)) (lit≤ tt)))
    (sym r ∙ sym (mul-one (m * 2 ^ (k + 1074))))

below_of : (m : ℕ) (e : ℤ) → m < 2 ^ 53 → m * up e < 2 ^ 62 * down e → HasValue (double (m * up e / down e)) false (m * up e / down e) 1
below_of m (pos k) f l =
    unfold of_int in
    subst (λ (z : ℕ). HasValue (round binary64 false z 1) false z 1) (sym (div-one (m * 2 ^ k))) (whole_up m k f (omega arith))
below_of m (negsuc k) f l = double_value (m * 1 / 2 ^ suc k) (le_trans (div-le_self (m * 1) (2 ^ suc k)) (omega arith))

below_value : (x : Float) → T (fits binary64 x) → AboveZero x → HasValue (double (below x)) false (below x) 1
below_value x t h =
    as_number (λ (x : Float). T (fits binary64 x) → HasValue (double (below x)) false (below x) 1)
    (λ m e h t. below_of m e (fits_says false m e t (positive_says m e h.0)).0 (below_says m e 1 62 h.1))
    x h t

-- ---- how far x lies from it: a double, so the difference is exact
abbrev pub distance_below : Float → Float
distance_below x = sub binary64 x (double (below x))

rest_of : (m : ℕ) (e : ℤ) → m < 2 ^ 53 → down e ≤ 2 ^ 1074 → HasValue (round binary64 false (m * up e % down e) (down e)) false (m * up e % down e) (down e)
rest_of m (pos k) f g = round_zero false (m * 2 ^ k % 1) 1 (mod-one (m * 2 ^ k)) (zero-lt-suc 0)
rest_of m (negsuc k) f g = exact (m * 1 % 2 ^ suc k) (suc k) (lt_of_le_of_lt (mod-le (m * 1) (2 ^ suc k)) (omega arith)) (exp_le (suc k) 1074 g)

rest_value : (x : Float) → T (fits binary64 x) → AboveZero x → HasValue (round binary64 false (num x % den x) (den x)) false (num x % den x) (den x)
rest_value x t h =
    as_number (λ (x : Float). T (fits binary64 x) → HasValue (round binary64 false (num x % den x) (den x)) false (num x % den x) (den x))
    (λ m e h t. let f = fits_says false m e t (positive_says m e h.0) in rest_of m e f.0 f.1)
    x h t

-- a difference that is not negative is one fraction rounded
pick : (a b c : ℕ) → b ≤ a → sum binary64 false a true b c ≡ round binary64 false (a - b) c
unfolding sum
pick a b c h = go (ltb a b) (ltb→lt a b)
  where
    go : (t : Bool) → (T t → a < b) → cond t (round binary64 true (b - a) c) (round binary64 false (a - b) c) ≡ round binary64 false (a - b) c
    go true k = absurd (not-le_of_lt (k tt) h)
    go false k = refl

minus_crossed : (N g M e a d b c : ℕ) → N * c ≡ a * e → M * d ≡ b * g → (N * g - M * e) * (c * d) ≡ (a * d - b * c) * (e * g)
minus_crossed N g M e a d b c p q =
    mul_comm (N * g - M * e) (c * d)
    ∙ mul-sub (c * d) (N * g) (M * e)
    ∙ (λ i. left i - right i)
    ∙ sym (mul_comm (a * d - b * c) (e * g) ∙ mul-sub (e * g) (a * d) (b * c))
  where
    left : c * d * (N * g) ≡ e * g * (a * d)
    left = omega (arith, ap (λ (z : ℕ). z * (d * g)) p)

    right : c * d * (M * e) ≡ e * g * (b * c)
    right = omega (arith, ap (λ (z : ℕ). z * (c * e)) q)

sub_of_values : (x y : Float) (a c b d : ℕ) → 0 < c → 0 < d → b * c ≤ a * d → HasValue x false a c → HasValue y false b d → sub binary64 x y ≡ round binary64 false (a * d - b * c) (c * d)
unfolding sub
sub_of_values x y a c b d C D h =
    by_numbers a c b d (λ (x y : Float). sub binary64 x y ≡ round binary64 false (a * d - b * c) (c * d))
    (λ m e n g v w.
    pick (m * up e * down g) (n * up g * down e) (down e * down g) (transfer (n * up g) (m * up e) (down g) (down e) b a d c D C w v h)
    ∙ round_same binary64 false (m * up e * down g - n * up g * down e) (down e * down g) (a * d - b * c) (c * d) (mul-pos (down_pos e) (down_pos g)) (mul-pos C D)
    (minus_crossed (m * up e) (down g) (n * up g) (down e) a d b c v w))
    x y

distance_value : (x : Float) → T (fits binary64 x) → AboveZero x → HasValue (distance_below x) false (num x % den x) (den x)
distance_value x t h =
    let N = num x in
    let D = den x in
    subst (λ (z : Float). HasValue z false (N % D) D)
    (sym
    (sub_of_values x (double (N / D)) N D (N / D) 1 (den_pos x) (zero-lt-suc 0) (le_trans (div-mul-le_self N D) (le_of_eq (sym (mul-one N)))) (own_value x h) (below_value x t h)
    ∙ ap (λ (z : ℕ). round binary64 false (z - N / D * D) (D * 1)) (mul-one N)
    ∙ (λ i. round binary64 false (sym (mod-eq-sub-div-mul N D) i) (mul-one D i))))
    (rest_value x t h)

-- ---- the rounding, by that distance
to_above : (N D : ℕ) → 0 < D → D ≤ 2 * (N % D) → (2 * N + D) / (2 * D) ≡ N / D + 1
to_above N D P h =
    let s : N / D * D + N % D ≡ N = div-add-mod' N D in
    let l : N % D < D = mod-lt N P in
    div-eq_of_lt-le {k = N / D + 1} (2 * D) (omega arith) (omega arith)

to_below : (N D : ℕ) → 0 < D → 2 * (N % D) < D → (2 * N + D) / (2 * D) ≡ N / D
to_below N D P h =
    let s : N / D * D + N % D ≡ N = div-add-mod' N D in
    div-eq_of_lt-le {k = N / D} (2 * D) (omega arith) (omega arith)

abbrev pub half : Float
half = fin false 1 (negsuc 0)

-- more than a half: the one above is the nearest
pub above_nearest : (x : Float) → T (fits binary64 x) → AboveZero x → T (lt half (distance_below x)) → half_away x ≡ below x + 1
above_nearest x t h l =
    let c = lt_values half (distance_below x) 1 2 (num x % den x) (den x) (zero-lt-suc 1) (den_pos x) (refl, refl) (distance_value x t h) l in
    halves x h ∙ to_above (num x) (den x) (den_pos x) (omega arith)

-- a half: a tie, and the one above has the larger magnitude
pub tie_above : (x : Float) → T (fits binary64 x) → AboveZero x → T (eq (distance_below x) half) → half_away x ≡ below x + 1
tie_above x t h l =
    let c = eq_values (distance_below x) half (num x % den x) (den x) 1 2 (distance_value x t h) (refl, refl) l in
    halves x h ∙ to_above (num x) (den x) (den_pos x) (omega arith)

-- less than a half: the one below is the nearest
pub below_nearest : (x : Float) → T (fits binary64 x) → AboveZero x → T (not (lt half (distance_below x))) → T (not (eq (distance_below x) half)) → half_away x ≡ below x
below_nearest x t h g n =
    let c = ge_values half (distance_below x) 1 2 (num x % den x) (den x) (refl, refl) (distance_value x t h) g in
    let d = ne_values (distance_below x) half (num x % den x) (den x) 1 2 (den_pos x) (zero-lt-suc 1) (distance_value x t h) (refl, refl) n in
    halves x h ∙ to_below (num x) (den x) (den_pos x) (omega arith)
