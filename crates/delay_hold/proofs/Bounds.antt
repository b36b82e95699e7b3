-- Bounds on the lags, the seed and the window that a decision meets. Assumes nothing.
-- ---- lags that may be missing
use Rattle.std.specs.Prelude.{◌≡◌, ℕ, zero, suc, ◌-◌, ◌<◌, ◌≤◌, max, Bool, true, false, List, [], ◌∷◌, ◌++◌, length, get_or, drop, set, None, Option, Some}
use mathlib.Core.Path.{refl}
use native.Mathlib.Omega.{arith}
use borrow.Author.Tests.{leb-true, le-leb}
use Rattle.base.specs.Limits.{nanos}
use Rattle.base.specs.Choice.{pick}
use Rattle.base.proofs.Choices.{le_rule}
use Rattle.delay_hold.specs.declared.Seed.{Seed}
use Rattle.delay_hold.specs.Steps1To3.{lag_within, seed_left, capped}
use Rattle.delay_hold.specs.Steps5To8.{floor_of}
use Rattle.delay_hold.specs.Step4Peaks.{larger_lag, greatest, worst_of, lags_after, join_times, join_lags, old_count, is_new_at}
use Rattle.delay_hold.specs.Checks.{lag_up_to}

pub larger_up : (a b : Option ℕ) (n : ℕ) → lag_up_to a n ≡ true → lag_up_to b n ≡ true → lag_up_to (larger_lag a b) n ≡ true
larger_up None b n f g = g
larger_up (Some x) None n f g = f
larger_up (Some x) (Some y) n f g = le-leb (max x y) n (omega (arith, leb-true x n f, leb-true y n g))

pub within_up : (l : Option ℕ) (n : ℕ) → lag_up_to (lag_within l n) n ≡ true
within_up None n = refl
within_up (Some l) n = le_rule l n (Some l) None (λ (x : Option ℕ). lag_up_to x n ≡ true) (λ h. le-leb l n h) (λ h. refl)

pub up_more : (l : Option ℕ) (n m : ℕ) → n ≤ m → lag_up_to l n ≡ true → lag_up_to l m ≡ true
up_more None n m h f = refl
up_more (Some l) n m h f = le-leb l m (omega (arith, leb-true l n f))

pub worst_up : (xs : List ℕ) (n : ℕ) → greatest xs ≤ n → lag_up_to (worst_of xs) n ≡ true
worst_up [] n h = refl
worst_up (x ∷ xs) n h = le-leb (greatest (x ∷ xs)) n h

-- ---- the greatest peak
greatest_drop : (k : ℕ) (xs : List ℕ) → greatest (drop k xs) ≤ greatest xs
greatest_drop zero xs = omega arith
greatest_drop (suc k) [] = omega arith
greatest_drop (suc k) (x ∷ xs) = omega (arith, greatest_drop k xs)

greatest_snoc : (xs : List ℕ) (v n : ℕ) → greatest xs ≤ n → v ≤ n → greatest (xs ++ (v ∷ [])) ≤ n
greatest_snoc [] v n f g = omega arith
greatest_snoc (x ∷ xs) v n f g = omega (arith, greatest_snoc xs v n (omega arith) g)

greatest_set : (xs : List ℕ) (i v n : ℕ) → greatest xs ≤ n → v ≤ n → greatest (set xs i v) ≤ n
greatest_set [] i v n f g = f
greatest_set (x ∷ xs) zero v n f g = omega arith
greatest_set (x ∷ xs) (suc i) v n f g = omega (arith, greatest_set xs i v n (omega arith) g)

pub get_or_greatest : (xs : List ℕ) (i : ℕ) → get_or xs i 0 ≤ greatest xs
get_or_greatest [] i = omega arith
get_or_greatest (x ∷ xs) zero = omega arith
get_or_greatest (x ∷ xs) (suc i) = omega (arith, get_or_greatest xs i)

pub greatest_up : (xs : List ℕ) (n : ℕ) → ((i : ℕ) → i < length xs → get_or xs i 0 ≤ n) → greatest xs ≤ n
greatest_up [] n f = omega arith
greatest_up (x ∷ xs) n f = omega (arith, f 0 (omega arith), greatest_up xs n (λ i l. f (suc i) (omega arith)))

joined_up : (times lags : List ℕ) (lag : Option ℕ) (time n : ℕ) → greatest lags ≤ n → lag_up_to lag n ≡ true → greatest (join_lags times lags lag time) ≤ n
unfolding join_lags
joined_up times lags None time n f g = f
joined_up times lags (Some l) time n f g = by_test (is_new_at (length times) times time)
  where
    l_in : l ≤ n
    l_in = leb-true l n g

    by_test : (b : Bool) → greatest (pick b (lags ++ (l ∷ [])) (set lags (length lags - 1) (max (get_or lags (length lags - 1) 0) l))) ≤ n
    by_test true = greatest_snoc lags l n f l_in
    by_test false = greatest_set lags (length lags - 1) (max (get_or lags (length lags - 1) 0) l) n f (omega (arith, get_or_greatest lags (length lags - 1), l_in))

pub after_up :
    (times lags : List ℕ) (lag : Option ℕ) (window time n : ℕ) →
    greatest lags ≤ n →
    lag_up_to lag n ≡ true →
    greatest (lags_after times lags lag window time) ≤ n
unfolding lags_after
after_up times lags lag window time n f g =
    omega (arith, greatest_drop (old_count (join_times times lag time) window time) (join_lags times lags lag time), joined_up times lags lag time n f g)

-- ---- the seed
pub floor_up : (s : Option Seed) (hold time n : ℕ) → floor_of s ≤ n → floor_of (seed_left s hold time) ≤ n
floor_up None hold time n h = h
floor_up (Some seed) hold time n h = le_rule hold (time - seed.since) None (Some seed) (λ (s : Option Seed). floor_of s ≤ n) (λ g. omega arith) (λ g. h)

-- ---- hold and window of startup
pub capped_le : (b : Bool) (x : ℕ) → capped b x ≤ x
capped_le true x = omega arith
capped_le false x = omega arith

pub capped_second : (b : Bool) (x : ℕ) → nanos ≤ x → nanos ≤ capped b x
capped_second true x h = omega arith
capped_second false x h = h
