-- Counting old peaks, the greatest of them and the newest. Assumes nothing.
use Rattle.std.specs.Prelude.{◌≡◌, ℕ, zero, suc, ◌-◌, ◌<◌, ◌≤◌, max, false, List, [], ◌∷◌, length, take, Option, Some}
use mathlib.Core.Path.{refl, ap, ◌∙◌}
use native.Mathlib.Numerals.{add-one}
use native.Mathlib.Omega.{arith}
use borrow.Author.Tests.{le-leb, lt-leb}
use lib.Seq.{get_or-take, length-take-le}
use Rattle.std.specs.List.{AllWithin, HoldsAt, fold, reduce}
use Rattle.std.specs.Option.{MatchOption, unwrap_or}
use Rattle.std.proofs.lemmas.Iterator.{index_from_first}
use Rattle.delay_hold.specs.Step4Peaks.{old_count, greatest, worst_of, is_new_at}

-- the old ones are those before the first that is not
pub old_told : (window time : ℕ) (xs : List ℕ) (r : Option ℕ) → MatchOption r (AllWithin (λ x. window ≤ time - x) xs 0 (length xs)) (λ i. (i < length xs) × HoldsAt (λ x. time - x < window) xs i × AllWithin (λ x. window ≤ time - x) xs 0 i) → old_count xs window time ≡ unwrap_or r (length xs)
unfolding old_count
old_told window time xs r first =
    index_from_first (λ (ys : List ℕ). old_count ys window time) (λ x. time - x < window) (λ x. window ≤ time - x) refl (λ x ys l. rw (lt-leb window (time - x) l)) (λ x ys l. rw (le-leb window (time - x) l, add-one)) xs r first

-- the greatest, from the first on
fold_greatest : (x : ℕ) (xs : List ℕ) → fold max x xs ≡ max x (greatest xs)
fold_greatest x [] = omega arith
fold_greatest x (y ∷ xs) = omega (arith, fold_greatest (max x y) xs)

pub worst_reduced : (xs : List ℕ) → reduce max xs ≡ worst_of xs
worst_reduced [] = refl
worst_reduced (x ∷ xs) = ap Some (fold_greatest x xs)

pub worst_some : (xs : List ℕ) → 0 < length xs → worst_of xs ≡ Some (greatest xs)
worst_some [] h = absurd (omega arith)
worst_some (x ∷ xs) h = refl

pub new_pos : (n : ℕ) (times : List ℕ) (time : ℕ) → is_new_at n times time ≡ false → 1 ≤ n
new_pos zero times time h = let z : ◌≡◌ {A = ℕ} 0 1 = cc in omega arith
new_pos (suc n) times time h = omega arith

-- the newest of the first n
new_first : (n : ℕ) (times : List ℕ) (time : ℕ) → n ≤ length times → is_new_at (length (take n times)) (take n times) time ≡ is_new_at n times time
new_first zero times time h = refl
new_first (suc n) times time h = let last : suc n - 1 ≡ n = omega arith in rw (length-take-le (suc n) times h, last, get_or-take (suc n) times n 0 (omega arith))

-- the same of a view of the times
pub new_seen : (n : ℕ) (seen times : List ℕ) (time : ℕ) → seen ≡ times → n ≤ length times → is_new_at (length (take n seen)) (take n seen) time ≡ is_new_at n times time
new_seen n seen times time e h = ap (λ (ts : List ℕ). is_new_at (length (take n ts)) (take n ts) time) e ∙ new_first n times time h
