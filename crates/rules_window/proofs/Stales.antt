-- How many of the oldest seconds are more than 10 s old: and what it says of each second. Assumes nothing.
use Prim.Native.Nat.{ℕ, zero, suc, ◌-◌, ◌<◌, ◌≤◌}
use mathlib.Core.Bool.{Bool, true, false}
use mathlib.Core.Path.{◌≡◌, refl, ap}
use mathlib.Core.List.{List, [], ◌∷◌}
use native.Mathlib.Nat.{not-suc-le-zero, le_of_suc-le-suc}
use native.Mathlib.Numerals.{add-one}
use native.Mathlib.Omega.{arith}
use borrow.Author.Tests.{lt-ltb, le-ltb, ltb-true, ltb-false}
use lib.Dec.{ltb}
use lib.ListN.{length, get_or, take}
use lib.Seq.{get_or-take, length-take-le}
use Rattle.std.proofs.Common.{Option}
use Rattle.std.proofs.lemmas.Iterator.{index_from_first}
use Rattle.std.specs.List.{AllWithin, HoldsAt}
use Rattle.std.specs.Option.{MatchOption, unwrap_or}
use Rattle.base.specs.Choice.{pick}
use Rattle.base.specs.Limits.{window_reach}
use Rattle.rules_window.specs.Window.{stale, opens}

-- they are those before the first that is not
pub stale_told : (t : ℕ) (xs : List ℕ) (r : Option ℕ) → MatchOption r (AllWithin (λ x. window_reach < t - x) xs 0 (length xs)) (λ i. (i < length xs) × HoldsAt (λ x. t - x ≤ window_reach) xs i × AllWithin (λ x. window_reach < t - x) xs 0 i) → stale t (length xs) xs ≡ unwrap_or r (length xs)
stale_told t xs r first =
    index_from_first (λ (ys : List ℕ). stale t (length ys) ys) (λ x. t - x ≤ window_reach) (λ x. window_reach < t - x) refl (λ x ys l. rw (le-ltb window_reach (t - x) l)) (λ x ys l. rw (lt-ltb window_reach (t - x) l, add-one)) xs r first

-- of the first n seconds
pub stale_part : (t n : ℕ) (xs : List ℕ) → n ≤ length xs → stale t (length (take n xs)) (take n xs) ≡ stale t n xs
stale_part t zero xs h = refl
stale_part t (suc n) [] h = absurd (omega arith)
stale_part t (suc n) (x ∷ xs) h = ap (λ (k : ℕ). pick (ltb window_reach (t - x)) (suc k) 0) (stale_part t n xs (omega arith))

pub stale_le : (t n : ℕ) (xs : List ℕ) → stale t n xs ≤ n
stale_le t zero xs = omega arith
stale_le t (suc n) [] = omega arith
stale_le t (suc n) (x ∷ xs) = go (ltb window_reach (t - x)) (stale_le t n xs)
  where
    go : (b : Bool) → stale t n xs ≤ n → pick b (suc (stale t n xs)) 0 ≤ suc n
    go true h = omega arith
    go false h = omega arith

-- whether a second opens after the first n
pub opens_part : (t n : ℕ) (xs : List ℕ) → n ≤ length xs → opens t (length (take n xs)) (take n xs) ≡ opens t n xs
opens_part t zero xs h = refl
opens_part t (suc n) xs h = rw (length-take-le (suc n) xs h, get_or-take (suc n) xs n 0 (omega arith))

-- where no second opens, one is in use
pub opens_used : (t n : ℕ) (xs : List ℕ) → opens t n xs ≡ false → 0 < n
opens_used t zero xs e = let z : ◌≡◌ {A = ℕ} 0 1 = cc in omega arith
opens_used t (suc n) xs e = omega arith

-- which seconds are stale
pub stale_old : (t n : ℕ) (xs : List ℕ) (i : ℕ) → i < stale t n xs → window_reach < t - get_or xs i 0
stale_old t zero xs i l = absurd (not-suc-le-zero l)
stale_old t (suc n) [] i l = absurd (not-suc-le-zero l)
stale_old t (suc n) (x ∷ xs) i l = go (ltb window_reach (t - x)) refl i l (λ j k. stale_old t n xs j k)
  where
    go : (b : Bool) → ltb window_reach (t - x) ≡ b → (i : ℕ) → i < pick b (suc (stale t n xs)) 0 → ((j : ℕ) → j < stale t n xs → window_reach < t - get_or xs j 0) → window_reach < t - get_or (x ∷ xs) i 0
    go true e zero k f = ltb-true _ _ e
    go true e (suc i) k f = f i (omega arith)
    go false e i k f = absurd (not-suc-le-zero k)

pub stale_next : (t n : ℕ) (xs : List ℕ) → n ≤ length xs → stale t n xs < n → t - get_or xs (stale t n xs) 0 ≤ window_reach
stale_next t zero xs h l = absurd (not-suc-le-zero l)
stale_next t (suc n) [] h l = absurd (not-suc-le-zero h)
stale_next t (suc n) (x ∷ xs) h l = go (ltb window_reach (t - x)) refl l (λ k. stale_next t n xs (le_of_suc-le-suc h) k)
  where
    go : (b : Bool) → ltb window_reach (t - x) ≡ b → pick b (suc (stale t n xs)) 0 < suc n → (stale t n xs < n → t - get_or xs (stale t n xs) 0 ≤ window_reach) → t - get_or (x ∷ xs) (pick b (suc (stale t n xs)) 0) 0 ≤ window_reach
    go true e k f = f (omega arith)
    go false e k f = ltb-false _ _ e
