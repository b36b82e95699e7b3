-- Sums over rows are sums over columns; a sum in two parts; a longer sum is no less; a sum whose later terms are zero; bounds of sums. Of general use. Assumes nothing.
use Prim.Native.Nat.{ℕ, zero, suc, ◌+◌, ◌*◌, ◌-◌, ◌<◌, ◌≤◌}
use mathlib.Core.Path.{◌≡◌, refl, sym, ap, ◌∙◌}
use mathlib.Core.List.{List}
use native.Mathlib.Nat.{add_assoc, not-suc-le-zero, suc-mul}
use native.Mathlib.Omega.{arith}
use lib.ListN.{get_or}
use Rattle.base.specs.Lists.{sum, sum_from}
use Rattle.base.proofs.Choices.{by_le}
use Rattle.base.proofs.Points.{sum_cong, sum_zero}

pub sum_add : (f g : ℕ → ℕ) (n : ℕ) → sum (λ i. f i + g i) n ≡ sum f n + sum g n
unfolding sum
sum_add f g zero = refl
sum_add f g (suc n) = omega (arith, sum_add f g n)

pub sum_swap : (f : ℕ → ℕ → ℕ) (m n : ℕ) → sum (λ r. sum (λ b. f r b) m) n ≡ sum (λ b. sum (λ r. f r b) n) m
unfolding sum
sum_swap f m zero = sym (sum_zero (λ b. 0) m (λ i l. refl))
sum_swap f m (suc n) = ap (λ (x : ℕ). x + sum (λ b. f n b) m) (sum_swap f m n) ∙ sym (sum_add (λ b. sum (λ r. f r b) n) (λ b. f n b) m)

pub sum_split : (f : ℕ → ℕ) (m n : ℕ) → sum f (m + n) ≡ sum f m + sum (λ i. f (m + i)) n
unfolding sum
sum_split f m zero = let e : m + 0 ≡ m = omega arith in rw e (omega arith)
sum_split f m (suc n) = let e : m + suc n ≡ suc (m + n) = omega arith in rw e (omega (arith, sum_split f m n))

pub sum_rises : (f : ℕ → ℕ) (m n : ℕ) → m ≤ n → sum f m ≤ sum f n
sum_rises f m n h =
    let e : m + (n - m) ≡ n = omega arith in
    let g : sum f m ≤ sum f (m + (n - m)) = omega (arith, sum_split f m (n - m)) in
    rw e at g

pub sum_past : (f : ℕ → ℕ) (m n : ℕ) → m ≤ n → ((i : ℕ) → m ≤ i → i < n → f i ≡ 0) → sum f n ≡ sum f m
unfolding sum
sum_past f zero zero h z = refl
sum_past f (suc m) zero h z = absurd (not-suc-le-zero h)
sum_past f m (suc n) h z =
    by_le m n (λ l. omega (arith, sum_past f m n l (λ i g k. z i g (omega arith)), z n l (omega arith)))
    (λ l. let e : m ≡ suc n = omega arith in rw e)

pub sum_le : (f g : ℕ → ℕ) (n : ℕ) → ((i : ℕ) → i < n → f i ≤ g i) → sum f n ≤ sum g n
unfolding sum
sum_le f g zero h = omega arith
sum_le f g (suc n) h = omega (arith, sum_le f g n (λ i l. h i (omega arith)), h n (omega arith))

pub sum_bound : (f : ℕ → ℕ) (most n : ℕ) → ((i : ℕ) → i < n → f i ≤ most) → sum f n ≤ n * most
unfolding sum
sum_bound f most zero h = omega arith
sum_bound f most (suc n) h = omega (arith, sum_bound f most n (λ i l. h i (omega arith)), h n (omega arith), suc-mul n most)

-- ---- the numbers of a list
pub from_split : (a m n : ℕ) (xs : List ℕ) → sum_from a (m + n) xs ≡ sum_from a m xs + sum_from (a + m) n xs
unfolding sum_from
from_split a m n xs = sum_split (λ i. get_or xs (a + i) 0) m n ∙ ap (λ (x : ℕ). sum (λ i. get_or xs (a + i) 0) m + x) (sum_cong _ _ n (λ i l. ap (λ (x : ℕ). get_or xs x 0) (sym (add_assoc a m i))))
