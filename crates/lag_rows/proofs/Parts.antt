-- The sum of a part of a list, and a list that is written place by place. Assumes nothing.
use Rattle.std.proofs.Common.{◌≡◌, ℕ, zero, suc, ◌+◌, ◌-◌, ◌*◌, ◌<◌, ◌≤◌, List, length, take, drop, get_or, set, sym, ap, ⊎_elim, eq-or-lt_of_le, get_or-set_same, get_or-set_other, ◌∙◌, arith, add-one, sum}
use Rattle.std.proofs.lemmas.List.Sums.{sum_by_more}
use lib.ListN.{length-drop}
use lib.Seq.{get_or-drop}
use Rattle.base.specs.Lists.{sum_from, row_sum}
use Rattle.base.proofs.Flat.{row_within}
use Rattle.base.proofs.All.{from_none, from_more}

-- the numbers from a on, by the list's own sum
pub part_sum : (a n k : ℕ) (xs : List ℕ) → k ≡ n → a + n ≤ length xs → sum (take k (drop a xs)) ≡ sum_from a n xs
part_sum a n k xs e h = rw e (sums n h)
  where
    sums : (n : ℕ) → a + n ≤ length xs → sum (take n (drop a xs)) ≡ sum_from a n xs
    sums zero h = from_none a xs
    sums (suc n) h =
        let l : n < length (drop a xs) = simp length-drop (omega arith) in
        let more : sum (take (n + 1) (drop a xs)) ≡ sum_from a (n + 1) xs = sum_by_more (λ (x : ℕ). x) (drop a xs) n 0 l ∙ from_more a xs n _ _ (sums n (omega arith)) (get_or-drop a xs n 0) in
        rw add-one at more

-- row i of 11, as the code cuts it
pub row_cut : (i B : ℕ) (xs : List ℕ) → i < 11 → length xs ≡ 11 * B → sum (take (i * B + B - i * B) (drop (i * B) xs)) ≡ row_sum B xs i
row_cut i B xs l e = part_sum (i * B) B (i * B + B - i * B) xs (omega arith) (row_within i 11 B (length xs) l (omega arith) e)

-- the first places hold f, and so does the one that is written next
pub set_next : (f : ℕ → ℕ) (i v : ℕ) (xs : List ℕ) → ((j : ℕ) → j < i → get_or xs j 0 ≡ f j) → i < length xs → v ≡ f i → (j : ℕ) → j < i + 1 → get_or (set xs i v) j 0 ≡ f j
set_next f i v xs h l e j k =
    ⊎_elim
    (λ (z : j ≡ i). ap (λ (y : ℕ). get_or (set xs i v) y 0) z ∙ (get_or-set_same xs i v 0 l ∙ (e ∙ ap f (sym z))))
    (λ g. get_or-set_other xs i j v 0 (λ z. omega arith) ∙ h j g)
    (eq-or-lt_of_le (omega arith))
