-- What `all`, `any` and `position` answer over the first n of a list, by its places. Assumes nothing.
use Rattle.std.specs.Prelude.{◌≡◌, ℕ, zero, suc, ◌<◌, ◌≤◌, Bool, true, false, not, ◌&&◌, ◌||◌, ◌==◌, List, length, take, get_or, nat_lt, Option}
use Rattle.std.specs.List.{list_all, list_any, position, position_or_len}
use Rattle.std.specs.Option.{unwrap_or}
use mathlib.Core.Path.{refl, sym, ap, ◌∙◌}
use native.Mathlib.Nat.{le_antisymm}
use native.Mathlib.Numerals.{add-one}
use native.Mathlib.Omega.{arith}
use borrow.Author.Tests.{lt-ltb, le-ltb, eq-eqb, ne_eqb, eqb-true, eqb-false}
use Rattle.std.proofs.lemmas.List.{get_or-take, length-take-le}
use Rattle.std.proofs.lemmas.List.Folds.{list_all_more, list_any_more}
use Rattle.std.proofs.lemmas.List.Sums.{prefix_len_is}
use Rattle.base.specs.Choice.{pick}
use Rattle.base.specs.Lists.{all}
use Rattle.base.specs.Any.{any}
use Rattle.base.specs.First.{first}
use Rattle.base.proofs.Choices.{by_bool, by_le}
use Rattle.base.proofs.First.{first_at_most, first_before, first_holds}

and_pick : (a b : Bool) → (a && b) ≡ pick a b false
and_pick true b = refl
and_pick false b = refl

or_pick : (a b : Bool) → (a || b) ≡ pick a true b
or_pick true b = refl
or_pick false b = refl

module _ {X : Type 0} (test : X → Bool) (xs : List X) (d : X) where
  pub all_places : (n : ℕ) → n ≤ length xs → list_all test (take n xs) ≡ all (λ i. test (get_or xs i d)) n
  unfolding all
  all_places zero h = refl
  all_places (suc n) h =
      ap (λ (m : ℕ). list_all test (take m xs)) (sym (add-one n))
      ∙ list_all_more test xs n d (omega arith)
      ∙ ap (λ (b : Bool). b && test (get_or xs n d)) (all_places n (omega arith))
      ∙ and_pick (all (λ i. test (get_or xs i d)) n) (test (get_or xs n d))

  pub any_places : (n : ℕ) → n ≤ length xs → list_any test (take n xs) ≡ any (λ i. test (get_or xs i d)) n
  unfolding any
  any_places zero h = refl
  any_places (suc n) h =
      ap (λ (m : ℕ). list_any test (take m xs)) (sym (add-one n))
      ∙ list_any_more test xs n d (omega arith)
      ∙ ap (λ (b : Bool). b || test (get_or xs n d)) (any_places n (omega arith))
      ∙ or_pick (any (λ i. test (get_or xs i d)) n) (test (get_or xs n d))

  module _ (n : ℕ) (h : n ≤ length xs) where
    low : first (λ i. test (get_or xs i d)) n ≤ n
    low = first_at_most _ n

    found_places : position_or_len test (take n xs) ≡ first (λ i. test (get_or xs i d)) n
    found_places =
        prefix_len_is (λ x. not (test x)) (take n xs) _ d
        (rw (length-take-le n xs h) low)
        (λ k l. ap not (ap test (get_or-take n xs k d (omega (arith, low))) ∙ first_before (λ i. test (get_or xs i d)) n k l))
        (λ l. let m : first (λ i. test (get_or xs i d)) n < n = rw (length-take-le n xs h) at l in ap not (ap test (get_or-take n xs _ d m) ∙ first_holds (λ i. test (get_or xs i d)) n m))

    pub position_places : {r : Option ℕ} → r ≡ position test (take n xs) → unwrap_or r n ≡ first (λ i. test (get_or xs i d)) n
    position_places {r} e =
        by_le n (first (λ i. test (get_or xs i d)) n)
        (λ l. rw (e, found_places, length-take-le n xs h, le-ltb _ _ l) (le_antisymm l low))
        (λ l. rw (e, found_places, length-take-le n xs h, lt-ltb _ _ l))

-- there is none below n where none below it passes
pub first_of_any : (p : ℕ → Bool) (n : ℕ) → (first p n == n) ≡ not (any p n)
unfolding first any
first_of_any p zero = refl
first_of_any p (suc n) =
    let before : (first p n == n) ≡ not (any p n) = first_of_any p n in
    by_bool (any p n)
    (λ y. rw (before, y) (ne_eqb (first p n) (suc n) (λ g. omega (arith, g, first_at_most p n))))
    (λ y. by_bool (p n) (λ h. rw (before, y, h) (ne_eqb n (suc n) (λ g. omega (arith, g)))) (λ h. rw (before, y, h) (eq-eqb (suc n) (suc n) refl)))

-- one passes where the first that does is below n
pub any_of_first : (p : ℕ → Bool) (n : ℕ) → any p n ≡ nat_lt (first p n) n
any_of_first p n =
    by_bool (any p n)
    (λ y. let other = eqb-false _ _ (first_of_any p n ∙ ap not y) in y ∙ sym (lt-ltb _ _ (omega (arith, other, first_at_most p n))))
    (λ y. let same = eqb-true _ _ (first_of_any p n ∙ ap not y) in y ∙ sym (le-ltb _ _ (omega (arith, same))))
