-- A shift as the code makes it: the places that stay are copied down, and blanks are written over the places at the end. Assumes nothing.
use Rattle.std.proofs.Common.{◌≡◌, ℕ, zero, suc, ◌+◌, ◌-◌, ◌<◌, ◌≤◌, min, List, [], ◌∷◌, ◌++◌, length, take, drop, set, replicate, refl, sym, ap, ◌∙◌, arith}
use native.Mathlib.Numerals.{add-one}
use borrow.Rule.Slice.PartMut.{put_mid}
use lib.ListN.{drop_of_length-le, length-take, length-drop}
use lib.Seq.{paste, take_all, take_at}
use mathlib.Core.List.{append-nil}
use Rattle.base.specs.Lists.{shifted_by}
use Rattle.base.proofs.Choices.{by_le}

-- what is left from k on, however large k is
pub drop_min : {A : Type 0} (k m : ℕ) (xs : List A) → m ≡ min k (length xs) → drop m xs ≡ drop k xs
drop_min k m xs e = by_le k (length xs)
    (λ l. let q : m ≡ k = omega arith in ap (λ n. drop n xs) q)
    (λ l. drop_of_length-le xs (omega arith) ∙ sym (drop_of_length-le xs (omega arith)))

module _ {A : Type 0} (blank : A) where
  -- none go
  pub shifted_by_none : (k : ℕ) (s : List A) → k ≡ 0 → s ≡ shifted_by blank k s
  unfolding shifted_by
  shifted_by_none k s e = let none : min k (length s) ≡ 0 = omega arith in rw (none, e, append-nil)

  -- one blank more
  blanks : (i : ℕ) (d : List A) → i < length d → set (replicate i blank ++ drop i d) i blank ≡ replicate (suc i) blank ++ drop (suc i) d
  blanks i [] l = absurd (omega arith)
  blanks zero (x ∷ d) l = refl
  blanks (suc i) (x ∷ d) l = ap (λ ys. blank ∷ ys) (blanks i d (omega arith))

  pub blanks_more : (i : ℕ) (d : List A) {ys : List A} → i < length d → ys ≡ replicate i blank ++ drop i d → set ys i blank ≡ replicate (i + 1) blank ++ drop (i + 1) d
  blanks_more i d l e = rw (e, add-one) (blanks i d l)

  module _ (k gone : ℕ) (s y : List A) (e : gone ≡ min k (length s)) (moved : y ≡ paste s 0 (drop gone s) (length s - gone)) (long : length y ≡ length s) where
    kept : take (length s - gone) y ≡ drop gone s
    kept =
        let all : take (length s - gone) (drop gone s) ≡ drop gone s = take_all _ _ (simp length-drop (omega arith)) in
        rw (moved, all) (take_at (drop gone s) (drop (0 + (length s - gone)) s) (length s - gone) (simp length-drop (omega arith)))

    pub shift_all : (i : ℕ) {ys : List A} → i ≤ length (take (length y - (length s - gone)) (drop (length s - gone) y)) → length (take (length y - (length s - gone)) (drop (length s - gone) y)) ≤ i → ys ≡ replicate i blank ++ drop i (take (length y - (length s - gone)) (drop (length s - gone) y)) → put_mid (length s - gone) (length y - (length s - gone)) y ys ≡ shifted_by blank k s
    unfolding shifted_by
    shift_all i {ys} l m f =
        let few : length (take (length y - (length s - gone)) (drop (length s - gone) y)) ≡ gone = simp (length-take, length-drop) (omega arith) in
        let size : i ≡ min k (length s) = omega arith in
        let past : drop (length y - (length s - gone)) (drop (length s - gone) y) ≡ [] = drop_of_length-le (drop (length s - gone) y) {i = length y - (length s - gone)} (simp length-drop (omega arith)) in
        let none : drop i (take (length y - (length s - gone)) (drop (length s - gone) y)) ≡ [] = drop_of_length-le _ m in
        rw (kept, past, append-nil, f, none, append-nil, size, drop_min k gone s e)
