-- Where a loop over a line ends, and the bound of a number. Assumes nothing.
use Rattle.std.specs.Prelude.{◌≡◌, ℕ, ◌≤◌, ◌<◌, ◌-◌, List, [], ◌∷◌, min, max, length, drop, None, Some, Option, IfSome}
use mathlib.Core.Path.{refl, sym, ◌∙◌}
use native.Mathlib.Omega.{arith}
use borrow.Author.Tests.{le-ltb, lt-ltb, le-leb}
use lib.ListN.{drop_of_length-le, length-drop}
use Rattle.base.proofs.Choices.{lt_rule}
use Rattle.text_scan.specs.declared.Word.{Word}
use Rattle.text_scan.specs.Scan.{word, first_of, after_text, digit_of, closed, digits_of}

-- no byte from `to` on is looked at, and there is none from the line's end on
pub first_end : (s : List ℕ) (to b i : ℕ) {x : Option ℕ} → x ≡ first_of to b i (drop i s) → min to (length s) ≤ i → None ≡ x
first_end s to b i e h = none (drop i s) (omega (arith, length-drop i s)) ∙ sym e
  where
    none : (xs : List ℕ) → (0 < length xs → to ≤ i) → None ≡ first_of to b i xs
    none [] l = refl
    none (x ∷ xs) l = rw (le-leb to i (l (omega arith)))

-- a number that ends with the line: its digits are all that stood there
module _ (s : List ℕ) (base most from value i : ℕ) (h : length s ≤ i) (k : i ≤ max from (length s)) where
  same_end : closed from value i ≡ closed from value (length s)
  unfolding closed
  same_end = lt_rule from i (Some (word value i)) None (λ (w : Option (Word ℕ)). w ≡ closed from value (length s))
      (λ l. let e : i ≡ length s = omega arith in rw (lt-ltb from (length s) (omega arith), e))
      (λ l. rw (le-ltb from (length s) (omega arith)))

  pub closed_last : {x w : Option (Word ℕ)} → x ≡ digits_of base most from value i (drop i s) → w ≡ closed from value (length s) → w ≡ x
  closed_last e q = q ∙ sym (rw (e, drop_of_length-le s h) same_end)

pub digits_end_law : (s : List ℕ) (base most from value i : ℕ) {x r : Option (Word ℕ)} → x ≡ digits_of base most from value i (drop i s) → length s ≤ i → r ≡ closed from value i → r ≡ x
digits_end_law s base most from value i e l t = t ∙ sym (rw (e, drop_of_length-le s l))

-- a text of which nothing is left stood there
pub text_end_law : (s text : List ℕ) (i j : ℕ) {x : Option ℕ} → x ≡ after_text s i (drop j text) → length text ≤ j → Some i ≡ x
unfolding after_text
text_end_law s text i j e l = sym (rw (e, drop_of_length-le text l))

-- a number is no larger than it may be
pub closed_at_most : (from value to most : ℕ) {w : Option (Word ℕ)} → w ≡ closed from value to → value ≤ most → IfSome w (λ w. w.value ≤ most)
unfolding closed
closed_at_most from value to most e h = rw e (lt_rule from to (Some (word value to)) None (λ w. IfSome w (λ w. w.value ≤ most)) (λ l. h) (λ l. tt))

-- a number ends after its digits
pub closed_some : (from value to : ℕ) → from < to → Some (word value to) ≡ closed from value to
unfolding closed
closed_some from value to h = rw (lt-ltb from to h)

-- ---- a digit of the base
module _ (b base : ℕ) where
  pub digit_decimal : 48 ≤ b → b < 58 → b - 48 < base → Some (b - 48) ≡ digit_of b base
  unfolding digit_of
  digit_decimal h k l = rw (le-ltb b 48 h, lt-ltb b 58 k, lt-ltb (b - 48) base l)

  pub digit_letter : 97 ≤ b → b < 103 → b - 87 < base → Some (b - 87) ≡ digit_of b base
  unfolding digit_of
  digit_letter h k l = rw (le-ltb b 48 (omega arith), le-ltb b 58 (omega arith), le-ltb b 97 h, lt-ltb b 103 k, lt-ltb (b - 87) base l)
