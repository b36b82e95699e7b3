-- 16 places, filled one after the other with what stands in the line. Assumes nothing.
use Prim.Native.Nat.{ℕ, suc, ◌+◌, ◌-◌, ◌<◌, ◌≤◌, min}
use mathlib.Core.Path.{◌≡◌, refl, ap, sym, ◌∙◌}
use mathlib.Core.List.{List, ◌++◌}
use native.Mathlib.Numerals.{add-one}
use native.Mathlib.Omega.{arith}
use lib.ListN.{length, take, drop, set, replicate, length-set, take-append-drop}
use lib.Seq.{drop-cons, drop-set-lt}
use Rattle.text_requests.specs.Lists.{listed}
use Rattle.text_requests.proofs.Loops.{stored, Listing, listing_none, listing_more, listing_done}

abbrev pub filled_16 : {A : Type 0} (one : ℕ → A) (after : ℕ → ℕ) (none : A) (n at : ℕ) → List A
filled_16 one after none n at = listed one after (min n 16) at ++ replicate (16 - n) none

-- the first i places are filled, and those that are left have none
pub record Filling {A : Type 0} (one : ℕ → A) (after : ℕ → ℕ) (none : A) (n start : ℕ) (all : List A) (at i : ℕ) : Type 0 where
  pub long : length all ≡ 16
  pub blank : drop i all ≡ replicate (16 - i) none
  pub filled : Listing one after (min n 16) start (take i all) at i

module _ {A : Type 0} {one : ℕ → A} {after : ℕ → ℕ} {none : A} {n start : ℕ} where
  pub filling_none : {blank : A} → blank ≡ none → Filling one after none n start (replicate 16 blank) start 0
  filling_none e = record { long = refl; blank = ap (replicate 16) e; filled = listing_none }

  module _ {all : List A} {at i : ℕ} (inv : Filling one after none n start all at i) where
    pub filling_more : i < min n 16 → {value : A} {next : ℕ} → value ≡ one at → next ≡ after at → Filling one after none n start (set all i value) next (i + 1)
    filling_more h {value} e f = record {
      long = length-set all i value ∙ inv.long;
      blank = rw (add-one i) (drop-set-lt (suc i) all i value (omega arith) ∙ cc (drop-cons all i none (omega (arith, inv.long)), rw left at inv.blank));
      filled = listing_more inv.filled (omega arith) e f (stored all i value (omega (arith, inv.long)));
    }
      where
        left : 16 - i ≡ suc (16 - suc i)
        left = omega arith

    pub all_filled : min n 16 ≤ i → all ≡ filled_16 one after none n start
    all_filled h = sym (take-append-drop i all) ∙ ap (λ (l : List A). l ++ drop i all) (listing_done inv.filled h) ∙ ap (λ (l : List A). listed one after (min n 16) start ++ l) (inv.blank ∙ ap (λ (k : ℕ). replicate k none) rest)
      where
        rest : 16 - i ≡ 16 - n
        rest = omega (arith, inv.filled.within)
