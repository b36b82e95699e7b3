-- The bounds of what scanning answers. Assumes nothing.
use Rattle.std.specs.Prelude.{◌≡◌, ℕ, zero, suc, ◌+◌, ◌-◌, ◌<◌, ◌≤◌, eqb, leb, List, [], ◌∷◌, length, get_or, drop, Option, Some, unwrap_or}
use mathlib.Core.Path.{ap, ◌∙◌}
use native.Mathlib.Omega.{arith}
use borrow.Author.Tests.{leb-true, leb-false, eqb-false}
use lib.ListN.{length-drop}
use lib.Seq.{get_or-drop}
use Rattle.std.proofs.lemmas.Option.{none-some, same_Some}
use Rattle.base.proofs.Choices.{by_bool}
use Rattle.text_scan.specs.Scan.{first_of, first_from}

-- the place that `first` answers holds a byte of the list, from `at` on and before `to`
found : (to b i : ℕ) (xs : List ℕ) (k : ℕ) → first_of to b k xs ≡ Some i → (k ≤ i) × (i < to) × (i < k + length xs)
found to b i [] k q = absurd (none-some i q)
found to b i (x ∷ xs) k q =
    by_bool
    (leb to k)
    (λ h. absurd (none-some i (rw h at q)))
    (λ h. by_bool (eqb x b) (λ g. here (leb-false to k h) (same_Some k i (rw (h, g) at q))) (λ g. there (found to b i xs (suc k) (rw (h, g) at q))))
  where
    here : k < to → k ≡ i → (k ≤ i) × (i < to) × (i < k + suc (length xs))
    here h e = (omega arith, omega arith, omega arith)

    there : (suc k ≤ i) × (i < to) × (i < suc k + length xs) → (k ≤ i) × (i < to) × (i < k + suc (length xs))
    there f = (omega arith, omega arith, omega arith)

pub first_within : (s : List ℕ) (at to b i : ℕ) → first_from s at to b ≡ Some i → (at ≤ i) × (i < to) × (i < length s)
unfolding first_from
first_within s at to b i e =
    let f = found to b i (drop at s) at e in
    (f.0, f.1, omega (arith, f.0, f.2, length-drop at s))

-- how far `first` looked: up to the place that it answers, else up to `to`
abbrev pub looked_to : ℕ → Option ℕ → ℕ
looked_to to found = unwrap_or found to

-- so far there is no such byte
over : (to b : ℕ) (xs : List ℕ) (k j : ℕ) → j < length xs → k + j < looked_to to (first_of to b k xs) → get_or xs j 0 ≡ b → ⊥
over to b [] k j l h g = omega arith
over to b (x ∷ xs) k j l h g =
    by_bool
    (leb to k)
    (λ t. beyond (leb-true to k t) (rw t at h))
    (λ t. by_bool (eqb x b) (λ u. here (rw (t, u) at h)) (λ u. there (over to b xs (suc k)) j l (rw (t, u) at h) g (eqb-false x b u)))
  where
    beyond : to ≤ k → k + j < to → ⊥
    beyond t q = omega arith

    here : k + j < k → ⊥
    here q = omega arith

    there : ((j : ℕ) → j < length xs → suc k + j < looked_to to (first_of to b (suc k) xs) → get_or xs j 0 ≡ b → ⊥) → (j : ℕ) → j < suc (length xs) →
        k + j < looked_to to (first_of to b (suc k) xs) → get_or (x ∷ xs) j 0 ≡ b → (x ≡ b → ⊥) → ⊥
    there f zero m q e n = n e
    there f (suc j) m q e n = f j (omega arith) (omega arith) e

pub first_over : (s : List ℕ) (at to b j : ℕ) → at ≤ j → j < length s → j < looked_to to (first_from s at to b) → get_or s j 0 ≡ b → ⊥
unfolding first_from
first_over s at to b j h l q g =
    let e : at + (j - at) ≡ j = omega arith in
    over to b (drop at s) at (j - at) (rw length-drop (omega arith)) (rw e q) (get_or-drop at s (j - at) 0 ∙ ap (λ i. get_or s i 0) e ∙ g)
