-- Lists given by their places, and a loop that writes one, padded with zeros. Assumes nothing.
use Rattle.std.specs.Prelude.{◌≡◌, ℕ, zero, suc, ◌+◌, ◌<◌, ◌≤◌, ltb, List, [], ◌∷◌, ◌++◌, length, get_or, set}
use mathlib.Core.Path.{refl, sym, ap₂, ◌∙◌}
use mathlib.Core.Logic.{⊎_elim}
use native.Mathlib.Nat.{eq-or-lt_of_le, le_of_suc-le-suc}
use native.Mathlib.Omega.{arith}
use lib.ListN.{length-append, get_or-append}
use lib.Seq.{get_or_at, ext_get_or}
use Rattle.base.specs.Choice.{pick}
use Rattle.base.specs.Lists.{padded, listed}
use Rattle.base.proofs.Choices.{lt_yes, lt_no, by_le}
use Rattle.base.proofs.Points.{past_end}
use Rattle.base.proofs.Pads.{get_or_padded, length_padded}
use Rattle.base.proofs.Toward.{toward, toward_more, toward_all}

module _ (f : ℕ → ℕ) where
  pub listed_length : (n : ℕ) → length (listed f n) ≡ n
  unfolding listed
  listed_length zero = refl
  listed_length (suc n) = simp length-append (omega (arith, listed_length n))

  pub listed_at : (n i : ℕ) → i < n → get_or (listed f n) i 0 ≡ f i
  unfolding listed
  listed_at zero i l = absurd (omega arith)
  listed_at (suc n) i l =
      ⊎_elim
      (λ e. rw e (get_or_at (listed f n) (f n) [] 0 n (listed_length n)))
      (λ m. get_or-append (listed f n) (f n ∷ []) 0 i (rw (listed_length n) m) ∙ listed_at n i m)
      (eq-or-lt_of_le (le_of_suc-le-suc l))

  -- a list with f at each of its n places
  pub listed_is : (n : ℕ) (xs : List ℕ) → length xs ≡ n → ((i : ℕ) → i < n → get_or xs i 0 ≡ f i) → xs ≡ listed f n
  listed_is n xs e h = ext_get_or 0 xs (listed f n) (e ∙ sym (listed_length n)) (λ i l. let k : i < n = rw e at l in h i k ∙ sym (listed_at n i k))

  -- padded with zeros
  pub listed_padded : (m n i : ℕ) → get_or (padded m (listed f n)) i 0 ≡ pick (ltb i n) (f i) 0
  listed_padded m n i =
      get_or_padded m (listed f n) i
      ∙ by_le n i (λ l. past_end (listed f n) i (rw (listed_length n) l) ∙ sym (lt_no i n (f i) 0 l)) (λ l. listed_at n i l ∙ sym (lt_yes i n (f i) 0 l))

pub listed_cong : (f g : ℕ → ℕ) (n : ℕ) → ((i : ℕ) → i < n → f i ≡ g i) → listed f n ≡ listed g n
unfolding listed
listed_cong f g zero h = refl
listed_cong f g (suc n) h = ap₂ (λ (xs : List ℕ) (v : ℕ). xs ++ (v ∷ [])) (listed_cong f g n (λ i l. h i (omega arith))) (h n (omega arith))

-- ---- a loop that writes f at the first n of m places, and zeros after them
module _ (f : ℕ → ℕ) (m n : ℕ) where
  fill_long : n ≤ m → length (padded m (listed f n)) ≡ m
  fill_long h = length_padded m (listed f n) (rw (listed_length f n) h)

  module _ (s : List ℕ) (i : ℕ) (few : n ≤ m) (long : length s ≡ m) {x : List ℕ} (e : x ≡ toward (padded m (listed f n)) s i) where
    pub fill_step : i < length s → {v : ℕ} → v ≡ pick (ltb i n) (f i) 0 → set x i v ≡ toward (padded m (listed f n)) s (i + 1)
    fill_step l {v} h = rw e (toward_more (padded m (listed f n)) s (fill_long few ∙ sym long) i v l (listed_padded f m n i ∙ sym h))

    pub fill_end : length s ≤ i → x ≡ padded m (listed f n)
    fill_end l = e ∙ toward_all (padded m (listed f n)) s (fill_long few ∙ sym long) i l
