-- The digits of a file two by two, as a loop goes over a line. Assumes nothing.
use Prim.Native.Nat.{ℕ, suc, ◌+◌, ◌-◌, ◌*◌, ◌<◌, ◌≤◌}
use mathlib.Core.Path.{◌≡◌, refl, sym, ap, ◌∙◌}
use mathlib.Core.List.{List, [], ◌∷◌, ◌++◌, append_assoc, append-nil}
use native.Mathlib.Numerals.{add-one}
use native.Mathlib.Omega.{arith}
use lib.ListN.{length, get_or, set, take, drop, length-drop}
use lib.Seq.{drop-cons, take-nil, take_all, take-suc-set, length-take-le}
use Rattle.std.specs.Prelude.{None, Some}
use Rattle.text_files.specs.Files.{pair_of, pair_in, pair_at, bytes_from, digits_end, kept_from}

-- ---- two places of a line
two : (s : List ℕ) (at : ℕ) → at + 1 < length s → drop at s ≡ get_or s at 0 ∷ get_or s (at + 1) 0 ∷ drop (at + 2) s
two s at l =
    let one : drop (suc at) s ≡ drop (at + 1) s = ap (λ (j : ℕ). drop j s) (sym (add-one at)) in
    let after : suc (at + 1) ≡ at + 2 = omega arith in
    let next : drop (suc (at + 1)) s ≡ drop (at + 2) s = ap (λ (j : ℕ). drop j s) after in
    drop-cons s at 0 (omega arith)
    ∙ ap (λ (xs : List ℕ). get_or s at 0 ∷ xs) (one ∙ drop-cons s (at + 1) 0 l ∙ ap (λ (xs : List ℕ). get_or s (at + 1) 0 ∷ xs) next)

-- ---- the bytes from a place on: another one, or none
module _ (s : List ℕ) (i : ℕ) where
  pub bytes_stop : None ≡ pair_at s i → bytes_from (drop i s) ≡ []
  unfolding pair_at
  bytes_stop e = stop (drop i s) e
    where
      stop : (xs : List ℕ) → None ≡ pair_in xs → bytes_from xs ≡ []
      stop [] q = refl
      stop (x ∷ []) q = refl
      stop (x ∷ y ∷ rest) q = rw (← q)

  module _ {b : ℕ} (e : Some b ≡ pair_at s i) where
    -- a byte takes two places of the line
    pub pair_within : i + 2 ≤ length s
    unfolding pair_at
    pair_within = omega (arith, within (drop i s) e, length-drop i s)
      where
        within : (xs : List ℕ) → Some b ≡ pair_in xs → 2 ≤ length xs
        within [] q = cc
        within (x ∷ []) q = cc
        within (x ∷ y ∷ rest) q = omega arith

    pub bytes_more : bytes_from (drop i s) ≡ b ∷ bytes_from (drop (i + 2) s)
    unfolding pair_at
    bytes_more =
        let t = two s i (omega (arith, pair_within)) in
        let q : Some b ≡ pair_of (get_or s i 0) (get_or s (i + 1) 0) = rw t at e in
        rw (t, ← q)

-- ---- the place after the digits
module _ (s : List ℕ) (from i : ℕ) (inv : digits_end s from ≡ i + length (bytes_from (drop i s)) * 2) where
  pub end_stop : None ≡ pair_at s i → i ≡ digits_end s from
  end_stop e =
      let q : length (bytes_from (drop i s)) ≡ 0 = ap length (bytes_stop s i e) in
      omega arith

  pub end_more : {b : ℕ} → Some b ≡ pair_at s i → digits_end s from ≡ (i + 2) + length (bytes_from (drop (i + 2) s)) * 2
  end_more e =
      let q : length (bytes_from (drop i s)) ≡ suc (length (bytes_from (drop (i + 2) s))) = ap length (bytes_more s i e) in
      omega arith

-- ---- the bytes that are kept: those that were stored, with what is left in the line, are all
module _ (s : List ℕ) (at i k : ℕ) (file : List ℕ) (inv : take k file ++ take (1292 - k) (bytes_from (drop i s)) ≡ kept_from s at) where
  pub kept_stop : None ≡ pair_at s i → take k file ≡ kept_from s at
  kept_stop e = sym (append-nil (take k file)) ∙ rw (bytes_stop s i e, take-nil (1292 - k)) at inv

  pub kept_more : {b : ℕ} → Some b ≡ pair_at s i → k < 1292 → k < length file → take (k + 1) (set file k b) ++ take (1292 - (k + 1)) (bytes_from (drop (i + 2) s)) ≡ kept_from s at
  kept_more {b} e m l =
      let q : 1292 - k ≡ suc (1292 - suc k) = omega arith in
      rw (add-one k, take-suc-set file k b l, append_assoc) (rw (bytes_more s i e, q) at inv)

  pub kept_full : 1292 ≤ k → take k file ≡ kept_from s at
  kept_full h =
      let q : 1292 - k ≡ 0 = omega arith in
      sym (append-nil (take k file)) ∙ rw q at inv

-- ---- what is kept is the file, or as long as no file of an edition
module _ (s : List ℕ) (at : ℕ) where
  pub kept_whole : length (bytes_from (drop at s)) ≤ 1291 → kept_from s at ≡ bytes_from (drop at s)
  unfolding kept_from
  kept_whole h = take_all 1292 (bytes_from (drop at s)) (omega arith)

  pub kept_too_long : 1291 < length (bytes_from (drop at s)) → length (kept_from s at) ≡ 1292
  unfolding kept_from
  kept_too_long h = length-take-le 1292 (bytes_from (drop at s)) (omega arith)
