-- The peaks after step 4: what holds of each that is left, that each is younger than window, and that the newest survives. Assumes nothing.
-- ---- a list with one more
use Rattle.std.specs.Prelude.{◌≡◌, ℕ, ◌+◌, ◌-◌, ◌<◌, ◌≤◌, max, true, false, ◌⊎◌, List, [], ◌∷◌, ◌++◌, length, get_or, drop, set, None, Option, Some}
use mathlib.Core.Path.{refl, sym, ap, ◌∙◌}
use mathlib.Core.Logic.{inl, inr, ⊎_elim}
use native.Mathlib.Nat.{eq-or-lt_of_le, lt_of_not-le}
use native.Mathlib.Omega.{arith}
use borrow.Author.Tests.{leb-true, leb-false}
use lib.ListN.{length-append, length-drop, get_or-append}
use lib.Seq.{get_or-append-add, get_or-drop, get_or-set_same, get_or-set_other}
use Rattle.base.specs.Limits.{nanos}
use Rattle.base.proofs.Choices.{by_bool, yes_pick, no_pick}
use Rattle.delay_hold.specs.Step4Peaks.{is_new_at, old_count, join_times, join_lags, times_after, lags_after, greatest}
use Rattle.base.specs.Rows.{span_of}
use Rattle.base.proofs.Rows.{span_some}
use Rattle.delay_hold.proofs.Loops.{new_pos}
use Rattle.delay_hold.proofs.Order.{joined_same, old_front, old_each, far, new_some}
use Rattle.delay_hold.proofs.Bounds.{get_or_greatest}

module _ (xs : List ℕ) (v : ℕ) where
  snoc_length : length (xs ++ (v ∷ [])) ≡ length xs + 1
  snoc_length = length-append xs (v ∷ [])

  snoc_old : (i : ℕ) → i < length xs → get_or (xs ++ (v ∷ [])) i 0 ≡ get_or xs i 0
  snoc_old i l = get_or-append xs (v ∷ []) 0 i l

  snoc_new : (i : ℕ) → i ≡ length xs → get_or (xs ++ (v ∷ [])) i 0 ≡ v
  snoc_new i e = ap (λ (j : ℕ). get_or (xs ++ (v ∷ [])) j 0) (omega arith) ∙ get_or-append-add xs (v ∷ []) 0 0

-- a place of a list with one more is an old place, or the new one
below_snoc : (n i : ℕ) → i < n + 1 → (i < n) ⊎ (i ≡ n)
below_snoc n i l = ⊎_elim (λ e. inr e) (λ k. inl k) (eq-or-lt_of_le (omega arith))

-- ---- the joined times
module _ (times : List ℕ) (v time : ℕ) where
  join_new : is_new_at (length times) times time ≡ true → join_times times (Some v) time ≡ times ++ (time ∷ [])
  unfolding join_times
  join_new e = yes_pick (times ++ (time ∷ [])) times e

  join_old : is_new_at (length times) times time ≡ false → join_times times (Some v) time ≡ times
  unfolding join_times
  join_old e = no_pick (times ++ (time ∷ [])) times e

  module _ (lags : List ℕ) where
    lags_new : is_new_at (length times) times time ≡ true → join_lags times lags (Some v) time ≡ lags ++ (v ∷ [])
    unfolding join_lags
    lags_new e = yes_pick (lags ++ (v ∷ [])) _ e

    lags_old : is_new_at (length times) times time ≡ false → join_lags times lags (Some v) time ≡ set lags (length lags - 1) (max (get_or lags (length lags - 1) 0) v)
    unfolding join_lags
    lags_old e = no_pick (lags ++ (v ∷ [])) _ e

-- what holds of each peak holds of each after the lag has joined, if it holds of the new one and of one that is joined
module _ (times lags : List ℕ) (same : length lags ≡ length times) (P : ℕ → ℕ → Type 0) (old : (i : ℕ) → i < length times → P (get_or times i 0) (get_or lags i 0)) where
  joined_rule :
      (lag : Option ℕ) (time : ℕ) →
      ((v : ℕ) → lag ≡ Some v → P time v) →
      ((v t l : ℕ) → lag ≡ Some v → time - t < nanos → P t l → P t (max l v)) →
      (i : ℕ) → i < length (join_times times lag time) → P (get_or (join_times times lag time) i 0) (get_or (join_lags times lags lag time) i 0)
  unfolding join_times join_lags
  joined_rule None time new join i l = old i l
  joined_rule (Some v) time new join i l = by_bool (is_new_at (length times) times time) (is_new i l) (is_old i l)
    where
      p_at : (a b c d : ℕ) → a ≡ c → b ≡ d → P c d → P a b
      p_at a b c d e f p = rw (e, f) p

      is_new : (i : ℕ) → i < length (join_times times (Some v) time) → is_new_at (length times) times time ≡ true → P (get_or (join_times times (Some v) time) i 0) (get_or (join_lags times lags (Some v) time) i 0)
      is_new i l e =
          rw (join_new times v time e, lags_new times v time lags e)
          (⊎_elim
          (λ k. p_at _ _ (get_or times i 0) (get_or lags i 0) (snoc_old times time i k) (snoc_old lags v i (omega arith)) (old i k))
          (λ q. p_at _ _ time v (snoc_new times time i q) (snoc_new lags v i (omega arith)) (new v refl))
          (below_snoc (length times) i (omega (arith, snoc_length times time, ap length (join_new times v time e)))))

      is_old : (i : ℕ) → i < length (join_times times (Some v) time) → is_new_at (length times) times time ≡ false → P (get_or (join_times times (Some v) time) i 0) (get_or (join_lags times lags (Some v) time) i 0)
      is_old i l e =
          let p : 1 ≤ length times = new_pos (length times) times time e in
          let k : i < length times = omega (arith, ap length (join_old times v time e)) in
          let m = length lags - 1 in
          let young : time - get_or times (length times - 1) 0 < nanos = leb-false nanos (time - get_or times (length times - 1) 0) (sym (new_some (length times) times time p) ∙ e) in
          rw (join_old times v time e, lags_old times v time lags e)
          (⊎_elim
          (λ q.
          let z : i ≡ m = omega arith in
          p_at _ _ (get_or times i 0) (max (get_or lags i 0) v) refl
          (ap (λ (j : ℕ). get_or (set lags m (max (get_or lags m 0) v)) j 0) z ∙ get_or-set_same lags m (max (get_or lags m 0) v) 0 (omega arith) ∙ ap (λ (j : ℕ). max (get_or lags j 0) v) (sym z))
          (join v (get_or times i 0) (get_or lags i 0) refl (let w : length times - 1 ≡ i = omega arith in rw w at young) (old i k)))
          (λ q. p_at _ _ (get_or times i 0) (get_or lags i 0) refl (get_or-set_other lags m i (max (get_or lags m 0) v) 0 (λ z. omega arith)) (old i k))
          (eq-or-lt_of_le (let h : i ≤ length times - 1 = omega arith in h)))

  -- and of each that is left
  pub after_rule :
      (lag : Option ℕ) (window time : ℕ) →
      ((v : ℕ) → lag ≡ Some v → P time v) →
      ((v t l : ℕ) → lag ≡ Some v → time - t < nanos → P t l → P t (max l v)) →
      (i : ℕ) → i < length (times_after times lag window time) → P (get_or (times_after times lag window time) i 0) (get_or (lags_after times lags lag window time) i 0)
  unfolding times_after lags_after
  after_rule lag window time new join i l =
      let k = old_count (join_times times lag time) window time in
      rw (get_or-drop k (join_times times lag time) i 0, get_or-drop k (join_lags times lags lag time) i 0)
      (joined_rule lag time new join (k + i) (omega (arith, length-drop k (join_times times lag time))))

-- the oldest stays the oldest
joined_first : (times : List ℕ) (lag : Option ℕ) (time : ℕ) → 0 < length times → get_or (join_times times lag time) 0 0 ≡ get_or times 0 0
unfolding join_times
joined_first times None time h = refl
joined_first times (Some v) time h =
    by_bool (is_new_at (length times) times time)
    (λ e. ap (λ (xs : List ℕ). get_or xs 0 0) (join_new times v time e) ∙ snoc_old times time 0 h)
    (λ e. ap (λ (xs : List ℕ). get_or xs 0 0) (join_old times v time e))

-- ---- the times, each at least 1 s after the one before
module _ (times : List ℕ) (spaced : (i : ℕ) → i + 1 < length times → get_or times i 0 + nanos ≤ get_or times (i + 1) 0) where
  joined_spaced : (lag : Option ℕ) (time i : ℕ) → i + 1 < length (join_times times lag time) → get_or (join_times times lag time) i 0 + nanos ≤ get_or (join_times times lag time) (i + 1) 0
  unfolding join_times
  joined_spaced None time i l = spaced i l
  joined_spaced (Some v) time i l = by_bool (is_new_at (length times) times time) is_new is_old
    where
      is_new : is_new_at (length times) times time ≡ true → get_or (join_times times (Some v) time) i 0 + nanos ≤ get_or (join_times times (Some v) time) (i + 1) 0
      is_new e =
          let n : i + 1 < length times + 1 = omega (arith, snoc_length times time, ap length (join_new times v time e)) in
          rw (join_new times v time e, snoc_old times time i (omega arith))
          (⊎_elim
          (λ k. rw (snoc_old times time (i + 1) k) (spaced i k))
          (λ q.
          let old : nanos ≤ time - get_or times (length times - 1) 0 = leb-true nanos (time - get_or times (length times - 1) 0) (sym (new_some (length times) times time (omega arith)) ∙ e) in
          let w : length times - 1 ≡ i = omega arith in
          let old-i : nanos ≤ time - get_or times i 0 = rw w at old in
          rw (snoc_new times time (i + 1) q) (omega arith))
          (below_snoc (length times) (i + 1) n))

      is_old : is_new_at (length times) times time ≡ false → get_or (join_times times (Some v) time) i 0 + nanos ≤ get_or (join_times times (Some v) time) (i + 1) 0
      is_old e = rw (join_old times v time e) (spaced i (omega (arith, ap length (join_old times v time e))))

  module _ (lag : Option ℕ) (window time : ℕ) where
    pub after_spaced : (i : ℕ) → i + 1 < length (times_after times lag window time) → get_or (times_after times lag window time) i 0 + nanos ≤ get_or (times_after times lag window time) (i + 1) 0
    unfolding times_after
    after_spaced i l =
        let J = join_times times lag time in
        let k = old_count J window time in
        let e : k + i + 1 ≡ k + (i + 1) = omega arith in
        rw (get_or-drop k J i 0, get_or-drop k J (i + 1) 0, ← e) (joined_spaced lag time (k + i) (omega (arith, length-drop k J)))

    -- "Peaks of age at least window go": each that is left is younger
    pub after_young : (i : ℕ) → i < length (times_after times lag window time) → time - get_or (times_after times lag window time) i 0 < window
    unfolding times_after
    after_young i l =
        let J = join_times times lag time in
        let k = old_count J window time in
        rw (get_or-drop k J i 0)
        (omega (arith, old_front J window time (omega (arith, length-drop k J)), far J (length J) (joined_spaced lag time) k i (omega (arith, length-drop k J))))

    first : ℕ
    first = get_or (times_after times lag window time) 0 0

    first_late : 0 < length times → 0 < length (times_after times lag window time) → get_or times 0 0 ≤ first
    unfolding times_after first
    first_late h l =
        let J = join_times times lag time in
        let k = old_count J window time in
        let z : 0 + (k + 0) ≡ k + 0 = omega arith in
        let m : k + 0 < length J = omega (arith, length-drop k J) in
        let d : get_or J 0 0 ≤ get_or J (0 + (k + 0)) 0 = omega (arith, far J (length J) (joined_spaced lag time) 0 (k + 0) (rw z m)) in
        let f : get_or J 0 0 ≤ get_or J (k + 0) 0 = rw z at d in
        rw (get_or-drop k J 0 0, ← joined_first times lag time h) f

    old_in : (bound : ℕ) → span_of (length times) times < bound → 0 < length (times_after times lag window time) → (j : ℕ) → j < length times → get_or times j 0 - first < bound
    old_in bound span l j h =
        let n = length times in
        let a : get_or times 0 0 ≤ first = first_late (omega arith) l in
        let q : j + (n - 1 - j) ≡ n - 1 = omega arith in
        let d : get_or times j 0 ≤ get_or times (j + (n - 1 - j)) 0 = omega (arith, far times n spaced j (n - 1 - j) (omega arith)) in
        let b : get_or times j 0 ≤ get_or times (n - 1) 0 = rw q at d in
        let c : span_of n times ≡ get_or times (n - 1) 0 - get_or times 0 0 = sym (span_some n times _ (λ e. omega arith) refl) in
        omega arith

    -- the times that are left span less than a bound that the window does not pass and the times before spanned less than
    pub after_span :
        (bound : ℕ) →
        window ≤ bound →
        span_of (length times) times < bound →
        (i : ℕ) → i < length (times_after times lag window time) → get_or (times_after times lag window time) i 0 - get_or (times_after times lag window time) 0 0 < bound
    unfolding first
    after_span bound w span i l =
        let some : 0 < length (times_after times lag window time) = omega arith in
        after_rule times times refl (λ (t _ : ℕ). t - get_or (times_after times lag window time) 0 0 < bound) (old_in bound span some) lag window time
        (λ v e. let y : time - get_or (times_after times lag window time) 0 0 < window = after_young 0 some in omega arith)
        (λ v t _ e y p. p) i l

-- ---- the newest survives
newest_young : (times : List ℕ) (v time : ℕ) → time - get_or (join_times times (Some v) time) (length (join_times times (Some v) time) - 1) 0 < nanos
newest_young times v time = by_bool (is_new_at (length times) times time) is_new is_old
  where
    is_new : is_new_at (length times) times time ≡ true → time - get_or (join_times times (Some v) time) (length (join_times times (Some v) time) - 1) 0 < nanos
    is_new e = rw (join_new times v time e, snoc_new times time (length (times ++ (time ∷ [])) - 1) (omega (arith, snoc_length times time))) (omega arith)

    is_old : is_new_at (length times) times time ≡ false → time - get_or (join_times times (Some v) time) (length (join_times times (Some v) time) - 1) 0 < nanos
    is_old e =
        rw (join_old times v time e)
        (leb-false nanos (time - get_or times (length times - 1) 0) (sym (new_some (length times) times time (new_pos (length times) times time e)) ∙ e))

joined_some : (times : List ℕ) (v time : ℕ) → 1 ≤ length (join_times times (Some v) time)
joined_some times v time =
    by_bool (is_new_at (length times) times time)
    (λ e. omega (arith, snoc_length times time, ap length (join_new times v time e)))
    (λ e. omega (arith, new_pos (length times) times time e, ap length (join_old times v time e)))

newest_kept : (times : List ℕ) (v window time : ℕ) → nanos ≤ window → old_count (join_times times (Some v) time) window time < length (join_times times (Some v) time)
newest_kept times v window time w =
    let J = join_times times (Some v) time in
    lt_of_not-le (λ h. let o : window ≤ time - get_or J (length J - 1) 0 = old_each J window time (length J - 1) (omega (arith, joined_some times v time)) in omega (arith, newest_young times v time))

newest_high : (times lags : List ℕ) (v time : ℕ) → length lags ≡ length times → v ≤ get_or (join_lags times lags (Some v) time) (length (join_times times (Some v) time) - 1) 0
newest_high times lags v time same = by_bool (is_new_at (length times) times time) is_new is_old
  where
    is_new : is_new_at (length times) times time ≡ true → v ≤ get_or (join_lags times lags (Some v) time) (length (join_times times (Some v) time) - 1) 0
    is_new e = rw (join_new times v time e, lags_new times v time lags e, snoc_new lags v (length (times ++ (time ∷ [])) - 1) (omega (arith, snoc_length times time))) (omega arith)

    is_old : is_new_at (length times) times time ≡ false → v ≤ get_or (join_lags times lags (Some v) time) (length (join_times times (Some v) time) - 1) 0
    is_old e =
        let m = length lags - 1 in
        let z : length times - 1 ≡ m = omega arith in
        rw (join_old times v time e, lags_old times v time lags e, z, get_or-set_same lags m (max (get_or lags m 0) v) 0 (omega (arith, new_pos (length times) times time e))) (omega arith)

-- the lag that joined is at most the greatest peak that is left
pub newest_survives : (times lags : List ℕ) (v window time : ℕ) → length lags ≡ length times → nanos ≤ window → v ≤ greatest (lags_after times lags (Some v) window time)
unfolding lags_after
newest_survives times lags v window time same w =
    let J = join_times times (Some v) time in
    let K = join_lags times lags (Some v) time in
    let k = old_count J window time in
    let q : k + (length J - 1 - k) ≡ length J - 1 = omega (arith, newest_kept times v window time w) in
    let g : get_or (drop k K) (length J - 1 - k) 0 ≡ get_or K (length J - 1) 0 = get_or-drop k K (length J - 1 - k) 0 ∙ ap (λ (j : ℕ). get_or K j 0) q in
    omega (arith, get_or_greatest (drop k K) (length J - 1 - k), newest_high times lags v time same)

pub newest_some : (times lags : List ℕ) (v window time : ℕ) → length lags ≡ length times → nanos ≤ window → 1 ≤ length (lags_after times lags (Some v) window time)
unfolding lags_after
newest_some times lags v window time same w =
    let k = old_count (join_times times (Some v) time) window time in
    simp length-drop (omega (arith, newest_kept times v window time w, joined_same times lags (Some v) time same))
