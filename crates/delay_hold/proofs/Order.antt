-- Step 4 in the order of the code, old peaks first, is step 4 in the order of document 01, the lag first. Assumes nothing.
-- ---- as many lags as times
use Rattle.std.specs.Prelude.{◌≡◌, ℕ, zero, suc, ◌+◌, ◌-◌, ◌*◌, ◌<◌, ◌≤◌, max, Bool, true, false, leb, List, [], ◌∷◌, ◌++◌, length, get_or, take, drop, set, None, Option, Some}
use mathlib.Core.Path.{refl, sym, ap, ◌∙◌}
use mathlib.Core.Logic.{⊎_elim}
use native.Mathlib.Nat.{eq-zero-or-pos}
use native.Mathlib.Omega.{arith}
use borrow.Author.Tests.{le-leb, lt-leb, leb-true, leb-false, eq-eqb, ne_eqb}
use lib.ListN.{length-append, length-drop, length-set}
use lib.Seq.{drop-append-le, get_or-drop, get_or-take, length-take-le, drop-set-add}
use Rattle.base.specs.Limits.{nanos, span_limit}
use Rattle.base.specs.Choice.{pick}
use Rattle.base.specs.Lists.{padded, shifted}
use Rattle.base.proofs.Pads.{length_padded, get_or_padded, padded_set, padded_push, shifted_padded, take_padded}
use Rattle.delay_hold.specs.Step4Peaks.{is_new_at, old_count, join_times, join_lags, times_after, lags_after, most_peaks}
use Rattle.delay_hold.specs.Step4InPlace.{count_joined, times_joined, lags_joined, Placed}
use Rattle.delay_hold.proofs.Loops.{new_pos}

pub joined_same : (ts ls : List ℕ) (lag : Option ℕ) (time : ℕ) → length ls ≡ length ts → length (join_lags ts ls lag time) ≡ length (join_times ts lag time)
unfolding join_times join_lags
joined_same ts ls None time e = e
joined_same ts ls (Some l) time e = by_new (is_new_at (length ts) ts time) where
  by_new : (b : Bool) → length (pick b (ls ++ (l ∷ [])) (set ls (length ls - 1) (max (get_or ls (length ls - 1) 0) l))) ≡ length (pick b (ts ++ (time ∷ [])) ts)
  by_new true = simp length-append (omega arith)
  by_new false = simp length-set (omega arith)

pub after_same : (ts ls : List ℕ) (lag : Option ℕ) (w time : ℕ) → length ls ≡ length ts → length (lags_after ts ls lag w time) ≡ length (times_after ts lag w time)
unfolding times_after lags_after
after_same ts ls lag w time e = simp length-drop (omega (arith, joined_same ts ls lag time e))

-- ---- which are old
pub old_le : (ts : List ℕ) (w time : ℕ) → old_count ts w time ≤ length ts
unfolding old_count
old_le [] w time = omega arith
old_le (t ∷ ts) w time = by_test (leb w (time - t)) (old_le ts w time) where
  by_test : (b : Bool) → old_count ts w time ≤ length ts → pick b (suc (old_count ts w time)) 0 ≤ suc (length ts)
  by_test true r = omega arith
  by_test false r = omega arith

old_snoc : (ts : List ℕ) (w time : ℕ) → 1 ≤ w → old_count (ts ++ (time ∷ [])) w time ≡ old_count ts w time
unfolding old_count
old_snoc [] w time h = simp (lt-leb w (time - time) (omega arith))
old_snoc (t ∷ ts) w time h = rw (old_snoc ts w time h)

pub old_each : (ts : List ℕ) (w time i : ℕ) → i < old_count ts w time → w ≤ time - get_or ts i 0
unfolding old_count
old_each [] w time i h = absurd (omega arith)
old_each (t ∷ ts) w time i h = by_test (leb w (time - t)) refl (old_each ts w time) i h where
  by_test : (b : Bool) → leb w (time - t) ≡ b → ((i : ℕ) → i < old_count ts w time → w ≤ time - get_or ts i 0) → (i : ℕ) → i < pick b (suc (old_count ts w time)) 0 → w ≤ time - get_or (t ∷ ts) i 0
  by_test true e r zero h = leb-true w (time - t) e
  by_test true e r (suc i) h = r i (omega arith)
  by_test false e r i h = absurd (omega arith)

pub old_front : (ts : List ℕ) (w time : ℕ) → old_count ts w time < length ts → time - get_or ts (old_count ts w time) 0 < w
unfolding old_count
old_front [] w time h = absurd (omega arith)
old_front (t ∷ ts) w time h = by_test (leb w (time - t)) refl (old_front ts w time) h where
  by_test : (b : Bool) → leb w (time - t) ≡ b → (old_count ts w time < length ts → time - get_or ts (old_count ts w time) 0 < w) → pick b (suc (old_count ts w time)) 0 < suc (length ts)
      → time - get_or (t ∷ ts) (pick b (suc (old_count ts w time)) 0) 0 < w
  by_test true e r h = r (omega arith)
  by_test false e r h = leb-false w (time - t) e

-- ---- is the newest new
pub new_none : (n : ℕ) (ts : List ℕ) (time : ℕ) → n ≡ 0 → is_new_at n ts time ≡ true
new_none n ts time h = simp (eq-eqb n 0 h)

pub new_some : (n : ℕ) (ts : List ℕ) (time : ℕ) → 1 ≤ n → is_new_at n ts time ≡ leb nanos (time - get_or ts (n - 1) 0)
new_some n ts time h = simp (ne_eqb n 0 (omega arith))

-- ---- the two orders, of the peaks in use
module _ (ts : List ℕ) (w time : ℕ) (least : nanos ≤ w) where
  abbrev k : ℕ
  k = old_count ts w time

  length_left : length (drop k ts) ≡ length ts - k
  length_left = length-drop k ts

  -- the old ones gone or not, the newest is as new
  new_same : is_new_at (length ts - k) (padded most_peaks (drop k ts)) time ≡ is_new_at (length ts) ts time
  new_same = ⊎_elim (λ z. new_none (length ts - k) (padded most_peaks (drop k ts)) time z ∙ sym (⊎_elim (none z) (all_old z) (eq-zero-or-pos (length ts)))) left (eq-zero-or-pos (length ts - k)) where
    none : length ts - k ≡ 0 → length ts ≡ 0 → is_new_at (length ts) ts time ≡ true
    none z z' = new_none (length ts) ts time z'

    all_old : length ts - k ≡ 0 → 0 < length ts → is_new_at (length ts) ts time ≡ true
    all_old z p = new_some (length ts) ts time (omega arith) ∙ le-leb nanos (time - get_or ts (length ts - 1) 0) (omega (arith, old_each ts w time (length ts - 1) (omega (arith, old_le ts w time))))

    left : 0 < length ts - k → is_new_at (length ts - k) (padded most_peaks (drop k ts)) time ≡ is_new_at (length ts) ts time
    left p =
        let e : k + (length ts - k - 1) ≡ length ts - 1 = omega arith in
        new_some (length ts - k) (padded most_peaks (drop k ts)) time (omega arith) ∙ rw (get_or_padded most_peaks (drop k ts), get_or-drop, e) (sym (new_some (length ts) ts time (omega arith)))

  module _ (l : ℕ) where
    times_new : is_new_at (length ts) ts time ≡ true → times_after ts (Some l) w time ≡ drop k ts ++ (time ∷ [])
    unfolding times_after join_times
    times_new e = rw (e, old_snoc ts w time (omega arith), drop-append-le k ts (time ∷ []) (old_le ts w time))

    times_old : is_new_at (length ts) ts time ≡ false → times_after ts (Some l) w time ≡ drop k ts
    unfolding times_after join_times
    times_old e = rw e

    module _ (ls : List ℕ) (same : length ls ≡ length ts) where
      lags_new : is_new_at (length ts) ts time ≡ true → lags_after ts ls (Some l) w time ≡ drop k ls ++ (l ∷ [])
      unfolding lags_after join_times join_lags
      lags_new e = rw (e, old_snoc ts w time (omega arith), drop-append-le k ls (l ∷ []) (omega (arith, old_le ts w time)))

      lags_old : is_new_at (length ts) ts time ≡ false → lags_after ts ls (Some l) w time ≡ drop k (set ls (length ls - 1) (max (get_or ls (length ls - 1) 0) l))
      unfolding lags_after join_times join_lags
      lags_old e = rw e

-- the room that a new peak wants
pub far : (ts : List ℕ) (n : ℕ) → ((i : ℕ) → i + 1 < n → get_or ts i 0 + nanos ≤ get_or ts (i + 1) 0) → (k j : ℕ) → k + j < n → get_or ts k 0 + j * nanos ≤ get_or ts (k + j) 0
far ts n sp k zero h = let e : k + 0 ≡ k = omega arith in rw e (omega arith)
far ts n sp k (suc j) h = let e : k + suc j ≡ k + j + 1 = omega arith in rw e (omega (arith, far ts n sp k j (omega arith), sp (k + j) (omega arith)))

-- ---- what the code leaves is what the document says, of the peaks in use
module _ (ts ls : List ℕ) (w time : ℕ) (same : length ls ≡ length ts) (in600 : length ts ≤ most_peaks) (least : nanos ≤ w) (most : w ≤ span_limit)
    (spaced : (i : ℕ) → i + 1 < length ts → get_or ts i 0 + nanos ≤ get_or ts (i + 1) 0) where
  abbrev gone : ℕ
  gone = old_count ts w time

  abbrev m : ℕ
  m = length ts - gone

  abbrev P : List ℕ
  P = padded most_peaks (drop gone ts)

  abbrev Q : List ℕ
  Q = padded most_peaks (drop gone ls)

  pub room : is_new_at m P time ≡ true → m < most_peaks
  room e = ⊎_elim (λ z. omega arith) some (eq-zero-or-pos m) where
    some : 0 < m → m < most_peaks
    some p =
        let f : nanos ≤ time - get_or P (m - 1) 0 = leb-true nanos (time - get_or P (m - 1) 0) (sym (new_some m P time (omega arith)) ∙ e) in
        let g : get_or P (m - 1) 0 ≡ get_or ts (gone + (m - 1)) 0 = get_or_padded most_peaks (drop gone ts) (m - 1) ∙ get_or-drop gone ts (m - 1) 0 in
        omega (arith, far ts (length ts) spaced gone (m - 1) (omega arith), old_front ts w time (omega arith))

  left_long : length (drop gone ts) ≡ m
  left_long = length-drop gone ts

  lags_long : length (drop gone ls) ≡ m
  lags_long = length-drop gone ls ∙ omega arith

  count_of : (l : ℕ) (b : Bool) → is_new_at (length ts) ts time ≡ b → count_joined m P (Some l) time ≡ length (times_after ts (Some l) w time)
  count_of l true e = rw (new_same ts w time least, e, times_new ts w time least l e) (simp (length-append, length-drop) (omega arith))
  count_of l false e = rw (new_same ts w time least, e, times_old ts w time least l e) (sym left_long)

  pub count_is : (lag : Option ℕ) → count_joined m P lag time ≡ length (times_after ts lag w time)
  unfolding times_after join_times
  count_is None = sym left_long
  count_is (Some l) = count_of l (is_new_at (length ts) ts time) refl

  pub count_in_law : (lag : Option ℕ) → length (times_after ts lag w time) ≤ most_peaks
  unfolding times_after join_times
  count_in_law None = omega (arith, left_long)
  count_in_law (Some l) = by_new (is_new_at (length ts) ts time) refl where
    by_new : (b : Bool) → is_new_at (length ts) ts time ≡ b → length (times_after ts (Some l) w time) ≤ most_peaks
    by_new true e = let r : m < most_peaks = room (new_same ts w time least ∙ e) in rw (times_new ts w time least l e) (simp length-append (omega (arith, left_long)))
    by_new false e = rw (times_old ts w time least l e) (omega (arith, left_long))

  times_of : (l : ℕ) (b : Bool) → is_new_at (length ts) ts time ≡ b → times_joined m P (Some l) time ≡ padded most_peaks (times_after ts (Some l) w time)
  times_of l true e =
      let r : m < most_peaks = room (new_same ts w time least ∙ e) in
      rw (new_same ts w time least, e, times_new ts w time least l e) (ap (λ (j : ℕ). set P j time) (sym left_long) ∙ padded_push most_peaks (drop gone ts) time (omega (arith, left_long)))
  times_of l false e = rw (new_same ts w time least, e, times_old ts w time least l e)

  pub times_is : (lag : Option ℕ) → times_joined m P lag time ≡ padded most_peaks (times_after ts lag w time)
  unfolding times_after join_times
  times_is None = refl
  times_is (Some l) = times_of l (is_new_at (length ts) ts time) refl

  lags_of_law : (l : ℕ) (b : Bool) → is_new_at (length ts) ts time ≡ b → lags_joined m P Q (Some l) time ≡ padded most_peaks (lags_after ts ls (Some l) w time)
  lags_of_law l true e =
      let r : m < most_peaks = room (new_same ts w time least ∙ e) in
      rw (new_same ts w time least, e, lags_new ts w time least l ls same e) (ap (λ (j : ℕ). set Q j l) (sym lags_long) ∙ padded_push most_peaks (drop gone ls) l (omega (arith, lags_long)))
  lags_of_law l false e =
      let p : 1 ≤ m = new_pos m P time (new_same ts w time least ∙ e) in
      let f : length ls - 1 ≡ gone + (m - 1) = omega arith in
      rw (new_same ts w time least, e, lags_old ts w time least l ls same e, f, drop-set-add gone ls (m - 1) (max (get_or ls (gone + (m - 1)) 0) l), get_or_padded most_peaks (drop gone ls) (m - 1), get_or-drop gone ls (m - 1) 0)
      (padded_set most_peaks (drop gone ls) (m - 1) (max (get_or ls (gone + (m - 1)) 0) l) (omega (arith, lags_long)))

  pub lags_is : (lag : Option ℕ) → lags_joined m P Q lag time ≡ padded most_peaks (lags_after ts ls lag w time)
  unfolding lags_after join_times join_lags
  lags_is None = refl
  lags_is (Some l) = lags_of_law l (is_new_at (length ts) ts time) refl

-- ---- the same of the lent lists, as `peaks_next` calls its parts
module _ (n : ℕ) (ts ls : List ℕ) (w time : ℕ) (ok : Placed n ts ls w) (k : ℕ) (k-is : k ≡ old_count (take n ts) w time) where
  abbrev T : List ℕ
  T = take n ts

  abbrev L : List ℕ
  L = take n ls

  pub t_long : length T ≡ n
  t_long = length-take-le n ts (omega (arith, ok.count, ok.times_long))

  pub l_long : length L ≡ n
  l_long = length-take-le n ls (omega (arith, ok.count, ok.lags_long))

  pub k_in : k ≤ n
  k_in = omega (arith, old_le T w time, t_long)

  spaced_in : (i : ℕ) → i + 1 < length T → get_or T i 0 + nanos ≤ get_or T (i + 1) 0
  spaced_in i h = let g : i + 1 < n = omega (arith, t_long) in let f : i < n = omega arith in rw (get_or-take n ts i 0 f, get_or-take n ts (i + 1) 0 g) (ok.spaced i g)

  module _ (ts₁ ls₁ : List ℕ) (t-is : ts₁ ≡ shifted k ts) (l-is : ls₁ ≡ shifted k ls) where
    t_pad : ts₁ ≡ padded most_peaks (drop (old_count T w time) T)
    t_pad = t-is ∙ ap (λ (j : ℕ). shifted j ts) k-is ∙ ap (shifted (old_count T w time)) ok.times_padded ∙ shifted_padded most_peaks (old_count T w time) T (old_le T w time) (omega (arith, t_long, ok.count))

    l_pad : ls₁ ≡ padded most_peaks (drop (old_count T w time) L)
    l_pad = l-is ∙ ap (λ (j : ℕ). shifted j ls) k-is ∙ ap (shifted (old_count T w time)) ok.lags_padded ∙ shifted_padded most_peaks (old_count T w time) L (omega (arith, old_le T w time, t_long, l_long)) (omega (arith, l_long, ok.count))

    m_is : n - k ≡ length T - old_count T w time
    m_is = omega (arith, t_long)

    long : (length ts₁ ≡ most_peaks) × (length ls₁ ≡ most_peaks)
    long = (
      ap length t_pad ∙ length_padded most_peaks (drop (old_count T w time) T) (simp length-drop (omega (arith, t_long, ok.count))),
      ap length l_pad ∙ length_padded most_peaks (drop (old_count T w time) L) (simp length-drop (omega (arith, l_long, ok.count))),
    )

    pub join_asks : (n - k ≤ length ts₁) × (n - k ≤ length ls₁) × (is_new_at (n - k) ts₁ time ≡ true → (n - k < length ts₁) × (n - k < length ls₁))
    join_asks = (
      omega (arith, long.0, ok.count),
      omega (arith, long.1, ok.count),
      λ e. let r : length T - old_count T w time < most_peaks = room T L w time (l_long ∙ sym t_long) (omega (arith, t_long, ok.count)) ok.window_least ok.window_most spaced_in (rw (m_is, t_pad) at e) in (omega (arith, long.0, m_is), omega (arith, long.1, m_is)),
    )

    module _ (lag : Option ℕ) where
      count_ok : count_joined (n - k) ts₁ lag time ≡ length (times_after T lag w time)
      count_ok = rw (m_is, t_pad) (count_is T L w time (l_long ∙ sym t_long) (omega (arith, t_long, ok.count)) ok.window_least ok.window_most spaced_in lag)

      times_ok : times_joined (n - k) ts₁ lag time ≡ padded most_peaks (times_after T lag w time)
      times_ok = rw (m_is, t_pad) (times_is T L w time (l_long ∙ sym t_long) (omega (arith, t_long, ok.count)) ok.window_least ok.window_most spaced_in lag)

      lags_ok : lags_joined (n - k) ts₁ ls₁ lag time ≡ padded most_peaks (lags_after T L lag w time)
      lags_ok = rw (m_is, t_pad, l_pad) (lags_is T L w time (l_long ∙ sym t_long) (omega (arith, t_long, ok.count)) ok.window_least ok.window_most spaced_in lag)

      -- all three
      pub peaks_are :
          (count_joined (n - k) ts₁ lag time ≡ length (times_after T lag w time))
          × (times_joined (n - k) ts₁ lag time ≡ padded most_peaks (times_after T lag w time))
          × (lags_joined (n - k) ts₁ ls₁ lag time ≡ padded most_peaks (lags_after T L lag w time))
      peaks_are = (count_ok, times_ok, lags_ok)

-- ---- and what the caller of `peaks_next` wants of the lists that it leaves
module _ (n : ℕ) (ts ls : List ℕ) (w time : ℕ) (ok : Placed n ts ls w) (lag : Option ℕ) where
  pub after_in : length (times_after (take n ts) lag w time) ≤ most_peaks
  after_in =
      count_in_law (take n ts) (take n ls) w time (l_long n ts ls w time ok (old_count (take n ts) w time) refl ∙ sym (t_long n ts ls w time ok (old_count (take n ts) w time) refl))
      (omega (arith, t_long n ts ls w time ok (old_count (take n ts) w time) refl, ok.count)) ok.window_least ok.window_most (spaced_in n ts ls w time ok (old_count (take n ts) w time) refl) lag

  pub lags_left : take (length (times_after (take n ts) lag w time)) (padded most_peaks (lags_after (take n ts) (take n ls) lag w time)) ≡ lags_after (take n ts) (take n ls) lag w time
  lags_left =
      take_padded most_peaks (lags_after (take n ts) (take n ls) lag w time) (length (times_after (take n ts) lag w time))
      (after_same (take n ts) (take n ls) lag w time (l_long n ts ls w time ok (old_count (take n ts) w time) refl ∙ sym (t_long n ts ls w time ok (old_count (take n ts) w time) refl)))

  pub after_fits : (r : ℕ) (ls₁ : List ℕ) → r ≡ length (times_after (take n ts) lag w time) → ls₁ ≡ padded most_peaks (lags_after (take n ts) (take n ls) lag w time) → r ≤ length ls₁
  after_fits r ls₁ e f =
      let same = after_same (take n ts) (take n ls) lag w time (l_long n ts ls w time ok (old_count (take n ts) w time) refl ∙ sym (t_long n ts ls w time ok (old_count (take n ts) w time) refl)) in
      omega (arith, after_in, ap length f ∙ length_padded most_peaks (lags_after (take n ts) (take n ls) lag w time) (omega (arith, after_in, same)))
