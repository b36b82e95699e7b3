-- Each step of a push, as the code makes it on the 11 lent places, keeps a whole window whole. Assumes nothing.
use Prim.Native.Nat.{ℕ, zero, suc, ◌+◌, ◌-◌, ◌*◌, ◌<◌, ◌≤◌}
use mathlib.Core.Bool.{Bool, true, false}
use mathlib.Core.Path.{◌≡◌, refl, sym, ap, ◌∙◌}
use mathlib.Core.Logic.{◌⊎◌, ⊎_elim}
use mathlib.Core.List.{List}
use native.Mathlib.Nat.{add-mul, add_assoc, add-zero, not-suc-le-zero, eq-or-lt_of_le}
use native.Mathlib.Omega.{arith}
use borrow.Author.Tests.{le-leb, leb-true}
use lib.Dec.{leb}
use lib.ListN.{length, get_or, set, length-set}
use lib.Seq.{get_or-set_same, get_or-set_other}
use Rattle.base.specs.Choice.{pick}
use Rattle.base.specs.Lists.{shifted, bumped, sum_from, row_sum}
use Rattle.base.specs.Limits.{nanos, time_limit, window_reach}
use Rattle.base.proofs.Points.{shifted_at, sum_cong, sum_bump, row_shifted}
use Rattle.base.proofs.Toward.{shifted_length}
use Rattle.base.proofs.Flat.{row_le, flat_lt, same_row}
use Rattle.rules_window.specs.Window.{Window, stale, opens, bucket_of, counted}
use Rattle.rules_window.specs.InPlace.{shifted_by, dropped_in_place, opened_in_place, pushed_in_place}
use Rattle.rules_window.specs.Checks.{newest_of, newest}
use Rattle.rules_window.proofs.Stales.{stale_le, stale_old, stale_next, opens_used}
use Rattle.rules_window.proofs.WholeAt.{Whole, later, span_ends, span_le, blank_row}

-- ---- seconds go
pub drop_whole : (w : Window) → Whole w → (k : ℕ) → k ≤ w.seconds → Whole (shifted_by k w)
drop_whole w h k l =
    record {
      few = omega (arith, h.few);
      ls = shifted_length k w.starts ∙ h.ls;
      lt = shifted_length k w.totals ∙ h.lt;
      lc = shifted_length (k * w.buckets) w.counts ∙ h.lc;
      gap = λ i g. rw (shifted_at k w.starts (i + 1), shifted_at k w.starts i, ← add_assoc k i 1) (h.gap (k + i) (omega arith));
      span = span_le (w.seconds - k) (shifted k w.starts) window_reach ends;
      early = λ i g. rw (shifted_at k w.starts i) (h.early (k + i) (omega arith));
      small = λ i g. rw (shifted_at k w.totals i) (h.small (k + i) (omega arith));
      sums = λ i g. row_shifted w.buckets k w.counts i ∙ (h.sums (k + i) (omega arith) ∙ sym (shifted_at k w.totals i));
      blank_s = λ i g. shifted_at k w.starts i ∙ h.blank_s (k + i) (omega arith);
      blank_t = λ i g. shifted_at k w.totals i ∙ h.blank_t (k + i) (omega arith);
      blank_c = λ i g. shifted_at (k * w.buckets) w.counts i ∙ h.blank_c (k * w.buckets + i) (place i g);
    }
  where
    ends : 0 < w.seconds - k → get_or (shifted k w.starts) (w.seconds - k - 1) 0 - get_or (shifted k w.starts) 0 0 ≤ window_reach
    ends g =
        let q : k + (w.seconds - k - 1) ≡ w.seconds - 1 = omega arith in
        rw (shifted_at k w.starts (w.seconds - k - 1), shifted_at k w.starts 0, q, add-zero k)
        (omega (arith, span_ends w.seconds w.starts (omega arith), h.span, later w h 0 k (omega arith) (omega arith)))

    place : (i : ℕ) → (w.seconds - k) * w.buckets ≤ i → w.seconds * w.buckets ≤ k * w.buckets + i
    place i g =
        let q : w.seconds - k + k ≡ w.seconds = omega arith in
        omega (arith, add-mul (w.seconds - k) k w.buckets, ap (λ (x : ℕ). x * w.buckets) q)

pub dropped_whole : (t : ℕ) (w : Window) → Whole w → Whole (dropped_in_place t w)
unfolding dropped_in_place
dropped_whole t w h = drop_whole w h (stale t w.seconds w.starts) (stale_le t w.seconds w.starts)

-- ---- a second opens
pub opens_old : (t n : ℕ) (xs : List ℕ) → opens t n xs ≡ true → 0 < n → nanos ≤ t - get_or xs (n - 1) 0
opens_old t zero xs h l = absurd (not-suc-le-zero l)
opens_old t (suc n) xs h l = let q : suc n - 1 ≡ n = omega arith in rw q (leb-true _ _ h)

below_or : (i n : ℕ) → i < n + 1 → (i ≡ n) ⊎ (i < n)
below_or i n l = eq-or-lt_of_le (omega arith)

abbrev pub appended : ℕ → Window → Window
appended t w = record { seconds = w.seconds + 1; buckets = w.buckets; width = w.width; starts = set w.starts w.seconds t; totals = w.totals; counts = w.counts }

module _ (t : ℕ) (w : Window) (h : Whole w) (o : opens t w.seconds w.starts ≡ true) (room : w.seconds < 11) (soon : t ≤ time_limit) (near : 0 < w.seconds → t - get_or w.starts 0 0 ≤ window_reach) where
  new_at_law : get_or (set w.starts w.seconds t) w.seconds 0 ≡ t
  new_at_law = get_or-set_same w.starts w.seconds t 0 (omega (arith, h.ls))

  old_at : (i : ℕ) → (i ≡ w.seconds → ⊥) → get_or (set w.starts w.seconds t) i 0 ≡ get_or w.starts i 0
  old_at i g = get_or-set_other w.starts w.seconds i t 0 g

  at_new : (i : ℕ) → i ≡ w.seconds → get_or (set w.starts w.seconds t) i 0 ≡ t
  at_new i e = rw e new_at_law

  append_gap : (i : ℕ) → i + 1 < w.seconds + 1 → nanos ≤ get_or (set w.starts w.seconds t) (i + 1) 0 - get_or (set w.starts w.seconds t) i 0
  append_gap i g = ⊎_elim last inner (below_or (i + 1) w.seconds g)
    where
      last : i + 1 ≡ w.seconds → nanos ≤ get_or (set w.starts w.seconds t) (i + 1) 0 - get_or (set w.starts w.seconds t) i 0
      last q =
          let p : w.seconds - 1 ≡ i = omega arith in
          rw (at_new (i + 1) q, old_at i (λ z. omega arith)) (rw p at (opens_old t w.seconds w.starts o (omega arith)))

      inner : i + 1 < w.seconds → nanos ≤ get_or (set w.starts w.seconds t) (i + 1) 0 - get_or (set w.starts w.seconds t) i 0
      inner l = rw (old_at (i + 1) (λ z. omega arith), old_at i (λ z. omega arith)) (h.gap i l)

  append_span : 0 < w.seconds + 1 → get_or (set w.starts w.seconds t) (w.seconds + 1 - 1) 0 - get_or (set w.starts w.seconds t) 0 0 ≤ window_reach
  append_span g = let q : w.seconds + 1 - 1 ≡ w.seconds = omega arith in rw (q, new_at_law) (⊎_elim none some (eq-or-lt_of_le (omega arith)))
    where
      none : 0 ≡ w.seconds → t - get_or (set w.starts w.seconds t) 0 0 ≤ window_reach
      none z = rw (at_new 0 z) (omega arith)

      some : 0 < w.seconds → t - get_or (set w.starts w.seconds t) 0 0 ≤ window_reach
      some l = rw (old_at 0 (λ z. omega arith)) (near l)

  pub append_whole : Whole (appended t w)
  append_whole =
      record {
        few = omega arith;
        ls = length-set w.starts w.seconds t ∙ h.ls;
        lt = h.lt;
        lc = h.lc;
        gap = append_gap;
        span = span_le (w.seconds + 1) (set w.starts w.seconds t) window_reach append_span;
        early = λ i g. ⊎_elim (λ e. rw (at_new i e) soon) (λ l. rw (old_at i (λ z. omega arith)) (h.early i l)) (below_or i w.seconds g);
        small = λ i g. ⊎_elim (λ e. omega (arith, h.blank_t i (omega arith))) (λ l. h.small i l) (below_or i w.seconds g);
        sums = λ i g. ⊎_elim (λ e. blank_row w h i (omega arith) ∙ sym (h.blank_t i (omega arith))) (λ l. h.sums i l) (below_or i w.seconds g);
        blank_s = λ i g. old_at i (λ z. omega arith) ∙ h.blank_s i (omega arith);
        blank_t = λ i g. h.blank_t i (omega arith);
        blank_c = λ i g. h.blank_c i (omega (arith, row_le w.seconds (w.seconds + 1) w.buckets (omega arith)));
      }

pub opened_yes_is : (t : ℕ) (w : Window) → opens t w.seconds w.starts ≡ true → opened_in_place t w ≡ appended t w
unfolding opened_in_place
opened_yes_is t w o = rw o

pub opened_no_is : (t : ℕ) (w : Window) → opens t w.seconds w.starts ≡ false → opened_in_place t w ≡ w
unfolding opened_in_place
opened_no_is t w o = rw o

-- there is room for a second that opens: eleven seconds in use reach back 10 s, and one more would make 11 s
pub open_fits : (t : ℕ) (w : Window) → Whole w → (0 < w.seconds → t - get_or w.starts 0 0 ≤ window_reach) → opens t w.seconds w.starts ≡ true → w.seconds < 11
open_fits t w h near o = ⊎_elim full (λ l. l) (eq-or-lt_of_le h.few)
  where
    full : w.seconds ≡ 11 → w.seconds < 11
    full e = omega (arith, near (omega arith), opens_old t w.seconds w.starts o (omega arith), later w h 0 (w.seconds - 1) (omega arith) (omega arith))

pub opened_whole : (t : ℕ) (w : Window) → Whole w → t ≤ time_limit → (0 < w.seconds → t - get_or w.starts 0 0 ≤ window_reach) → Whole (opened_in_place t w)
opened_whole t w h soon near = go (opens t w.seconds w.starts) refl
  where
    go : (b : Bool) → opens t w.seconds w.starts ≡ b → Whole (opened_in_place t w)
    go true e = rw (opened_yes_is t w e) (append_whole t w h e (open_fits t w h near e) soon near)
    go false e = rw (opened_no_is t w e) h

-- ---- a lag counts
module _ (xs : List ℕ) (p : ℕ) where
  pub bumped_same : p < length xs → get_or (bumped p xs) p 0 ≡ get_or xs p 0 + 1
  bumped_same l = get_or-set_same xs p (get_or xs p 0 + 1) 0 l

  pub bumped_other : (i : ℕ) → (i ≡ p → ⊥) → get_or (bumped p xs) i 0 ≡ get_or xs i 0
  bumped_other i g = get_or-set_other xs p i (get_or xs p 0 + 1) 0 g

pub bucket_lt : (lag W B : ℕ) → 0 < B → bucket_of lag W B < B
bucket_lt lag W B l = omega arith

-- row r of the counts, one more at a place of row q
module _ (B : ℕ) (cs : List ℕ) (q b : ℕ) (l : b < B) (fits : q * B + b < length cs) where
  pub row_bumped : row_sum B (bumped (q * B + b) cs) q ≡ row_sum B cs q + 1
  unfolding sum_from
  row_bumped = sum_bump _ _ B b l (bumped_same cs (q * B + b) fits) (λ i g. bumped_other cs (q * B + b) (q * B + i) (λ z. g (omega arith)))

  pub row_other : (r : ℕ) → (r ≡ q → ⊥) → row_sum B (bumped (q * B + b) cs) r ≡ row_sum B cs r
  unfolding sum_from
  row_other r g = sum_cong _ _ B (λ i k. bumped_other cs (q * B + b) (r * B + i) (λ z. g (same_row B r i q b k l z)))

pub counted_whole : (lag : ℕ) (w : Window) → Whole w → 0 < w.seconds → 0 < w.buckets → get_or w.totals (w.seconds - 1) 0 < 4294967295 → Whole (counted lag w)
unfolding counted
counted_whole lag w h pos some room =
    record {
      few = h.few;
      ls = h.ls;
      lt = length-set w.totals q _ ∙ h.lt;
      lc = length-set w.counts p _ ∙ h.lc;
      gap = h.gap;
      span = h.span;
      early = h.early;
      small = λ i g. small' i g (eq-or-lt_of_le (omega arith));
      sums = λ i g. sums' i g (eq-or-lt_of_le (omega arith));
      blank_s = h.blank_s;
      blank_t = λ i g. bumped_other w.totals q i (λ z. omega arith) ∙ h.blank_t i g;
      blank_c = λ i g. bumped_other w.counts p i (λ z. omega (arith, inside)) ∙ h.blank_c i g;
    }
  where
    q : ℕ
    q = w.seconds - 1

    b : ℕ
    b = bucket_of lag w.width w.buckets

    p : ℕ
    p = q * w.buckets + b

    bl : b < w.buckets
    bl = bucket_lt lag w.width w.buckets some

    inside : p < w.seconds * w.buckets
    inside = flat_lt q w.seconds w.buckets b (omega arith) bl

    fits : p < length w.counts
    fits = omega (arith, inside, h.lc, row_le w.seconds 11 w.buckets h.few)

    small' : (i : ℕ) → i < w.seconds → (i ≡ q) ⊎ (i < q) → get_or (bumped q w.totals) i 0 ≤ 4294967295
    small' i g s = ⊎_elim (λ e. rw (e, bumped_same w.totals q (omega (arith, h.lt, h.few))) (omega arith)) (λ l. rw (bumped_other w.totals q i (λ z. omega arith)) (h.small i g)) s

    sums' : (i : ℕ) → i < w.seconds → (i ≡ q) ⊎ (i < q) → row_sum w.buckets (bumped p w.counts) i ≡ get_or (bumped q w.totals) i 0
    sums' i g s = ⊎_elim here there s
      where
        here : i ≡ q → row_sum w.buckets (bumped p w.counts) i ≡ get_or (bumped q w.totals) i 0
        here e = rw (e, row_bumped w.buckets w.counts q b bl fits, bumped_same w.totals q (omega (arith, h.lt, h.few))) (ap (λ (x : ℕ). x + 1) (h.sums q (omega arith)))

        there : i < q → row_sum w.buckets (bumped p w.counts) i ≡ get_or (bumped q w.totals) i 0
        there l = row_other w.buckets w.counts q b bl fits i (λ z. omega arith) ∙ (h.sums i g ∙ sym (bumped_other w.totals q i (λ z. omega arith)))

-- ---- a push
pub opens_dropped : (t n : ℕ) (xs : List ℕ) → opens t (n - stale t n xs) (shifted (stale t n xs) xs) ≡ opens t n xs
opens_dropped t zero xs = refl
opens_dropped t (suc n) xs = go (suc n - stale t (suc n) xs) refl
  where
    go : (m : ℕ) → suc n - stale t (suc n) xs ≡ m → opens t m (shifted (stale t (suc n) xs) xs) ≡ opens t (suc n) xs
    go zero e = sym (le-leb nanos (t - get_or xs n 0) (omega (arith, stale_old t (suc n) xs n (omega arith))))
    go (suc m) e =
        let q : stale t (suc n) xs + m ≡ n = omega (arith, stale_le t (suc n) xs) in
        rw (shifted_at (stale t (suc n) xs) xs m, q)

pub near : (t : ℕ) (w : Window) → Whole w → 0 < (dropped_in_place t w).seconds → t - get_or (dropped_in_place t w).starts 0 0 ≤ window_reach
unfolding dropped_in_place
near t w h l =
    let k : ℕ = stale t w.seconds w.starts in
    rw (shifted_at k w.starts 0, add-zero k) (stale_next t w.seconds w.starts (omega (arith, h.few, h.ls)) (omega arith))

pub room_dropped : (t : ℕ) (w : Window) (m : ℕ) → 0 < m → newest t w < m → newest t (dropped_in_place t w) < m
unfolding newest_of dropped_in_place
room_dropped t w m pos h = rw (opens_dropped t w.seconds w.starts) (go (opens t w.seconds w.starts) refl h)
  where
    k : ℕ
    k = stale t w.seconds w.starts

    go : (b : Bool) → opens t w.seconds w.starts ≡ b → pick b 0 (get_or w.totals (w.seconds - 1) 0) < m → pick b 0 (get_or (shifted k w.totals) (w.seconds - k - 1) 0) < m
    go true e g = pos
    go false e g =
        let u : 0 < w.seconds - k = opens_used t (w.seconds - k) (shifted k w.starts) (opens_dropped t w.seconds w.starts ∙ e) in
        let q : k + (w.seconds - k - 1) ≡ w.seconds - 1 = omega arith in
        rw (shifted_at k w.totals (w.seconds - k - 1), q) g

pub room_opened : (t : ℕ) (w : Window) (m : ℕ) → Whole w → newest t w < m → get_or (opened_in_place t w).totals ((opened_in_place t w).seconds - 1) 0 < m
unfolding newest_of opened_in_place
room_opened t w m h g = go (opens t w.seconds w.starts) g
  where
    go : (b : Bool) → pick b 0 (get_or w.totals (w.seconds - 1) 0) < m → get_or w.totals (pick b (w.seconds + 1) w.seconds - 1) 0 < m
    go true l = omega (arith, h.blank_t (w.seconds + 1 - 1) (omega arith))
    go false l = l

pub opened_pos : (t : ℕ) (w : Window) → 0 < (opened_in_place t w).seconds
unfolding opened_in_place
opened_pos t w = go w.seconds
  where
    some : (b : Bool) (n : ℕ) → 0 < pick b (suc n + 1) (suc n)
    some true n = omega arith
    some false n = omega arith

    go : (n : ℕ) → 0 < pick (opens t n w.starts) (n + 1) n
    go zero = omega arith
    go (suc n) = some (leb nanos (t - get_or w.starts n 0)) n

pub pushed_whole : (lag t : ℕ) (w : Window) → Whole w → 0 < w.buckets → t ≤ time_limit → newest t w < 4294967295 → Whole (pushed_in_place lag t w)
unfolding pushed_in_place dropped_in_place opened_in_place
pushed_whole lag t w h some soon room =
    let p : Whole (dropped_in_place t w) = dropped_whole t w h in
    let o : Whole (opened_in_place t (dropped_in_place t w)) = opened_whole t (dropped_in_place t w) p soon (near t w h) in
    counted_whole lag (opened_in_place t (dropped_in_place t w)) o (opened_pos t (dropped_in_place t w)) some (room_opened t (dropped_in_place t w) 4294967295 p (room_dropped t w 4294967295 (omega arith) room))
