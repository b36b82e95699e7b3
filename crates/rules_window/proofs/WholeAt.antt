-- A whole window, point by point. Assumes nothing.
use Prim.Native.Nat.{ℕ, zero, suc, ◌+◌, ◌-◌, ◌*◌, ◌<◌, ◌≤◌}
use mathlib.Core.Bool.{true}
use mathlib.Core.Path.{◌≡◌}
use mathlib.Core.List.{List}
use native.Mathlib.Nat.{add-zero, not-suc-le-zero}
use native.Mathlib.Omega.{arith}
use borrow.Author.Tests.{eq-eqb, eqb-true, le-leb, leb-true}
use lib.ListN.{length, get_or}
use lib.Dec.{leb}
use Rattle.base.specs.Lists.{sum_from, row_sum, blank_from}
use Rattle.base.proofs.Points.{both_true, true_both, all_at, all_intro, blank_at, blank_intro, sum_zero}
use Rattle.base.proofs.Flat.{row_le}
use Rattle.base.specs.Limits.{nanos, time_limit, window_reach}
use Rattle.base.specs.Rows.{apart, up_to, span_of}
use Rattle.rules_window.specs.Window.{Window}
use Rattle.rules_window.specs.WholeWindow.{summed, whole_window, Sound}

pub record Whole (w : Window) : Type 0 where
  pub few : w.seconds ≤ 11
  pub ls : length w.starts ≡ 11
  pub lt : length w.totals ≡ 11
  pub lc : length w.counts ≡ 11 * w.buckets
  pub gap : (i : ℕ) → i + 1 < w.seconds → nanos ≤ get_or w.starts (i + 1) 0 - get_or w.starts i 0
  pub span : span_of w.seconds w.starts ≤ window_reach
  pub early : (i : ℕ) → i < w.seconds → get_or w.starts i 0 ≤ time_limit
  pub small : (i : ℕ) → i < w.seconds → get_or w.totals i 0 ≤ 4294967295
  pub sums : (i : ℕ) → i < w.seconds → row_sum w.buckets w.counts i ≡ get_or w.totals i 0
  pub blank_s : (i : ℕ) → w.seconds ≤ i → get_or w.starts i 0 ≡ 0
  pub blank_t : (i : ℕ) → w.seconds ≤ i → get_or w.totals i 0 ≡ 0
  pub blank_c : (i : ℕ) → w.seconds * w.buckets ≤ i → get_or w.counts i 0 ≡ 0

-- the parts of check 6, each by itself
pub record Parts (w : Window) : Type 0 where
  pub within : leb w.seconds 11 ≡ true
  pub apart_is : apart nanos (w.seconds - 1) w.starts ≡ true
  pub span_is : leb (span_of w.seconds w.starts) window_reach ≡ true
  pub summed_is : summed w.seconds w.buckets w.totals w.counts ≡ true
  pub starts_blank : blank_from w.seconds w.starts ≡ true
  pub totals_blank : blank_from w.seconds w.totals ≡ true
  pub counts_blank : blank_from (w.seconds * w.buckets) w.counts ≡ true
  pub timely_is : up_to time_limit w.seconds w.starts ≡ true

pub parts_of : (w : Window) → whole_window w ≡ true → Parts w
unfolding whole_window
parts_of w h =
    let h1 = both_true _ _ h in
    let h2 = both_true _ _ h1.1 in
    let h3 = both_true _ _ h2.1 in
    let h4 = both_true _ _ h3.1 in
    let h5 = both_true _ _ h4.1 in
    let h6 = both_true _ _ h5.1 in
    let h7 = both_true _ _ h6.1 in
    record {
      within = h1.0;
      apart_is = h2.0;
      span_is = h3.0;
      summed_is = h4.0;
      starts_blank = h5.0;
      totals_blank = h6.0;
      counts_blank = h7.0;
      timely_is = h7.1;
    }

pub of_parts : (w : Window) → Parts w → whole_window w ≡ true
unfolding whole_window
of_parts w p =
    true_both _ _ p.within
    (true_both _ _ p.apart_is
    (true_both _ _ p.span_is
    (true_both _ _ p.summed_is
    (true_both _ _ p.starts_blank
    (true_both _ _ p.totals_blank
    (true_both _ _ p.counts_blank p.timely_is))))))

pub whole_of : (w : Window) → Sound w → Whole w
unfolding apart up_to summed
whole_of w s =
    let p = parts_of w s.whole in
    record {
      few = leb-true _ _ p.within;
      ls = s.shaped.starts_long;
      lt = s.shaped.totals_long;
      lc = s.shaped.counts_long;
      gap = λ i l. leb-true _ _ (all_at _ _ p.apart_is i (omega arith));
      span = leb-true _ _ p.span_is;
      early = λ i l. leb-true _ _ (all_at _ _ p.timely_is i l);
      small = λ i l. leb-true _ _ (both_true _ _ (all_at _ _ p.summed_is i l)).0;
      sums = λ i l. eqb-true _ _ (both_true _ _ (all_at _ _ p.summed_is i l)).1;
      blank_s = blank_at _ _ p.starts_blank;
      blank_t = blank_at _ _ p.totals_blank;
      blank_c = blank_at _ _ p.counts_blank;
    }

pub of_whole : (w : Window) → Whole w → whole_window w ≡ true
unfolding apart up_to summed
of_whole w h =
    of_parts w
    (record {
      within = le-leb _ _ h.few;
      apart_is = all_intro _ _ (λ i l. le-leb _ _ (h.gap i (omega arith)));
      span_is = le-leb _ _ h.span;
      summed_is = all_intro _ _ (λ i l. true_both _ _ (le-leb _ _ (h.small i l)) (eq-eqb _ _ (h.sums i l)));
      starts_blank = blank_intro _ _ h.blank_s;
      totals_blank = blank_intro _ _ h.blank_t;
      counts_blank = blank_intro _ _ h.blank_c;
      timely_is = all_intro _ _ (λ i l. le-leb _ _ (h.early i l));
    })

-- from second i on, d seconds later is at least d s later
pub far : (w : Window) → Whole w → (i d : ℕ) → i + d < w.seconds → get_or w.starts i 0 + d * nanos ≤ get_or w.starts (i + d) 0
far w h i zero l = rw (add-zero i) (omega arith)
far w h i (suc d) l =
    let q : i + suc d ≡ i + d + 1 = omega arith in
    rw q (omega (arith, far w h i d (omega arith), h.gap (i + d) (omega arith)))

pub later : (w : Window) → Whole w → (i j : ℕ) → i ≤ j → j < w.seconds → get_or w.starts i 0 + (j - i) * nanos ≤ get_or w.starts j 0
later w h i j l k = let q : i + (j - i) ≡ j = omega arith in rw q at (far w h i (j - i) (omega arith))

-- the span, read at the two ends
pub span_ends : (n : ℕ) (xs : List ℕ) → 0 < n → span_of n xs ≡ get_or xs (n - 1) 0 - get_or xs 0 0
span_ends zero xs l = absurd (not-suc-le-zero l)
span_ends (suc n) xs l = let q : suc n - 1 ≡ n = omega arith in rw q

pub span_le : (n : ℕ) (xs : List ℕ) (m : ℕ) → (0 < n → get_or xs (n - 1) 0 - get_or xs 0 0 ≤ m) → span_of n xs ≤ m
span_le zero xs m f = omega arith
span_le (suc n) xs m f = rw (span_ends (suc n) xs (omega arith)) (f (omega arith))

-- a row that is not in use
pub blank_row : (w : Window) → Whole w → (i : ℕ) → w.seconds ≤ i → row_sum w.buckets w.counts i ≡ 0
unfolding sum_from
blank_row w h i l = sum_zero _ w.buckets (λ b k. h.blank_c (i * w.buckets + b) (omega (arith, row_le w.seconds i w.buckets l)))
