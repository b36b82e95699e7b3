-- Check 6 as the code makes it: a part that fails, and all 11 rows summed at once, along them and across them. Assumes nothing.
use Prim.Native.Nat.{ℕ, ◌+◌, ◌-◌, ◌*◌, ◌/◌, ◌%◌, ◌<◌, ◌≤◌}
use mathlib.Core.Bool.{Bool, true, false}
use mathlib.Core.Path.{◌≡◌, sym, ap, ◌∙◌}
use mathlib.Core.List.{List, []}
use native.Mathlib.Nat.{div-add-mod', mod-lt, le-div_iff_mul-le, div-lt_iff_lt-mul}
use native.Mathlib.Omega.{arith}
use borrow.Author.Tests.{eq-eqb, eqb-true, le-leb, lt-leb}
use lib.Dec.{leb, eqb}
use lib.ListN.{length, get_or}
use Rattle.base.specs.Choice.{both}
use Rattle.base.specs.Lists.{blank_from, sum_from, row_sum}
use Rattle.base.proofs.Choices.{by_bool, by_le}
use Rattle.base.proofs.Flat.{row_le}
use Rattle.base.proofs.Points.{both_true, true_both, all_at, all_intro, blank_at, blank_intro, past_end, sum_at_le}
use Rattle.base.proofs.Tests.{all_cong}
use Rattle.base.specs.Limits.{nanos, time_limit, window_reach}
use Rattle.base.specs.Rows.{apart, up_to, span_of}
use Rattle.rules_window.specs.Window.{Window, windowed}
use Rattle.rules_window.specs.Quantile.{column}
use Rattle.rules_window.specs.ColumnSums.{right_sums}
use Rattle.rules_window.specs.WholeWindow.{summed, whole_window, Shaped, tallies_right, whole_with_sums}
use Rattle.rules_window.proofs.Sums.{sum_past}
use Rattle.rules_window.proofs.WholeAt.{Whole, Parts, parts_of, of_parts, whole_of, blank_row}

-- ---- a part that fails
module _ (w : Window) where
  fails : (b : Bool) → (Parts w → b ≡ true) → b ≡ false → false ≡ whole_window w
  fails b f e = by_bool (whole_window w) (λ h. sym e ∙ (f (parts_of w h) ∙ sym h)) (λ h. sym h)

  pub few_fails : 11 < w.seconds → false ≡ whole_window w
  few_fails l = fails (leb w.seconds 11) (λ p. p.within) (lt-leb _ _ l)

  pub apart_fails : (r : Bool) → r ≡ apart nanos (w.seconds - 1) w.starts → r ≡ false → false ≡ whole_window w
  apart_fails r e h = fails r (λ p. e ∙ p.apart_is) h

  pub span_fails : (a : ℕ) → a ≡ span_of w.seconds w.starts → window_reach < a → false ≡ whole_window w
  span_fails a e h = fails (leb (span_of w.seconds w.starts) window_reach) (λ p. p.span_is) (rw (← e) (lt-leb _ _ h))

  pub timely_fails : (r : Bool) → r ≡ up_to time_limit w.seconds w.starts → r ≡ false → false ≡ whole_window w
  timely_fails r e h = fails r (λ p. e ∙ p.timely_is) h

  pub starts_fail : (r : Bool) → r ≡ blank_from w.seconds w.starts → r ≡ false → false ≡ whole_window w
  starts_fail r e h = fails r (λ p. e ∙ p.starts_blank) h

  pub totals_fail : (r : Bool) → r ≡ blank_from w.seconds w.totals → r ≡ false → false ≡ whole_window w
  totals_fail r e h = fails r (λ p. e ∙ p.totals_blank) h

-- ---- unused totals are zero, so the sums of all 11 rows tell that unused counts are zero too
module _ (B : ℕ) (ts cs : List ℕ) (n : ℕ) (long : length cs ≡ 11 * B) (pos : 0 < B) (few : n ≤ 11) (blank : blank_from n ts ≡ true) (h : summed 11 B ts cs ≡ true) where
  row_is : (r : ℕ) → r < 11 → row_sum B cs r ≡ get_or ts r 0
  unfolding summed
  row_is r l = eqb-true _ _ (both_true _ _ (all_at _ _ h r l)).1

  pub unused_zero : (i : ℕ) → n * B ≤ i → get_or cs i 0 ≡ 0
  unfolding sum_from
  unused_zero i l = by_le (length cs) i (past_end cs i) inside
    where
      inside : i < length cs → get_or cs i 0 ≡ 0
      inside g =
          let r : ℕ = i / B in
          let low : n ≤ i / B = (le-div_iff_mul-le pos).1 l in
          let high : i / B < 11 = (div-lt_iff_lt-mul pos).1 (omega arith) in
          let e : get_or cs (i / B * B + i % B) 0 ≡ 0 = omega (arith, sum_at_le (λ b. get_or cs (i / B * B + b) 0) B (i % B) (mod-lt i pos), row_is (i / B) high, blank_at n ts blank (i / B) low) in
          ap (λ (x : ℕ). get_or cs x 0) (sym (div-add-mod' i B)) ∙ e

  used_summed : summed n B ts cs ≡ true
  unfolding summed
  used_summed = all_intro _ n (λ i l. all_at _ _ h i (omega arith))

module _ (w : Window) where
  all_rows : Whole w → summed 11 w.buckets w.totals w.counts ≡ true
  unfolding summed
  all_rows h = all_intro _ 11 (λ r l. by_le w.seconds r (unused r) (λ g. true_both _ _ (le-leb _ _ (h.small r g)) (eq-eqb _ _ (h.sums r g))))
    where
      unused : (r : ℕ) → w.seconds ≤ r → both (leb (get_or w.totals r 0) 4294967295) (eqb (row_sum w.buckets w.counts r) (get_or w.totals r 0)) ≡ true
      unused r g = true_both _ _ (le-leb (get_or w.totals r 0) 4294967295 (omega (arith, h.blank_t r g))) (eq-eqb _ _ (blank_row w h r g ∙ sym (h.blank_t r g)))

  -- .. and the columns of all 11 rows are those of the seconds in use
  all_columns : Whole w → (sums : List ℕ) → right_sums (windowed 11 w.buckets 0 [] [] w.counts) sums ≡ right_sums w sums
  unfolding right_sums column
  all_columns h sums =
      all_cong _ _ w.buckets
      (λ b l. ap (λ (x : ℕ). eqb (get_or sums b 0) x) (sum_past (λ r. get_or w.counts (r * w.buckets + b) 0) w.seconds 11 h.few (λ r g k. h.blank_c (r * w.buckets + b) (omega (arith, row_le w.seconds r w.buckets g)))))

  pub rows_tell : (ra : Bool) (a : ℕ) (rt rs rz q : Bool) (sums : List ℕ) → Shaped w → w.seconds ≤ 11 → ra ≡ apart nanos (w.seconds - 1) w.starts → ra ≡ true → a ≡ span_of w.seconds w.starts → a ≤ window_reach → rt ≡ up_to time_limit w.seconds w.starts → rt ≡ true → rs ≡ blank_from w.seconds w.starts → rs ≡ true → rz ≡ blank_from w.seconds w.totals → rz ≡ true → q ≡ tallies_right w.buckets w.totals w.counts sums → q ≡ whole_with_sums w sums
  unfolding both
  rows_tell ra a rt rs rz q sums s few ea ha es hs et ht eb hb ez hz e =
      e
      ∙ by_bool (summed 11 w.buckets w.totals w.counts)
      (λ h. let whole : whole_window w ≡ true = of_parts w (parts h) in rw (h, whole) (all_columns (whole_of w (record { shaped = s; whole = whole })) sums))
      (λ h. rw (h, ← none h))
    where
      zero_totals : blank_from w.seconds w.totals ≡ true
      zero_totals = sym ez ∙ hz

      parts : summed 11 w.buckets w.totals w.counts ≡ true → Parts w
      parts h =
          record {
            within = le-leb _ _ few;
            apart_is = sym ea ∙ ha;
            span_is = rw (← es) (le-leb _ _ hs);
            summed_is = used_summed w.buckets w.totals w.counts w.seconds s.counts_long (omega (arith, s.buckets_low)) few zero_totals h;
            starts_blank = sym eb ∙ hb;
            totals_blank = zero_totals;
            counts_blank = blank_intro _ _ (unused_zero w.buckets w.totals w.counts w.seconds s.counts_long (omega (arith, s.buckets_low)) few zero_totals h);
            timely_is = sym et ∙ ht;
          }

      none : summed 11 w.buckets w.totals w.counts ≡ false → false ≡ whole_window w
      none h = by_bool (whole_window w) (λ k. sym h ∙ (all_rows (whole_of w (record { shaped = s; whole = k })) ∙ sym k)) (λ k. sym k)
