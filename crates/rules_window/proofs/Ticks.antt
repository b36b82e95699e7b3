-- The lags of one tick: each push keeps the window sound, and adds one to the total that check 11 looks at. Assumes nothing.
use Prim.Native.Nat.{ℕ, ◌+◌, ◌-◌, ◌<◌, ◌≤◌}
use mathlib.Core.Bool.{Bool, true, false}
use mathlib.Core.Path.{◌≡◌, refl, sym, ap, subst, ◌∙◌}
use mathlib.Core.List.{List}
use native.Mathlib.Nat.{sub_self}
use native.Mathlib.Numerals.{add-one}
use native.Mathlib.Omega.{arith}
use borrow.Author.Tests.{leb-true, le-leb, eq-eqb}
use lib.ListN.{length, get_or, set, drop, drop_of_length-le}
use lib.Seq.{get_or-set_same, drop-cons}
use Rattle.base.specs.Choice.{pick}
use Rattle.base.specs.Lists.{shifted}
use Rattle.base.specs.Limits.{time_limit}
use Rattle.base.proofs.Points.{shifted_at, true_both}
use Rattle.base.proofs.Choices.{yes_ask}
use Rattle.buckets.proofs.Told.{width_yes, buckets_yes}
use Rattle.rules_window.specs.Window.{Window, stale, opens, counted, pushed, pushed_all}
use Rattle.rules_window.specs.WholeWindow.{Sound}
use Rattle.rules_window.specs.ColumnSums.{column_sums}
use Rattle.rules_window.specs.InPlace.{dropped_in_place, opened_in_place, pushed_in_place}
use Rattle.rules_window.specs.Checks.{newest_of, newest, room_for, CanPush, checked, push_number, push_reply}
use Rattle.rules_window.proofs.WholeAt.{Whole, whole_of, of_whole}
use Rattle.rules_window.proofs.Keeps.{dropped_whole, opened_whole, opens_dropped, open_fits, near, pushed_whole}
use Rattle.rules_window.proofs.InUse.{in_place}
use Rattle.rules_window.proofs.Stales.{opens_used}
use Rattle.rules_window.proofs.ColumnSums.{sums_length, own_sums_right}
use Rattle.rules_window.proofs.Numbers.{replied_new}

newest_dropped : (t : ℕ) (w : Window) → newest t (dropped_in_place t w) ≡ newest t w
unfolding newest_of dropped_in_place
newest_dropped t w = rw (opens_dropped t w.seconds w.starts) (go (opens t w.seconds w.starts) refl)
  where
    k : ℕ
    k = stale t w.seconds w.starts

    go : (b : Bool) → opens t w.seconds w.starts ≡ b → pick b 0 (get_or (shifted k w.totals) (w.seconds - k - 1) 0) ≡ pick b 0 (get_or w.totals (w.seconds - 1) 0)
    go true e = refl
    go false e =
        let u : 0 < w.seconds - k = opens_used t (w.seconds - k) (shifted k w.starts) (opens_dropped t w.seconds w.starts ∙ e) in
        let q : k + (w.seconds - k - 1) ≡ w.seconds - 1 = omega arith in
        rw (shifted_at k w.totals (w.seconds - k - 1), q)

total_opened : (t : ℕ) (w : Window) → Whole w → get_or (opened_in_place t w).totals ((opened_in_place t w).seconds - 1) 0 ≡ newest t w
unfolding newest_of opened_in_place
total_opened t w h = go (opens t w.seconds w.starts)
  where
    go : (b : Bool) → get_or w.totals (pick b (w.seconds + 1) w.seconds - 1) 0 ≡ pick b 0 (get_or w.totals (w.seconds - 1) 0)
    go true = h.blank_t (w.seconds + 1 - 1) (omega arith)
    go false = refl

-- at the same time no further second opens
opens_not : (t : ℕ) (w : Window) → (opens t w.seconds w.starts ≡ true → w.seconds < length w.starts) → opens t (opened_in_place t w).seconds (opened_in_place t w).starts ≡ false
unfolding opened_in_place
opens_not t w f = go (opens t w.seconds w.starts) refl
  where
    go : (b : Bool) → opens t w.seconds w.starts ≡ b → opens t (pick b (w.seconds + 1) w.seconds) (pick b (set w.starts w.seconds t) w.starts) ≡ false
    go true e = rw (add-one, get_or-set_same w.starts w.seconds t 0 (f e), sub_self t)
    go false e = e

newest_in_place : (lag t : ℕ) (w : Window) → Whole w → t ≤ time_limit → newest t (pushed_in_place lag t w) ≡ newest t w + 1
unfolding newest_of pushed_in_place counted
newest_in_place lag t w h soon =
    let p : Whole (dropped_in_place t w) = dropped_whole t w h in
    let o : Whole (opened_in_place t (dropped_in_place t w)) = opened_whole t (dropped_in_place t w) p soon (near t w h) in
    let v : Window = opened_in_place t (dropped_in_place t w) in
    rw (
      opens_not t (dropped_in_place t w) (λ y. omega (arith, p.ls, open_fits t (dropped_in_place t w) p (near t w h) y)),
      get_or-set_same v.totals (v.seconds - 1) (get_or v.totals (v.seconds - 1) 0 + 1) 0 (omega (arith, o.lt, o.few)),
    )
    (ap (λ (x : ℕ). x + 1) (total_opened t (dropped_in_place t w) p ∙ newest_dropped t w))

-- ---- a push of a sound window
module _ (lag t : ℕ) (w : Window) (s : Sound w) (soon : t ≤ time_limit) where
  same : pushed_in_place lag t w ≡ pushed lag t w
  same = in_place lag t w (whole_of w s) (omega (arith, s.shaped.buckets_low))

  -- a push adds exactly one to the total that check 11 looks at
  pub newest_pushed : newest t (pushed lag t w) ≡ newest t w + 1
  newest_pushed = rw same at (newest_in_place lag t w (whole_of w s) soon)

  -- a push keeps a window whole
  pub push_keeps_sound : newest t w < 4294967295 → Sound (pushed lag t w)
  unfolding pushed_in_place counted opened_in_place dropped_in_place
  push_keeps_sound room = subst Sound same sound
    where
      all : Whole (pushed_in_place lag t w)
      all = pushed_whole lag t w (whole_of w s) (omega (arith, s.shaped.buckets_low)) soon room

      sound : Sound (pushed_in_place lag t w)
      sound =
          record {
            shaped = record {
              width_low = s.shaped.width_low;
              width_high = s.shaped.width_high;
              buckets_low = s.shaped.buckets_low;
              buckets_high = s.shaped.buckets_high;
              starts_long = all.ls;
              totals_long = all.lt;
              counts_long = all.lc;
            };
            whole = of_whole (pushed_in_place lag t w) all;
          }

-- ---- the loop: what is pushed, what is left, and room for it
pub record Going (time : ℕ) (lags : List ℕ) (last : Window) (i : ℕ) (w : Window) : Type 0 where
  pub is : last ≡ pushed_all time (drop i lags) w
  pub sound : Sound w
  pub room : newest time w + (length lags - i) ≤ 4294967295

pub going_start : (time : ℕ) (lags : List ℕ) (w : Window) → Sound w → room_for time (length lags) w ≡ true → Going time lags (pushed_all time lags w) 0 w
going_start time lags w s r = record { is = refl; sound = s; room = omega (arith, leb-true (newest time w + length lags) 4294967295 r) }

module _ (time : ℕ) (lags : List ℕ) (last : Window) (i : ℕ) (w : Window) (soon : time ≤ time_limit) (g : Going time lags last i w) where
  pub going_asks : (sums : List ℕ) → sums ≡ column_sums w → i < length lags → CanPush time 1 w sums
  going_asks sums own l = record { sound = g.sound; own = own; soon = soon; room = le-leb _ _ (omega (arith, g.room)) }

  pub going_more : (v : Window) → i < length lags → v ≡ pushed (get_or lags i 0) time w → Going time lags last (i + 1) v
  unfolding pushed_all
  going_more v l e =
      record {
        is = g.is ∙ rw (add-one, e, drop-cons lags i 0 l);
        sound = subst Sound (sym e) (push_keeps_sound (get_or lags i 0) time w g.sound soon (omega (arith, g.room)));
        room = rw (e, newest_pushed (get_or lags i 0) time w g.sound soon) (omega (arith, g.room));
      }

  pub going_end : length lags ≤ i → w ≡ last
  unfolding pushed_all
  going_end l = sym (g.is ∙ rw (drop_of_length-le lags l))

-- ---- the call accepts a push of a sound window
-- 17, 18, 5 and 6 let a sound window with its own sums through
sound_checked : (w : Window) (rest : ℕ) → Sound w → checked w (column_sums w) rest ≡ rest
unfolding checked
sound_checked w rest s =
    yes_ask 17 _ (width_yes _ s.shaped.width_low s.shaped.width_high)
    ∙ yes_ask 18 _ (buckets_yes _ s.shaped.buckets_low s.shaped.buckets_high)
    ∙ yes_ask 5 _ (eq-eqb _ _ s.shaped.starts_long)
    ∙ yes_ask 5 _ (eq-eqb _ _ s.shaped.totals_long)
    ∙ yes_ask 5 _ (eq-eqb _ _ s.shaped.counts_long)
    ∙ yes_ask 5 _ (eq-eqb _ _ (sums_length w))
    ∙ yes_ask 6 _ (true_both _ _ s.whole (own_sums_right w))

pub push_accepted : (lag time : ℕ) (w : Window) → Sound w → time ≤ time_limit → newest time w < 4294967295
    → push_reply lag time w (column_sums w) ≡ record { number = 0; window = pushed lag time w; sums = column_sums (pushed lag time w) }
unfolding push_reply push_number
push_accepted lag time w s soon room =
    let one : newest time w + 1 ≤ 4294967295 = omega arith in
    let e = sound_checked w _ s ∙ yes_ask 8 _ (le-leb _ _ soon) ∙ yes_ask 11 _ (le-leb _ _ one) in
    sym (replied_new 0 _ w (column_sums w) _ _ _ (sym e) refl refl refl)
