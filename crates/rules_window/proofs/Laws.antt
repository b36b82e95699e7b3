-- What the layers above use of the definitions: windows stay sound, seconds are recent, and where a quantile stands. Assumes nothing.
use Rattle.std.specs.Prelude.{None, Option, Some}
use Prim.Native.Nat.{ℕ, zero, suc, ◌+◌, ◌-◌, ◌*◌, ◌<◌, ◌≤◌}
use mathlib.Core.Bool.{Bool, true, false}
use mathlib.Core.Path.{◌≡◌, refl, sym, ap, subst, ◌∙◌}
use mathlib.Core.Logic.{◌⊎◌, inl, inr, ⊎_elim}
use mathlib.Core.List.{List, [], ◌∷◌}
use native.Mathlib.Nat.{not-suc-le-zero, mul-le-mul_right, add-zero, sub_self}
use native.Mathlib.Numerals.{add-one}
use native.Mathlib.Omega.{arith}
use borrow.Author.Tests.{le-leb, leb-true, lt-leb, leb-false, ne_eqb}
use lib.Dec.{leb, eqb}
use lib.Ieee.{Float}
use lib.ListN.{length, get_or, set, length-replicate}
use lib.Seq.{get_or-set_same, get_or-set_other}
use Rattle.base.specs.Choice.{pick, accepted}
use Rattle.base.specs.Lists.{sum}
use Rattle.base.proofs.Choices.{by_le, by_bool, no_pick, yes_pick}
use Rattle.base.proofs.Points.{zeros_at, sum_at_le}
use Rattle.doubles.specs.Quantile as places
use Rattle.doubles.proofs.Places.{place_at_least, place_at_most}
use Rattle.rules_window.specs.Quantile.{End, NoLags}
use Rattle.base.specs.Rows.{span_of}
use Rattle.base.specs.Limits.{nanos, time_limit, width_limit, buckets_limit, window_reach}
use Rattle.rules_window.specs.Window.{Window, fresh, cleared, opens, counted, pushed, pushed_all}
use Rattle.rules_window.specs.WholeWindow.{Shaped, Sound}
use Rattle.rules_window.specs.InPlace.{dropped_in_place, opened_in_place, pushed_in_place}
use Rattle.rules_window.specs.Checks.{newest, newest_of, room_for, quantile_number, quantile_upto_reply, answered, number_of, value_of}
use Rattle.rules_window.specs.Quantile.{column, within, running, reach, end_of, quantile_in, quantile_upto, lags_in, total_upto, Placeable}
use Rattle.rules_window.proofs.WholeAt.{Whole, whole_of, of_whole, later, span_ends}
use Rattle.rules_window.proofs.Keeps.{dropped_whole, opened_whole, opened_yes_is, opened_no_is, near}
use Rattle.rules_window.proofs.InUse.{in_place}
use Rattle.rules_window.proofs.Reaching.{running_none, found_below}
use Rattle.rules_window.proofs.Ticks.{newest_pushed, push_keeps_sound}

-- ---- a fresh window is sound
pub fresh_sound : (B W : ℕ) → 1 ≤ W → W ≤ width_limit → 1 ≤ B → B ≤ buckets_limit → Sound (fresh B W)
unfolding fresh
fresh_sound B W wl wh bl bh =
    record {
      shaped = record {
        width_low = wl;
        width_high = wh;
        buckets_low = bl;
        buckets_high = bh;
        starts_long = length-replicate {A = ℕ} 11 0;
        totals_long = length-replicate {A = ℕ} 11 0;
        counts_long = length-replicate {A = ℕ} (11 * B) 0;
      };
      whole = of_whole (fresh B W) blank;
    }
  where
    blank : Whole (fresh B W)
    blank =
        record {
          few = omega arith;
          ls = length-replicate {A = ℕ} 11 0;
          lt = length-replicate {A = ℕ} 11 0;
          lc = length-replicate {A = ℕ} (11 * B) 0;
          gap = λ i l. absurd (not-suc-le-zero l);
          span = omega arith;
          early = λ i l. absurd (not-suc-le-zero l);
          small = λ i l. absurd (not-suc-le-zero l);
          sums = λ i l. absurd (not-suc-le-zero l);
          blank_s = λ i l. zeros_at 11 i;
          blank_t = λ i l. zeros_at 11 i;
          blank_c = λ i l. zeros_at (11 * B) i;
        }

-- so is one that is cleared
pub cleared_sound : (w : Window) → Shaped w → Sound (cleared w)
cleared_sound w s = fresh_sound w.buckets w.width s.width_low s.width_high s.buckets_low s.buckets_high

-- ---- the lags of a tick
-- an input without lags has room
pub room_without_lags : (time : ℕ) (w : Window) → Sound w → room_for time 0 w ≡ true
unfolding newest_of
room_without_lags time w s = le-leb (newest time w + 0) 4294967295 (go (opens time w.seconds w.starts))
  where
    small : get_or w.totals (w.seconds - 1) 0 ≤ 4294967295
    small =
        by_le 1 w.seconds (λ l. (whole_of w s).small (w.seconds - 1) (omega arith))
        (λ l. omega (arith, (whole_of w s).blank_t (w.seconds - 1) (omega arith)))

    go : (b : Bool) → pick b 0 (get_or w.totals (w.seconds - 1) 0) + 0 ≤ 4294967295
    go true = omega arith
    go false = omega (arith, small)

module _ (time : ℕ) (soon : time ≤ time_limit) where
  -- room for one lag more than the others leaves room for these
  next_room : (lag more : ℕ) (w : Window) → Sound w → room_for time (suc more) w ≡ true → (newest time w < 4294967295) × (room_for time more (pushed lag time w) ≡ true)
  next_room lag more w s r =
      let h : newest time w + suc more ≤ 4294967295 = leb-true (newest time w + suc more) 4294967295 r in
      (omega arith, le-leb (newest time (pushed lag time w) + more) 4294967295 (omega (arith, newest_pushed lag time w s soon)))

  -- a tick's lags keep a window whole
  pub lags_keep_sound : (lags : List ℕ) (w : Window) → Sound w → room_for time (length lags) w ≡ true → Sound (pushed_all time lags w)
  unfolding pushed_all
  lags_keep_sound [] w s r = s
  lags_keep_sound (lag ∷ lags) w s r =
      let h = next_room lag (length lags) w s r in
      lags_keep_sound lags (pushed lag time w) (push_keeps_sound lag time w s soon h.0) h.1

  -- each adds exactly one to the total that check 11 looks at
  pub lags_counted : (lags : List ℕ) (w : Window) → Sound w → room_for time (length lags) w ≡ true → newest time (pushed_all time lags w) ≡ newest time w + length lags
  unfolding pushed_all
  lags_counted [] w s r = sym (add-zero (newest time w))
  lags_counted (lag ∷ lags) w s r =
      let h = next_room lag (length lags) w s r in
      omega (
        arith,
        lags_counted lags (pushed lag time w) (push_keeps_sound lag time w s soon h.0) h.1,
        newest_pushed lag time w s soon,
      )

-- ---- after a tick's lags every second is at most 10 s old
abbrev pub Recent : ℕ → Window → Type 0
Recent time w = (i : ℕ) → i < w.seconds → time - get_or w.starts i 0 ≤ window_reach

opened_near : (t : ℕ) (w : Window) → Whole w → (0 < w.seconds → t - get_or w.starts 0 0 ≤ window_reach) → t - get_or (opened_in_place t w).starts 0 0 ≤ window_reach
opened_near t w h near = by_bool (opens t w.seconds w.starts) yes no
  where
    first : t - get_or (set w.starts w.seconds t) 0 0 ≤ window_reach
    first =
        by_le 1 w.seconds (λ l. rw (get_or-set_other w.starts w.seconds 0 t 0 (λ z. omega arith)) (near l))
        (λ l. let z : w.seconds ≡ 0 = omega arith in rw (z, get_or-set_same w.starts 0 t 0 (omega (arith, h.ls))) (omega arith))

    yes : opens t w.seconds w.starts ≡ true → t - get_or (opened_in_place t w).starts 0 0 ≤ window_reach
    yes o = subst (λ (v : Window). t - get_or v.starts 0 0 ≤ window_reach) (sym (opened_yes_is t w o)) first

    none : w.seconds ≡ 0 → opens t w.seconds w.starts ≡ true
    none z = rw z

    no : opens t w.seconds w.starts ≡ false → t - get_or (opened_in_place t w).starts 0 0 ≤ window_reach
    no o =
        subst (λ (v : Window). t - get_or v.starts 0 0 ≤ window_reach) (sym (opened_no_is t w o))
        (by_le 1 w.seconds near (λ l. let p = none (omega arith) in let z : ◌≡◌ {A = ℕ} 0 1 = cc in absurd (omega arith)))

pub push_recent : (lag t : ℕ) (w : Window) → Sound w → t ≤ time_limit → Recent t (pushed lag t w)
unfolding pushed_in_place counted
push_recent lag t w s soon = subst (Recent t) (in_place lag t w h (omega (arith, s.shaped.buckets_low))) recent
  where
    h : Whole w
    h = whole_of w s

    v : Window
    v = opened_in_place t (dropped_in_place t w)

    recent : Recent t (pushed_in_place lag t w)
    recent i l =
        let o : Whole v = opened_whole t (dropped_in_place t w) (dropped_whole t w h) soon (near t w h) in
        omega (arith, later v o 0 i (omega arith) l, opened_near t (dropped_in_place t w) (dropped_whole t w h) (near t w h))

pub lags_recent : (t : ℕ) → t ≤ time_limit → (lag : ℕ) (lags : List ℕ) (w : Window) → Sound w → room_for t (length (lag ∷ lags)) w ≡ true → Recent t (pushed_all t (lag ∷ lags) w)
unfolding pushed_all
lags_recent t soon lag [] w s r = push_recent lag t w s soon
lags_recent t soon lag (next ∷ lags) w s r =
    let h = next_room t soon lag (length (next ∷ lags)) w s r in
    lags_recent t soon next lags (pushed lag t w) (push_keeps_sound lag t w s soon h.0) h.1

-- ---- the span after two seconds is at least 1 s, and 0 before
pub span_of_two : (w : Window) → Sound w → 2 ≤ w.seconds → nanos ≤ span_of w.seconds w.starts
span_of_two w s l =
    let h : Whole w = whole_of w s in
    omega (arith, span_ends w.seconds w.starts (omega arith), later w h 0 (w.seconds - 1) (omega arith) (omega arith))

pub span_of_one : (n : ℕ) (starts : List ℕ) → n ≤ 1 → span_of n starts ≡ 0
span_of_one zero starts l = refl
span_of_one (suc zero) starts l = sub_self (get_or starts 0 0)
span_of_one (suc (suc n)) starts l = absurd (omega arith)

-- ---- where a quantile stands
-- bucket b is counted, and holds a lag
pub record Holds (limit : ℕ) (w : Window) (b : ℕ) : Type 0 where
  pub inside : b < w.buckets
  pub shown : b * w.width ≤ limit
  pub some : 0 < lags_in w b

module _ (limit W B n : ℕ) (cs : List ℕ) where
  running_next : (b : ℕ) → running limit W B n cs (b + 1) ≡ running limit W B n cs b + within limit W B n cs b
  unfolding running sum
  running_next b = rw add-one

  within_is : (b : ℕ) → b * W ≤ limit → within limit W B n cs b ≡ column B b n cs
  unfolding within
  within_is b h = yes_pick (column B b n cs) 0 (le-leb (b * W) limit h)

  within_some : (b : ℕ) → 0 < within limit W B n cs b → (b * W ≤ limit) × (0 < column B b n cs)
  unfolding within
  within_some b l =
      by_le (b * W) limit (λ h. (h, rw (within_is b h) at l))
      (λ h. let z : within limit W B n cs b ≡ 0 = no_pick (column B b n cs) 0 (lt-leb (b * W) limit h) in absurd (omega arith))

  module _ (target : ℕ) where
    -- the bucket that is found is the first to reach the target
    found_first : (d c b : ℕ) → running limit W B n cs c < target → reach target limit W B n cs d c ≡ Some b → (running limit W B n cs b < target) × (target ≤ running limit W B n cs (b + 1))
    unfolding reach
    found_first zero c b l e = let z : ◌≡◌ {A = ℕ} 0 1 = cc in absurd (omega arith)
    found_first (suc d) c b l e = go (leb target (running limit W B n cs (c + 1))) refl e (λ k f. found_first d (c + 1) b k f)
      where
        go : (y : Bool) → leb target (running limit W B n cs (c + 1)) ≡ y → pick y (Some c) (reach target limit W B n cs d (c + 1)) ≡ Some b → (running limit W B n cs (c + 1) < target → reach target limit W B n cs d (c + 1) ≡ Some b → (running limit W B n cs b < target) × (target ≤ running limit W B n cs (b + 1))) → (running limit W B n cs b < target) × (target ≤ running limit W B n cs (b + 1))
        go true u f g = let q : c ≡ b = cc in rw (← q) (l, leb-true target (running limit W B n cs (c + 1)) u)
        go false u f g = g (leb-false target (running limit W B n cs (c + 1)) u) f

    -- a target that the running count reaches is found
    found_some : (d c : ℕ) → target ≤ running limit W B n cs (c + suc d) → (b : ℕ) × (reach target limit W B n cs (suc d) c ≡ Some b)
    unfolding reach
    found_some zero c l = (c, rw (le-leb target (running limit W B n cs (c + 1)) l))
    found_some (suc d) c l = go (leb target (running limit W B n cs (c + 1))) (found_some d (c + 1) (let q : c + suc (suc d) ≡ c + 1 + suc d = omega arith in rw q at l))
      where
        go : (y : Bool) → (b : ℕ) × (reach target limit W B n cs (suc d) (c + 1) ≡ Some b) → (b : ℕ) × (pick y (Some c) (reach target limit W B n cs (suc d) (c + 1)) ≡ Some b)
        go true g = (c, refl)
        go false g = g

module _ (q : Float) (limit : ℕ) (w : Window) where
  -- a quantile is the end of a counted bucket that holds a lag
  pub quantile_bucket : (e : ℕ) → quantile_upto q limit w ≡ End e → (b : ℕ) × ((Holds limit w b) × (e ≡ (b + 1) * w.width))
  unfolding quantile_in
  quantile_bucket e h = go (eqb total 0) (reach target limit w.width w.buckets w.seconds w.counts w.buckets 0) refl h
    where
      total : ℕ
      total = total_upto limit w

      target : ℕ
      target = places.target_of total q

      at : ℕ → ℕ
      at b = running limit w.width w.buckets w.seconds w.counts b

      holds : (b : ℕ) → reach target limit w.width w.buckets w.seconds w.counts w.buckets 0 ≡ Some b → Holds limit w b
      holds b f =
          let first = found_first limit w.width w.buckets w.seconds w.counts target w.buckets 0 b (omega (arith, place_at_least total q, running_none limit w.width w.buckets w.seconds w.counts)) f in
          let more = running_next limit w.width w.buckets w.seconds w.counts b in
          let k = within_some limit w.width w.buckets w.seconds w.counts b (omega (arith, first.0, first.1, more)) in
          record { inside = omega (arith, found_below target limit w.width w.buckets w.seconds w.counts w.buckets 0 b f); shown = k.0; some = k.1 }

      go : (y : Bool) (f : Option ℕ) → reach target limit w.width w.buckets w.seconds w.counts w.buckets 0 ≡ f → pick y NoLags (end_of w.width f) ≡ End e → (b : ℕ) × ((Holds limit w b) × (e ≡ (b + 1) * w.width))
      go true f r k = let z : ◌≡◌ {A = ℕ} 0 1 = cc in absurd (omega arith)
      go false (Some b) r k = (b, (holds b r, cc))
      go false None r k = let z : ◌≡◌ {A = ℕ} 0 1 = cc in absurd (omega arith)

  -- so it is never above the end of the last counted bucket that holds a lag
  pub quantile_at_most : (e last : ℕ) → quantile_upto q limit w ≡ End e → ((b : ℕ) → Holds limit w b → b ≤ last) → e ≤ (last + 1) * w.width
  quantile_at_most e last h f =
      let s = quantile_bucket e h in
      rw s.1.1 (mul-le-mul_right w.width (omega (arith, f s.0 s.1.0)))

  -- it exists exactly where a counted bucket holds a lag
  total_some : (b : ℕ) → Holds limit w b → 1 ≤ total_upto limit w
  unfolding running
  total_some b h =
      omega (
        arith,
        h.some,
        sum_at_le (within limit w.width w.buckets w.seconds w.counts) w.buckets b h.inside,
        within_is limit w.width w.buckets w.seconds w.counts b h.shown,
      )

  pub quantile_exists : Placeable q limit w → (b : ℕ) → Holds limit w b → (e : ℕ) × (quantile_upto q limit w ≡ End e)
  unfolding quantile_in
  quantile_exists p b h =
      let one : 1 ≤ total_upto limit w = total_some b h in
      let all : 0 + suc (w.buckets - 1) ≡ w.buckets = omega (arith, h.inside) in
      let last : suc (w.buckets - 1) ≡ w.buckets = omega (arith, h.inside) in
      let found = found_some limit w.width w.buckets w.seconds w.counts (places.target_of (total_upto limit w) q) (w.buckets - 1) 0 (rw all (place_at_most (total_upto limit w) q one p)) in
      let is : reach (places.target_of (total_upto limit w) q) limit w.width w.buckets w.seconds w.counts w.buckets 0 ≡ Some found.0 = ap (λ (d : ℕ). reach (places.target_of (total_upto limit w) q) limit w.width w.buckets w.seconds w.counts d 0) (sym last) ∙ found.1 in
      ((found.0 + 1) * w.width, rw (ne_eqb (total_upto limit w) 0 (λ z. omega arith), is))

  -- and is none exactly where none does
  pub quantile_none : Placeable q limit w → quantile_upto q limit w ≡ NoLags → (b : ℕ) → Holds limit w b → ⊥
  quantile_none p e b h =
      let some = quantile_exists p b h in
      let f = some.1 in
      let z : ◌≡◌ {A = ℕ} 0 1 = cc in
      omega arith

  pub quantile_cases : (quantile_upto q limit w ≡ NoLags) ⊎ ((e : ℕ) × (quantile_upto q limit w ≡ End e))
  unfolding quantile_in
  quantile_cases = go (eqb (total_upto limit w) 0) (reach (places.target_of (total_upto limit w) q) limit w.width w.buckets w.seconds w.counts w.buckets 0)
    where
      go : (y : Bool) (f : Option ℕ) → (pick y NoLags (end_of w.width f) ≡ NoLags) ⊎ ((e : ℕ) × (pick y NoLags (end_of w.width f) ≡ End e))
      go true f = inl refl
      go false (Some b) = inr ((b + 1) * w.width, refl)
      go false None = inl refl

  -- the answer has document 01's number, and its value where that is 0, else the value 0
  pub reply_number : (sums : List ℕ) → number_of (quantile_upto_reply q limit w sums) ≡ quantile_number q w sums
  unfolding quantile_upto_reply
  reply_number sums = by_number (quantile_number q w sums)
    where
      by_number : (n : ℕ) → number_of (answered n (quantile_upto q limit w)) ≡ n
      by_number zero = ⊎_elim (λ e. ap number_of e) (λ found. ap number_of found.1) quantile_cases
      by_number (suc n) = refl

  pub reply_value : (sums : List ℕ) → value_of (quantile_upto_reply q limit w sums) ≡ accepted (quantile_number q w sums) 0 (value_of (quantile_upto q limit w))
  unfolding quantile_upto_reply
  reply_value sums = by_number (quantile_number q w sums)
    where
      by_number : (n : ℕ) → value_of (answered n (quantile_upto q limit w)) ≡ accepted n 0 (value_of (quantile_upto q limit w))
      by_number zero = refl
      by_number (suc n) = refl
