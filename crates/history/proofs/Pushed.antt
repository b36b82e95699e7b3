-- What a push makes of a whole window, place by place: which seconds stay, which opens, which count is one more. Assumes nothing.
use Prim.Native.Nat.{ℕ, zero, suc, ◌+◌, ◌-◌, ◌*◌, ◌≤◌, ◌<◌}
use mathlib.Core.Path.{◌≡◌, refl, sym, ap, ◌∙◌}
use mathlib.Core.Bool.{Bool, true, false}
use mathlib.Core.List.{List}
use native.Mathlib.Nat.{add-mul, suc-mul}
use native.Mathlib.Omega.{arith}
use borrow.Author.Tests.{leb-false}
use lib.ListN.{get_or, set}
use lib.Seq.{get_or-set_same, get_or-set_other}
use Rattle.base.specs.Limits.{nanos}
use Rattle.base.specs.Choice.{pick}
use Rattle.base.specs.Lists.{shifted, bumped}
use Rattle.base.proofs.Choices.{by_le}
use Rattle.base.proofs.Points.{shifted_at}
use Rattle.base.proofs.Toward.{shifted_length}
use Rattle.base.proofs.Flat.{row_le, flat_in}
use Rattle.rules_window.specs.Window.{Window, stale, opens, bucket_of, counted, pushed}
use Rattle.rules_window.specs.InPlace.{dropped_in_place, opened_in_place, pushed_in_place}
use Rattle.rules_window.proofs.Stales.{stale_le, stale_old, stale_next, opens_used}
use Rattle.rules_window.proofs.WholeAt.{Whole, later}
use Rattle.rules_window.proofs.Keeps.{dropped_whole, opens_dropped, opens_old, near, open_fits, bucket_lt}
use Rattle.rules_window.proofs.InUse.{in_place}

-- the start of second r, and its count of bucket b
abbrev pub start_at : Window → ℕ → ℕ
start_at w r = get_or w.starts r 0

abbrev pub count_at : Window → ℕ → ℕ → ℕ
count_at w r b = get_or w.counts (r * w.buckets + b) 0

-- whether a second opens at `time`, where `gone` seconds have gone
pub data Opening (gone time : ℕ) (w v : Window) : Type 0 where
  opening :
      v.seconds + gone ≡ w.seconds + 1 → start_at v (w.seconds - gone) ≡ time →
      ((r : ℕ) → r + 1 ≡ w.seconds → start_at w r + nanos ≤ time) → Opening gone time w v
  staying : v.seconds + gone ≡ w.seconds → ((r : ℕ) → r + 1 ≡ w.seconds → time < start_at w r + nanos) → gone < w.seconds → Opening gone time w v

pub record Pushed (lag time : ℕ) (w v : Window) : Type 0 where
  pub gone : ℕ
  pub gone_le : gone ≤ w.seconds
  pub went : (r : ℕ) → r < gone → start_at w r + 10 * nanos < time
  pub stayed : (r : ℕ) → gone ≤ r → r < w.seconds → time ≤ start_at w r + 10 * nanos
  pub same_width : v.width ≡ w.width
  pub same_buckets : v.buckets ≡ w.buckets
  pub opened : Opening gone time w v
  pub old_start : (r s : ℕ) → s ≡ gone + r → s < w.seconds → start_at v r ≡ start_at w s
  pub old_count_law :
      (r b : ℕ) → b < w.buckets → (r + 1 ≡ v.seconds → b ≡ bucket_of lag w.width w.buckets → ⊥) → count_at v r b ≡ count_at w (gone + r) b
  pub new_count : (r : ℕ) → r + 1 ≡ v.seconds → 0 < count_at v r (bucket_of lag w.width w.buckets)

-- one place has one row and one bucket
same_row : (r q B b c : ℕ) → b < B → c < B → r * B + b ≡ q * B + c → r ≡ q
same_row r q B b c h k e =
    by_le (suc r) q (λ l. absurd (omega (arith, row_le (suc r) q B l, suc-mul r B)))
    (λ l. by_le (suc q) r (λ m. absurd (omega (arith, row_le (suc q) r B m, suc-mul q B))) (λ m. omega arith))

same_place : (r q B b c : ℕ) → b < B → c < B → r * B + b ≡ q * B + c → (r ≡ q) × (b ≡ c)
same_place r q B b c h k e = let z : r ≡ q = same_row r q B b c h k e in (z, omega (arith, ap (λ (x : ℕ). x * B) z))

opens_not : (t n : ℕ) (xs : List ℕ) → opens t n xs ≡ false → (r : ℕ) → r + 1 ≡ n → t < get_or xs r 0 + nanos
opens_not t zero xs e r h = absurd (omega arith)
opens_not t (suc n) xs e r h = let q : r ≡ n = omega arith in rw q (omega (arith, leb-false nanos (t - get_or xs n 0) e))

module _ (lag time : ℕ) (w : Window) (h : Whole w) (some : 0 < w.buckets) where
  abbrev old : ℕ
  old = stale time w.seconds w.starts

  abbrev bucket : ℕ
  bucket = bucket_of lag w.width w.buckets

  -- the window after the push, by whether a second opens
  abbrev made : Bool → Window
  made o =
      record {
        seconds = pick o (w.seconds - old + 1) (w.seconds - old);
        buckets = w.buckets;
        width = w.width;
        starts = pick o (set (shifted old w.starts) (w.seconds - old) time) (shifted old w.starts);
        totals = bumped (pick o (w.seconds - old + 1) (w.seconds - old) - 1) (shifted old w.totals);
        counts = bumped ((pick o (w.seconds - old + 1) (w.seconds - old) - 1) * w.buckets + bucket) (shifted (old * w.buckets) w.counts);
      }

  bucket_in : bucket < w.buckets
  bucket_in = bucket_lt lag w.width w.buckets some

  -- the counts: n seconds are left
  moved_count : (r b : ℕ) → get_or (shifted (old * w.buckets) w.counts) (r * w.buckets + b) 0 ≡ count_at w (old + r) b
  moved_count r b =
      let q : old * w.buckets + (r * w.buckets + b) ≡ (old + r) * w.buckets + b = omega (arith, add-mul old r w.buckets) in
      shifted_at (old * w.buckets) w.counts (r * w.buckets + b) ∙ ap (λ (i : ℕ). get_or w.counts i 0) q

  other_count :
      (n r b : ℕ) → 0 < n → b < w.buckets → (r + 1 ≡ n → b ≡ bucket → ⊥) →
      get_or (bumped ((n - 1) * w.buckets + bucket) (shifted (old * w.buckets) w.counts)) (r * w.buckets + b) 0 ≡ count_at w (old + r) b
  other_count n r b pos l f =
      get_or-set_other (shifted (old * w.buckets) w.counts) ((n - 1) * w.buckets + bucket) (r * w.buckets + b) _ 0
      (λ e. let s = same_place r (n - 1) w.buckets b bucket l bucket_in e in f (omega (arith, s.0)) s.1)
      ∙ moved_count r b

  this_count :
      (n r : ℕ) → n ≤ 11 → r + 1 ≡ n → 0 < get_or (bumped ((n - 1) * w.buckets + bucket) (shifted (old * w.buckets) w.counts)) (r * w.buckets + bucket) 0
  this_count n r few e =
      let q : n - 1 ≡ r = omega arith in
      rw (
        q,
        get_or-set_same (shifted (old * w.buckets) w.counts) (r * w.buckets + bucket) _ 0
            (flat_in r n w.buckets _ (omega arith) few (shifted_length (old * w.buckets) w.counts ∙ h.lc) bucket bucket_in),
      ) (omega arith)

  went_at : (r : ℕ) → r < old → start_at w r + 10 * nanos < time
  went_at r l = omega (arith, stale_old time w.seconds w.starts r l)

  stayed_at : (r : ℕ) → old ≤ r → r < w.seconds → time ≤ start_at w r + 10 * nanos
  stayed_at r a l =
      omega (arith, stale_next time w.seconds w.starts (omega (arith, h.few, h.ls)) (omega arith), later w h old r a l)

  room_left : opens time (w.seconds - old) (shifted old w.starts) ≡ true → w.seconds - old < 11
  unfolding dropped_in_place
  room_left e = open_fits time (dropped_in_place time w) (dropped_whole time w h) (near time w h) e

  made_pushed : (o : Bool) → opens time w.seconds w.starts ≡ o → Pushed lag time w (made o)
  made_pushed true e =
      let m : ℕ = w.seconds - old in
      let d : opens time m (shifted old w.starts) ≡ true = opens_dropped time w.seconds w.starts ∙ e in
      let room : m < 11 = room_left d in
      record {
        gone = old;
        gone_le = stale_le time w.seconds w.starts;
        went = went_at;
        stayed = stayed_at;
        same_width = refl;
        same_buckets = refl;
        opened =
            opening (omega (arith, stale_le time w.seconds w.starts))
            (get_or-set_same (shifted old w.starts) m time 0 (omega (arith, shifted_length old w.starts, h.ls)))
            (λ r q. let z : w.seconds - 1 ≡ r = omega arith in omega (arith, rw z at (opens_old time w.seconds w.starts e (omega arith))));
        old_start = λ r s q l. get_or-set_other (shifted old w.starts) m r time 0 (λ z. omega (arith, stale_le time w.seconds w.starts)) ∙ (shifted_at old w.starts r ∙ ap (start_at w) (sym q));
        old_count_law = λ r b l f. other_count (m + 1) r b (omega arith) l f;
        new_count = λ r q. this_count (m + 1) r (omega arith) q;
      }
  made_pushed false e =
      let m : ℕ = w.seconds - old in
      let d : opens time m (shifted old w.starts) ≡ false = opens_dropped time w.seconds w.starts ∙ e in
      let used : 0 < m = opens_used time m (shifted old w.starts) d in
      record {
        gone = old;
        gone_le = stale_le time w.seconds w.starts;
        went = went_at;
        stayed = stayed_at;
        same_width = refl;
        same_buckets = refl;
        opened = staying (omega (arith, stale_le time w.seconds w.starts)) (opens_not time w.seconds w.starts e) (omega arith);
        old_start = λ r s q l. shifted_at old w.starts r ∙ ap (start_at w) (sym q);
        old_count_law = λ r b l f. other_count m r b used l f;
        new_count = λ r q. this_count m r (omega (arith, h.few)) q;
      }

  made_is : made (opens time (w.seconds - old) (shifted old w.starts)) ≡ pushed_in_place lag time w
  unfolding pushed_in_place dropped_in_place opened_in_place counted
  made_is = refl

  pub pushed_facts : Pushed lag time w (pushed lag time w)
  pushed_facts =
      rw (← in_place lag time w h some, ← made_is, opens_dropped time w.seconds w.starts)
      (made_pushed (opens time w.seconds w.starts) refl)
