-- The seconds of a window over a stretch from `began` on that brings no lag above bucket c: what a push keeps. Assumes nothing.
use Prim.Native.Nat.{ℕ, suc, ◌+◌, ◌-◌, ◌*◌, ◌≤◌, ◌<◌}
use mathlib.Core.Path.{◌≡◌, refl, ◌∙◌}
use native.Mathlib.Omega.{arith}
use Rattle.base.specs.Limits.{nanos}
use Rattle.base.proofs.Choices.{by_le}
use Rattle.base.proofs.Flat.{row_le}
use Rattle.rules_window.specs.Window.{Window, bucket_of}
use Rattle.rules_window.proofs.WholeAt.{Whole}
use Rattle.rules_window.proofs.Keeps.{bucket_lt}
use Rattle.history.proofs.Pushed.{start_at, count_at, Opening, opening, staying, Pushed}
use Rattle.history.proofs.Quantiles.{LowCounts, HasLag}

-- no second was opened after t
abbrev pub StartsTill : ℕ → Window → Type 0
StartsTill t w = (r : ℕ) → r < w.seconds → start_at w r ≤ t

-- seconds opened after `began` have no count above bucket c
abbrev pub Clean : (began c : ℕ) → Window → Type 0
Clean began c w = (r b : ℕ) → r < w.seconds → began < start_at w r → c < b → b < w.buckets → count_at w r b ≡ 0

-- every second is at most 10 s old
abbrev pub Young : ℕ → Window → Type 0
Young t w = (r : ℕ) → r < w.seconds → t ≤ start_at w r + 10 * nanos

-- the second before second r is 1 to 6 s older
pub record Recent (w : Window) (r : ℕ) : Type 0 where
  pub before : ℕ
  pub follows : before + 1 ≡ r
  pub apart : start_at w before + nanos ≤ start_at w r
  pub close : start_at w r ≤ start_at w before + 6 * nanos

-- the newest second is under 1 s old, and has one before it where it was opened after `began`
pub record Newest (began t : ℕ) (w : Window) : Type 0 where
  pub row : ℕ
  pub last : row + 1 ≡ w.seconds
  pub fresh : t < start_at w row + nanos
  pub recent : began < start_at w row → Recent w row

-- before a push at `time`: the newest second is under 6 s old, and has one before it
pub record Near (began time : ℕ) (w : Window) : Type 0 where
  pub empty : w.seconds ≡ 0 → time ≤ began
  pub close : (r : ℕ) → r + 1 ≡ w.seconds → began < time → time < start_at w r + 6 * nanos
  pub recent : (r : ℕ) → r + 1 ≡ w.seconds → began < start_at w r → Recent w r

module _ (lag time : ℕ) (w v : Window) (p : Pushed lag time w v) where
  -- a second is one that stayed, or the one that opened
  by_second : {C : Type 0} (r : ℕ) → r < v.seconds → (p.gone + r < w.seconds → C) → (start_at v r ≡ time → C) → C
  by_second {C} r l f g = by_le (suc (p.gone + r)) w.seconds f (λ k. new k p.opened)
    where
      new : w.seconds < suc (p.gone + r) → Opening p.gone time w v → C
      new k (opening n s o) = let q : w.seconds - p.gone ≡ r = omega (arith, p.gone_le) in g (rw q at s)
      new k (staying n s o) = absurd (omega arith)

  pub till_pushed : StartsTill time w → StartsTill time v
  till_pushed h r l =
      by_second r l (λ k. omega (arith, p.old_start r (p.gone + r) refl k, h (p.gone + r) k)) (λ e. omega arith)

  pub young_pushed : Young time v
  young_pushed r l =
      by_second r l (λ k. omega (arith, p.old_start r (p.gone + r) refl k, p.stayed (p.gone + r) (omega arith) k)) (λ e. omega arith)

  module _ (h : Whole w) (began : ℕ) where
    pub clean_pushed : (c : ℕ) → bucket_of lag w.width w.buckets ≤ c → Clean began c w → Clean began c v
    clean_pushed c low k r b l s g m =
        let n : b < w.buckets = omega (arith, p.same_buckets) in
        p.old_count_law r b n (λ e f. omega arith)
        ∙ by_le (suc (p.gone + r)) w.seconds
        (λ o. k (p.gone + r) b o (omega (arith, p.old_start r (p.gone + r) refl o)) g n)
        (λ o. h.blank_c ((p.gone + r) * w.buckets + b) (omega (arith, row_le w.seconds (p.gone + r) w.buckets (omega arith))))

    -- where a second opens
    recent_opened :
        (r : ℕ) → Near began time w → r + 1 ≡ v.seconds → v.seconds + p.gone ≡ w.seconds + 1 → start_at v r ≡ time →
        ((s : ℕ) → s + 1 ≡ w.seconds → start_at w s + nanos ≤ time) → began < time → Recent v r
    recent_opened r n q e s o later =
        let used : 0 < w.seconds = by_le w.seconds 0 (λ z. absurd (omega (arith, n.empty (omega arith)))) (λ z. z) in
        let m : ℕ = w.seconds - 1 in
        let close : time < start_at w m + 6 * nanos = n.close m (omega arith) later in
        let stays : p.gone ≤ m = by_le p.gone m (λ z. z) (λ z. absurd (omega (arith, p.went m z))) in
        let old : start_at v (m - p.gone) ≡ start_at w m = p.old_start (m - p.gone) m (omega arith) (omega arith) in
        record {
          before = m - p.gone;
          follows = omega arith;
          apart = omega (arith, o m (omega arith));
          close = omega arith;
        }

    -- where none does
    recent_stayed :
        (r m : ℕ) → m + 1 ≡ w.seconds → r + 1 ≡ v.seconds → v.seconds + p.gone ≡ w.seconds → p.gone < w.seconds →
        time < start_at w m + nanos → start_at v r ≡ start_at w m → Recent w m → Recent v r
    recent_stayed r m a q e g s old n =
        let stays : p.gone ≤ n.before = by_le p.gone n.before (λ z. z) (λ z. absurd (omega (arith, p.went n.before z))) in
        let older : start_at v (n.before - p.gone) ≡ start_at w n.before = p.old_start (n.before - p.gone) n.before (omega arith) (omega (arith, n.follows)) in
        record {
          before = n.before - p.gone;
          follows = omega (arith, n.follows);
          apart = omega (arith, n.apart);
          close = omega (arith, n.close);
        }

    pub newest_pushed : Near began time w → Newest began time v
    newest_pushed n = go p.opened
      where
        go : Opening p.gone time w v → Newest began time v
        go (opening e s o) =
            record {
              row = w.seconds - p.gone;
              last = omega (arith, p.gone_le);
              fresh = omega arith;
              recent = λ l. recent_opened (w.seconds - p.gone) n (omega (arith, p.gone_le)) e s o (omega arith);
            }
        go (staying e s g) =
            let m : ℕ = w.seconds - 1 in
            let young : time < start_at w m + nanos = s m (omega arith) in
            let old : start_at v (m - p.gone) ≡ start_at w m = p.old_start (m - p.gone) m (omega arith) (omega arith) in
            record {
              row = m - p.gone;
              last = omega arith;
              fresh = omega arith;
              recent = λ l. recent_stayed (m - p.gone) m (omega arith) (omega arith) e g young old (n.recent m (omega arith) (omega arith));
            }

    -- the lag is counted in the newest second
    pub lag_pushed :
        (c limit : ℕ) → 0 < w.buckets → bucket_of lag w.width w.buckets ≤ c → bucket_of lag w.width w.buckets * w.width ≤ limit →
        Newest began time v → HasLag c limit v
    lag_pushed c limit some low reaches n =
        record {
          row = n.row;
          bucket = bucket_of lag w.width w.buckets;
          row_in = omega (arith, n.last);
          bucket_in = omega (arith, p.same_buckets, bucket_lt lag w.width w.buckets some);
          low = low;
          reaches = rw p.same_width reaches;
          counted = p.new_count n.row n.last;
        }

-- a later tick, at most 5 s after the one before
pub newest_near : (began t time : ℕ) (w : Window) → time ≤ t + 5 * nanos → Newest began t w → Near began time w
newest_near began t time w h n =
    record {
      empty = λ z. absurd (omega (arith, n.last));
      close = λ r q l. let e : n.row ≡ r = omega (arith, n.last) in rw e at (near_by);
      recent = λ r q l. let e : n.row ≡ r = omega (arith, n.last) in recent_by r e l;
    }
  where
    near_by : time < start_at w n.row + 6 * nanos
    near_by = omega (arith, n.fresh)

    recent_by : (r : ℕ) → n.row ≡ r → began < start_at w r → Recent w r
    recent_by r e l = rw e at (n.recent (rw e l))

-- the first tick, at `began`: no second was opened after it
pub till_near : (began : ℕ) (w : Window) → StartsTill began w → Near began began w
till_near began w h =
    record {
      empty = λ z. omega arith;
      close = λ r q l. absurd (omega arith);
      recent = λ r q l. absurd (omega (arith, h r (omega arith)));
    }

pub till_clean : (began c : ℕ) (w : Window) → StartsTill began w → Clean began c w
till_clean began c w h r b l s g k = absurd (omega (arith, h r l))

-- past `began` + 10 s no second is left from before
pub young_low : (began c t : ℕ) (w : Window) → began + 10 * nanos < t → Young t w → Clean began c w → LowCounts c w
young_low began c t w h y k r b l g m = k r b l (omega (arith, y r l)) g m
