-- The row of sums after each step of a push, and of a window without seconds. Assumes nothing.
use Prim.Native.Nat.{ℕ, ◌+◌, ◌-◌, ◌*◌, ◌<◌, ◌≤◌}
use mathlib.Core.Path.{◌≡◌, refl, sym, ap, ◌∙◌}
use mathlib.Core.List.{List}
use native.Mathlib.Nat.{add-mul}
use native.Mathlib.Omega.{arith}
use borrow.Author.Tests.{eqb-true, eqb-false}
use lib.Dec.{eqb}
use lib.ListN.{length, get_or, replicate, length-set, length-replicate}
use Rattle.base.specs.Lists.{shifted, bumped, sum}
use Rattle.base.specs.Limits.{time_limit}
use Rattle.base.proofs.Choices.{by_bool}
use Rattle.base.proofs.Flat.{row_le, flat_lt, same_row}
use Rattle.base.proofs.All.{sum_more}
use Rattle.base.proofs.Listed.{listed_at, listed_is, listed_cong}
use Rattle.base.proofs.Points.{shifted_at, zeros_at, sum_cong, sum_bump}
use Rattle.rules_window.specs.Window.{Window, fresh, stale, opens, bucket_of, counted, pushed}
use Rattle.rules_window.specs.WholeWindow.{Sound}
use Rattle.rules_window.specs.Quantile.{column, lags_in}
use Rattle.rules_window.specs.ColumnSums.{column_sums}
use Rattle.rules_window.specs.InPlace.{less_row, less_rows, shifted_by, dropped_in_place, opened_in_place, pushed_in_place}
use Rattle.rules_window.proofs.ColumnSums.{sums_length, sums_at, sums_are}
use Rattle.rules_window.proofs.Sums.{sum_split, sum_rises, sum_past}
use Rattle.rules_window.proofs.WholeAt.{Whole, whole_of}
use Rattle.rules_window.proofs.Keeps.{dropped_whole, appended, opened_yes_is, opened_no_is, opened_whole, bumped_same, bumped_other, bucket_lt, near, opened_pos}
use Rattle.rules_window.proofs.InUse.{in_place}
use Rattle.rules_window.proofs.Stales.{stale_le}

-- a window without seconds
pub fresh_sums : (B W : ℕ) → column_sums (fresh B W) ≡ replicate B 0
unfolding fresh column sum
fresh_sums B W = sym (sums_are (fresh B W) (replicate B 0) (length-replicate {A = ℕ} B 0) (λ b l. zeros_at B b))

-- ---- k seconds go
module _ (B b k : ℕ) (cs : List ℕ) where
  column_later : (n : ℕ) → column B b (k + n) cs ≡ column B b k cs + column B b n (shifted (k * B) cs)
  unfolding column
  column_later n =
      sum_split (λ r. get_or cs (r * B + b) 0) k n
      ∙ ap (λ (x : ℕ). sum (λ r. get_or cs (r * B + b) 0) k + x) (sum_cong _ _ n (λ r l. sym (shifted_at (k * B) cs (r * B + b) ∙ ap (λ (i : ℕ). get_or cs i 0) (place r))))
    where
      place : (r : ℕ) → k * B + (r * B + b) ≡ (k + r) * B + b
      place r = omega (arith, add-mul k r B)

-- each sum is less by the lags of the seconds that go
pub shifted_sums : (k : ℕ) (w : Window) → k ≤ w.seconds → column_sums (shifted_by k w) ≡ less_rows w.buckets k w.counts (column_sums w)
unfolding less_rows
shifted_sums k w l =
    let all : k + (w.seconds - k) ≡ w.seconds = omega arith in
    listed_is _ w.buckets (column_sums (shifted_by k w)) (sums_length (shifted_by k w))
    (λ b h. omega (arith, sums_at (shifted_by k w) b h, sums_at w b h, column_later w.buckets b k w.counts (w.seconds - k), ap (λ (n : ℕ). column w.buckets b n w.counts) all))

pub dropped_sums : (t : ℕ) (w : Window) → column_sums (dropped_in_place t w) ≡ less_rows w.buckets (stale t w.seconds w.starts) w.counts (column_sums w)
unfolding dropped_in_place
dropped_sums t w = shifted_sums (stale t w.seconds w.starts) w (stale_le t w.seconds w.starts)

-- a sum has the lags of the seconds that go
pub rows_in_sums : (k : ℕ) (w : Window) → k ≤ w.seconds → (b : ℕ) → b < w.buckets → column w.buckets b k w.counts ≤ get_or (column_sums w) b 0
unfolding column
rows_in_sums k w l b h = omega (arith, sums_at w b h, sum_rises (λ r. get_or w.counts (r * w.buckets + b) 0) k w.seconds l)

-- taken off row by row
pub less_none : (B : ℕ) (cs us : List ℕ) → length us ≡ B → us ≡ less_rows B 0 cs us
unfolding less_rows column sum
less_none B cs us e = listed_is _ B us e (λ b l. omega arith)

pub less_more : (B r : ℕ) (cs us vs : List ℕ) → vs ≡ less_rows B r cs us → less_row B r cs vs ≡ less_rows B (r + 1) cs us
unfolding less_row less_rows column
less_more B r cs us vs e =
    listed_cong _ _ B (λ b l. rw (e, listed_at (λ b. get_or us b 0 - sum (λ r. get_or cs (r * B + b) 0) r) B b l) (omega (arith, sum_more (λ r. get_or cs (r * B + b) 0) r _ _ refl refl)))

-- ---- a second opens: its row is blank
one_more : (t : ℕ) (w : Window) → Whole w → (b : ℕ) → lags_in (appended t w) b ≡ lags_in w b
unfolding column
one_more t w h b = sum_past (λ r. get_or w.counts (r * w.buckets + b) 0) w.seconds (w.seconds + 1) (omega arith) (λ r g k. h.blank_c (r * w.buckets + b) (omega (arith, row_le w.seconds r w.buckets g)))

pub opened_sums : (t : ℕ) (w : Window) → Whole w → column_sums (opened_in_place t w) ≡ column_sums w
opened_sums t w h =
    by_bool (opens t w.seconds w.starts)
    (λ o. ap column_sums (opened_yes_is t w o) ∙ sums_are w (column_sums (appended t w)) (sums_length (appended t w)) (λ b l. sums_at (appended t w) b l ∙ one_more t w h b))
    (λ o. ap column_sums (opened_no_is t w o))

-- ---- a lag counts: one more in its bucket
module _ (B q c n : ℕ) (cs : List ℕ) (l : c < B) (h : q < n) (fits : q * B + c < length cs) where
  column_bumped : column B c n (bumped (q * B + c) cs) ≡ column B c n cs + 1
  unfolding column
  column_bumped = sum_bump _ _ n q h (bumped_same cs (q * B + c) fits) (λ r g. bumped_other cs (q * B + c) (r * B + c) (λ z. g (same_row B r c q c l l z)))

  column_other : (b : ℕ) → b < B → (b ≡ c → ⊥) → column B b n (bumped (q * B + c) cs) ≡ column B b n cs
  unfolding column
  column_other b k g = sum_cong _ _ n (λ r m. bumped_other cs (q * B + c) (r * B + b) (λ z. let e : r ≡ q = same_row B r b q c k l z in g (omega (arith, z, ap (λ (x : ℕ). x * B) e))))

pub counted_sums : (lag : ℕ) (w : Window) → Whole w → 0 < w.seconds → 0 < w.buckets → column_sums (counted lag w) ≡ bumped (bucket_of lag w.width w.buckets) (column_sums w)
unfolding counted
counted_sums lag w h pos some =
    sym (sums_are (counted lag w) (bumped c (column_sums w)) (length-set (column_sums w) c _ ∙ sums_length w)
    (λ b l. by_bool (eqb b c) (λ e. here b (eqb-true b c e)) (λ e. there b l (eqb-false b c e))))
  where
    c : ℕ
    c = bucket_of lag w.width w.buckets

    q : ℕ
    q = w.seconds - 1

    in_row : c < w.buckets
    in_row = bucket_lt lag w.width w.buckets some

    fits : q * w.buckets + c < length w.counts
    fits = omega (arith, flat_lt q 11 w.buckets c (omega (arith, h.few)) in_row, h.lc)

    here : (b : ℕ) → b ≡ c → get_or (bumped c (column_sums w)) b 0 ≡ column w.buckets b w.seconds (bumped (q * w.buckets + c) w.counts)
    here b e =
        rw e (bumped_same (column_sums w) c (rw (sums_length w) in_row)
        ∙ (ap (λ (x : ℕ). x + 1) (sums_at w c in_row) ∙ sym (column_bumped w.buckets q c w.seconds w.counts in_row (omega arith) fits)))

    there : (b : ℕ) → b < w.buckets → (b ≡ c → ⊥) → get_or (bumped c (column_sums w)) b 0 ≡ column w.buckets b w.seconds (bumped (q * w.buckets + c) w.counts)
    there b l g = bumped_other (column_sums w) c b g ∙ (sums_at w b l ∙ sym (column_other w.buckets q c w.seconds w.counts in_row (omega arith) fits b l g))

-- ---- a push
pub pushed_sums : (lag t : ℕ) (w : Window) → Sound w → t ≤ time_limit → column_sums (pushed lag t w) ≡ bumped (bucket_of lag w.width w.buckets) (column_sums (dropped_in_place t w))
unfolding pushed_in_place opened_in_place dropped_in_place
pushed_sums lag t w s soon =
    let h : Whole w = whole_of w s in
    let d : Whole (dropped_in_place t w) = dropped_whole t w h in
    let o : Whole (opened_in_place t (dropped_in_place t w)) = opened_whole t (dropped_in_place t w) d soon (near t w h) in
    ap column_sums (sym (in_place lag t w h (omega (arith, s.shaped.buckets_low))))
    ∙ (counted_sums lag (opened_in_place t (dropped_in_place t w)) o (opened_pos t (dropped_in_place t w)) (omega (arith, s.shaped.buckets_low))
    ∙ ap (bumped (bucket_of lag w.width w.buckets)) (opened_sums t (dropped_in_place t w) d))
