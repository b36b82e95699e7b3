-- A push in document 01's order, on the seconds in use, is the push that the code makes on the 11 lent places. Assumes nothing.
use Prim.Native.Nat.{ℕ, zero, suc, ◌+◌, ◌-◌, ◌*◌, ◌<◌, ◌≤◌}
use mathlib.Core.Bool.{Bool, true, false}
use mathlib.Core.Path.{◌≡◌, refl, sym, ap, subst, ◌∙◌}
use mathlib.Core.List.{List, [], ◌∷◌, ◌++◌}
use native.Mathlib.Nat.{sub_self, not-suc-le-zero, le_of_suc-le-suc, add-mul, suc-mul}
use native.Mathlib.Numerals.{add-one}
use native.Mathlib.Omega.{arith}
use lib.ListN.{length, get_or, set, drop, replicate, length-append, length-drop, length-set, length-replicate}
use lib.Seq.{get_or-drop, drop-append-le, length-take-le}
use Rattle.base.specs.Choice.{pick}
use Rattle.base.specs.Lists.{padded, shifted}
use Rattle.base.proofs.Points.{shifted_at}
use Rattle.base.proofs.Pads.{get_or_padded, padded_push, shifted_padded, take_padded, padded_take, padded_zeros, padded_bumped}
use Rattle.base.proofs.Flat.{row_le, flat_lt}
use Rattle.rules_window.specs.Window.{Window, in_use, laid, opens, added, opened, stale, without, dropped, bucket_of, counted, pushed}
use Rattle.rules_window.specs.InPlace.{dropped_in_place, opened_in_place, pushed_in_place}
use Rattle.rules_window.proofs.Stales.{stale_le}
use Rattle.rules_window.proofs.WholeAt.{Whole}
use Rattle.rules_window.proofs.Keeps.{dropped_whole, opens_dropped, open_fits, near, opened_pos, bucket_lt}

-- ---- old seconds and opening, read in the seconds in use
stale_append : (t n : ℕ) (xs ys : List ℕ) → n ≤ length xs → stale t n (xs ++ ys) ≡ stale t n xs
stale_append t zero xs ys h = refl
stale_append t (suc n) [] ys h = absurd (not-suc-le-zero h)
stale_append t (suc n) (x ∷ xs) ys h = rw (stale_append t n xs ys (le_of_suc-le-suc h))

stale_padded : (t n m : ℕ) (xs : List ℕ) → n ≤ length xs → stale t n (padded m xs) ≡ stale t n xs
unfolding padded
stale_padded t n m xs h = stale_append t n xs (replicate (m - length xs) 0) h

-- a second that opens now is not old
stale_next_added : (t n : ℕ) (xs : List ℕ) → length xs ≡ n → stale t (suc n) (xs ++ t ∷ []) ≡ stale t n xs
stale_next_added t zero [] e = rw (sub_self t)
stale_next_added t zero (x ∷ xs) e = absurd (omega arith)
stale_next_added t (suc n) [] e = absurd (omega arith)
stale_next_added t (suc n) (x ∷ xs) e = rw (stale_next_added t n xs (omega arith))

stale_added : (t n : ℕ) (xs : List ℕ) → length xs ≡ n → stale t (n + 1) (xs ++ t ∷ []) ≡ stale t n xs
stale_added t n xs e = rw add-one (stale_next_added t n xs e)

-- whether a second opens is told by the newest start alone
opens_ext : (t n : ℕ) (xs ys : List ℕ) → ((i : ℕ) → get_or xs i 0 ≡ get_or ys i 0) → opens t n xs ≡ opens t n ys
opens_ext t zero xs ys f = refl
opens_ext t (suc n) xs ys f = rw (f n)

opens_padded : (t n m : ℕ) (xs : List ℕ) → opens t n (padded m xs) ≡ opens t n xs
opens_padded t n m xs = opens_ext t n (padded m xs) xs (get_or_padded m xs)

opens_without : (t n : ℕ) (xs : List ℕ) → opens t (n - stale t n xs) (drop (stale t n xs) xs) ≡ opens t n xs
opens_without t n xs =
    let k : ℕ = stale t n xs in
    opens_ext t (n - k) (drop k xs) (shifted k xs) (λ i. get_or-drop k xs i 0 ∙ sym (shifted_at k xs i)) ∙ opens_dropped t n xs

-- ---- a window whose lists hold the seconds in use and nothing else
pub record Exact (u : Window) : Type 0 where
  pub few : u.seconds ≤ 11
  pub es : length u.starts ≡ u.seconds
  pub et : length u.totals ≡ u.seconds
  pub ec : length u.counts ≡ u.seconds * u.buckets

pub in_use_exact : (w : Window) → Whole w → Exact (in_use w)
unfolding in_use
in_use_exact w h =
    record {
      few = h.few;
      es = length-take-le w.seconds w.starts (omega (arith, h.few, h.ls));
      et = length-take-le w.seconds w.totals (omega (arith, h.few, h.lt));
      ec = length-take-le (w.seconds * w.buckets) w.counts (omega (arith, h.lc, row_le w.seconds 11 w.buckets h.few));
    }

pub laid_in_use : (w : Window) → Whole w → laid (in_use w) ≡ w
unfolding laid in_use
laid_in_use w h =
    rw (
      padded_take 11 w.seconds w.starts h.ls h.few h.blank_s,
      padded_take 11 w.seconds w.totals h.lt h.few h.blank_t,
      padded_take (11 * w.buckets) (w.seconds * w.buckets) w.counts h.lc (row_le w.seconds 11 w.buckets h.few) h.blank_c,
    )

-- ---- old seconds go
module _ (t : ℕ) (u : Window) (h : Exact u) where
  abbrev k : ℕ
  k = stale t u.seconds u.starts

  within_rows : k * u.buckets ≤ length u.counts
  within_rows = omega (arith, h.ec, row_le k u.seconds u.buckets (stale_le t u.seconds u.starts))

  pub dropped_laid : dropped_in_place t (laid u) ≡ laid (dropped t u)
  unfolding dropped_in_place laid dropped
  dropped_laid =
      rw (
        stale_padded t u.seconds 11 u.starts (omega (arith, h.es)),
        shifted_padded 11 k u.starts (omega (arith, h.es, stale_le t u.seconds u.starts)) (omega (arith, h.es, h.few)),
        shifted_padded 11 k u.totals (omega (arith, h.et, stale_le t u.seconds u.starts)) (omega (arith, h.et, h.few)),
        shifted_padded (11 * u.buckets) (k * u.buckets) u.counts within_rows (omega (arith, h.ec, row_le u.seconds 11 u.buckets h.few)),
      )

  pub dropped_exact : Exact (dropped t u)
  unfolding dropped
  dropped_exact =
      record {
        few = omega (arith, h.few);
        es = length-drop k u.starts ∙ ap (λ (n : ℕ). n - k) h.es;
        et = length-drop k u.totals ∙ ap (λ (n : ℕ). n - k) h.et;
        ec = length-drop (k * u.buckets) u.counts ∙ rows;
      }
    where
      rows : length u.counts - k * u.buckets ≡ (u.seconds - k) * u.buckets
      rows =
          let q : u.seconds - k + k ≡ u.seconds = omega (arith, stale_le t u.seconds u.starts) in
          omega (arith, h.ec, add-mul (u.seconds - k) k u.buckets, ap (λ (n : ℕ). n * u.buckets) q)

-- ---- a second opens
module _ (t : ℕ) (u : Window) (h : Exact u) (room : opens t u.seconds u.starts ≡ true → u.seconds < 11) where
  pub opened_laid : opened_in_place t (laid u) ≡ laid (opened t u)
  unfolding opened_in_place laid opened
  opened_laid = rw (opens_padded t u.seconds 11 u.starts) (go (opens t u.seconds u.starts) refl)
    where
      placed : u.seconds < 11 → set (padded 11 u.starts) u.seconds t ≡ padded 11 (u.starts ++ t ∷ [])
      placed l = rw (← h.es) (padded_push 11 u.starts t (omega (arith, h.es)))

      laid_now : Bool → Window
      laid_now b = record { seconds = pick b (u.seconds + 1) u.seconds; buckets = u.buckets; width = u.width; starts = pick b (set (padded 11 u.starts) u.seconds t) (padded 11 u.starts); totals = padded 11 u.totals; counts = padded (11 * u.buckets) u.counts }

      go : (b : Bool) → opens t u.seconds u.starts ≡ b → laid_now b ≡ laid (pick b (added t u) u)
      go true e =
          rw (
            placed (room e),
            padded_zeros 11 1 u.totals (omega (arith, h.et, room e)),
            padded_zeros (11 * u.buckets) u.buckets u.counts (omega (arith, h.ec, row_le (suc u.seconds) 11 u.buckets (room e), suc-mul u.seconds u.buckets)),
          )
      go false e = refl

  pub opened_exact : Exact (opened t u)
  unfolding opened
  opened_exact = go (opens t u.seconds u.starts) refl
    where
      go : (b : Bool) → opens t u.seconds u.starts ≡ b → Exact (pick b (added t u) u)
      go true e =
          record {
            few = omega (arith, room e);
            es = length-append u.starts (t ∷ []) ∙ ap (λ (n : ℕ). n + 1) h.es;
            et = length-append u.totals (0 ∷ []) ∙ ap (λ (n : ℕ). n + 1) h.et;
            ec = length-append u.counts (replicate u.buckets 0) ∙ omega (arith, h.ec, length-replicate {A = ℕ} u.buckets 0, add-mul u.seconds 1 u.buckets);
          }
      go false e = h

-- ---- a lag counts
pub counted_laid : (lag : ℕ) (u : Window) → Exact u → 0 < u.seconds → 0 < u.buckets → counted lag (laid u) ≡ laid (counted lag u)
unfolding counted laid
counted_laid lag u h pos some =
    rw (
      padded_bumped 11 u.totals (u.seconds - 1) (omega (arith, h.et)),
      padded_bumped (11 * u.buckets) u.counts ((u.seconds - 1) * u.buckets + b) (omega (arith, h.ec, flat_lt (u.seconds - 1) u.seconds u.buckets b (omega arith) (bucket_lt lag u.width u.buckets some))),
    )
  where
    b : ℕ
    b = bucket_of lag u.width u.buckets

-- ---- to drop and then open is to open and then drop
pub drop_then_open : (t : ℕ) (u : Window) → Exact u → opened t (dropped t u) ≡ dropped t (opened t u)
unfolding opened dropped
drop_then_open t u h = rw (opens_without t u.seconds u.starts) (go (opens t u.seconds u.starts))
  where
    k : ℕ
    k = stale t u.seconds u.starts

    le : k ≤ u.seconds
    le = stale_le t u.seconds u.starts

    go : (b : Bool) → pick b (added t (without k u)) (without k u) ≡ dropped t (pick b (added t u) u)
    go true =
        let q : u.seconds + 1 - k ≡ u.seconds - k + 1 = omega (arith, le) in
        rw (
          stale_added t u.seconds u.starts h.es,
          q,
          drop-append-le k u.starts (t ∷ []) (omega (arith, le, h.es)),
          drop-append-le k u.totals (0 ∷ []) (omega (arith, le, h.et)),
          drop-append-le (k * u.buckets) u.counts (replicate u.buckets 0) (within_rows t u h),
        )
    go false = refl

-- ---- the push
opened_buckets : (t : ℕ) (u : Window) → (opened t u).buckets ≡ u.buckets
unfolding opened
opened_buckets t u = go (opens t u.seconds u.starts)
  where
    go : (b : Bool) → (pick b (added t u) u).buckets ≡ u.buckets
    go true = refl
    go false = refl

-- there is room for a second that opens once the old ones are gone
open_room : (t : ℕ) (w : Window) → Whole w → opens t (dropped t (in_use w)).seconds (dropped t (in_use w)).starts ≡ true → (dropped t (in_use w)).seconds < 11
unfolding laid
open_room t w h o =
    subst (λ (x : Window). opens t x.seconds x.starts ≡ true → x.seconds < 11)
    (ap (dropped_in_place t) (sym (laid_in_use w h)) ∙ dropped_laid t (in_use w) (in_use_exact w h))
    (open_fits t (dropped_in_place t w) (dropped_whole t w h) (near t w h))
    (opens_padded t (dropped t (in_use w)).seconds 11 (dropped t (in_use w)).starts ∙ o)

pub in_place : (lag t : ℕ) (w : Window) → Whole w → 0 < w.buckets → pushed_in_place lag t w ≡ pushed lag t w
unfolding pushed_in_place pushed laid in_use dropped
in_place lag t w h some =
    ap (counted lag) second
    ∙ (counted_laid lag (opened t v) (opened_exact t v vx room) pos (rw (opened_buckets t v) some)
    ∙ ap (λ (x : Window). laid (counted lag x)) (drop_then_open t u ux))
  where
    u : Window
    u = in_use w

    ux : Exact u
    ux = in_use_exact w h

    v : Window
    v = dropped t u

    vx : Exact v
    vx = dropped_exact t u ux

    first : dropped_in_place t w ≡ laid v
    first = ap (dropped_in_place t) (sym (laid_in_use w h)) ∙ dropped_laid t u ux

    room : opens t v.seconds v.starts ≡ true → v.seconds < 11
    room = open_room t w h

    second : opened_in_place t (dropped_in_place t w) ≡ laid (opened t v)
    second = ap (opened_in_place t) first ∙ opened_laid t v vx room

    pos : 0 < (opened t v).seconds
    pos = subst (λ (x : Window). 0 < x.seconds) (opened_laid t v vx room) (opened_pos t (laid v))

-- ---- the seconds in use after a push
pub in_use_laid : (u : Window) → Exact u → in_use (laid u) ≡ u
unfolding in_use laid
in_use_laid u h =
    rw (
      take_padded 11 u.starts u.seconds h.es,
      take_padded 11 u.totals u.seconds h.et,
      take_padded (11 * u.buckets) u.counts (u.seconds * u.buckets) h.ec,
    )

counted_exact : (lag : ℕ) (u : Window) → Exact u → Exact (counted lag u)
unfolding counted
counted_exact lag u h =
    record { few = h.few; es = h.es; et = length-set u.totals _ _ ∙ h.et; ec = length-set u.counts _ _ ∙ h.ec }

-- the seconds in use after a push: document 01's three steps on the seconds in use before it
pub pushed_in_use : (lag t : ℕ) (w : Window) → Whole w → in_use (pushed lag t w) ≡ counted lag (dropped t (opened t (in_use w)))
unfolding pushed
pushed_in_use lag t w h =
    in_use_laid (counted lag (dropped t (opened t (in_use w))))
    (counted_exact lag (dropped t (opened t (in_use w))) (subst Exact (drop_then_open t (in_use w) (in_use_exact w h)) (opened_exact t (dropped t (in_use w)) (dropped_exact t (in_use w) (in_use_exact w h)) (open_room t w h))))
