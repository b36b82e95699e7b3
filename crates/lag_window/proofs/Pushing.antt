-- The steps of a push and the room check, as the code makes them. Assumes nothing.
use Rattle.std.specs.Prelude.{◌≡◌, ℕ, ◌+◌, ◌-◌, ◌*◌, ◌^◌, ◌<◌, ◌≤◌, Bool, true, false, List, length, get_or, set, take}
use mathlib.Core.Path.{sym, ap, ◌∙◌}
use native.Mathlib.Omega.{arith}
use native.Mathlib.Nat.{sub-zero, zero-mul}
use mir.Syntax.{w32, w64}
use mir.Val.{Fits}
use Rattle.base.specs.Lists.{shifted, bumped}
use Rattle.base.specs.Limits.{buckets_limit}
use Rattle.base.proofs.Flat.{row_le, flat_lt}
use Rattle.base.proofs.Toward.{shifted_zero}
use Rattle.lag_window.specs.declared.LagWindow.{LagWindow}
use Rattle.rules_window.specs.Window.{stale, opens, bucket_of, counted}
use Rattle.lag_window.specs.Lent.{lent}
use Rattle.rules_window.specs.Quantile.{column}
use Rattle.rules_window.specs.ColumnSums.{column_sums}
use Rattle.rules_window.specs.InPlace.{less_rows, dropped_in_place, opened_in_place}
use Rattle.rules_window.proofs.ColumnSums.{sums_length}
use Rattle.rules_window.proofs.Stales.{stale_le, stale_part, opens_part}
use Rattle.rules_window.proofs.SumsKept.{dropped_sums, rows_in_sums}

-- ---- old seconds go: k of them
-- how many these are, as the code counts them in a view of the starts in use
pub stale_told : (t n : ℕ) (seen xs : List ℕ) (k : ℕ) → seen ≡ xs → n ≤ length xs → k ≡ stale t (length (take n seen)) (take n seen) → k ≡ stale t n xs
stale_told t n seen xs k e h q = q ∙ rw e (stale_part t n xs h)

module _ (t n : ℕ) (xs : List ℕ) (k : ℕ) (e : k ≡ stale t n xs) where
  pub old_le : k ≤ n
  old_le = omega (arith, stale_le t n xs)

  pub old_rows_fit : (B : ℕ) (ys : List ℕ) → n ≤ 11 → length ys ≡ 11 * B → length ys < 2 ^ 64 → Fits w64 (k * B)
  old_rows_fit B ys h l f = omega (arith, stale_le t n xs, row_le k 11 B (omega (arith, stale_le t n xs)))

pub dropped_by : (w : LagWindow) (time k : ℕ) (s s' t t' c c' : List ℕ) → k ≡ stale time w.seconds s → s' ≡ shifted k s → t' ≡ shifted k t → c' ≡ shifted (k * w.buckets) c → lent (record { seconds = w.seconds - k; buckets = w.buckets; width = w.width }) s' t' c' ≡ dropped_in_place time (lent w s t c)
unfolding dropped_in_place
dropped_by w time k s s' t t' c c' e es et ec = rw (← e, es, et, ec)

pub dropped_none : (w : LagWindow) (time k : ℕ) (s t c : List ℕ) → k ≡ stale time w.seconds s → k ≡ 0 → lent w s t c ≡ dropped_in_place time (lent w s t c)
unfolding dropped_in_place
dropped_none w time k s t c e z = rw (← e, z, zero-mul, sub-zero, shifted_zero, shifted_zero, shifted_zero)

-- their lags come off the sums
module _ (w : LagWindow) (time k : ℕ) (s t c us : List ℕ) (own : us ≡ column_sums (lent w s t c)) (e : k ≡ stale time w.seconds s) where
  pub take_asks : w.seconds ≤ 11 → length c ≡ 11 * w.buckets → ((k ≤ 11) × (length c ≡ 11 * w.buckets) × (length us ≡ w.buckets)) × ((b : ℕ) → b < w.buckets → column w.buckets b k c ≤ get_or us b 0)
  take_asks few long = (
    (omega (arith, stale_le time w.seconds s), long, ap length own ∙ sums_length (lent w s t c)),
    (λ b l. rw own (rows_in_sums k (lent w s t c) (omega (arith, stale_le time w.seconds s)) b l)),
  )

  pub dropped_sums_by : (us' : List ℕ) → us' ≡ less_rows w.buckets k c us → us' ≡ column_sums (dropped_in_place time (lent w s t c))
  dropped_sums_by us' eu = eu ∙ ((rw (own, e)) ∙ sym (dropped_sums time (lent w s t c)))

  pub dropped_sums_none : k ≡ 0 → us ≡ column_sums (dropped_in_place time (lent w s t c))
  dropped_sums_none z = own ∙ ap column_sums (dropped_none w time k s t c e z)

-- ---- a second opens
-- whether it does, as the code asks it of the starts in use
pub opens_told : (time n : ℕ) (s : List ℕ) (r : Bool) → n ≤ length s → r ≡ opens time (length (take n s)) (take n s) → r ≡ opens time n s
opens_told time n s r h e = e ∙ opens_part time n s h

pub opened_yes : (w : LagWindow) (time : ℕ) (s : List ℕ) (r : Bool) → r ≡ opens time w.seconds s → r ≡ true → (t c : List ℕ) → lent (record { seconds = w.seconds + 1; buckets = w.buckets; width = w.width }) (set s w.seconds time) t c ≡ opened_in_place time (lent w s t c)
unfolding opened_in_place
opened_yes w time s r e h t c = rw (← e, h)

pub opened_no : (w : LagWindow) (time : ℕ) (s : List ℕ) (r : Bool) → r ≡ opens time w.seconds s → r ≡ false → (t c : List ℕ) → lent w s t c ≡ opened_in_place time (lent w s t c)
unfolding opened_in_place
opened_no w time s r e h t c = rw (← e, h)

-- ---- a lag counts
pub place_fits : (r B : ℕ) → r < 11 → B ≤ buckets_limit → Fits w64 (r * B)
place_fits r B h k = omega (arith, row_le r 11 B (omega arith))

pub place_add_fits : (r B b : ℕ) → r < 11 → B ≤ buckets_limit → b < B → Fits w64 (r * B + b)
place_add_fits r B b h k l = omega (arith, flat_lt r 11 B b h l)

pub place_lt : (r B b : ℕ) → r < 11 → b < B → r * B + b < 11 * B
place_lt r B b h l = flat_lt r 11 B b h l

pub count_fits : (xs : List ℕ) (r B b q p : ℕ) → p ≡ r * B + b → b ≡ q → get_or xs (r * B + q) 0 < 4294967295 → Fits w32 (get_or xs p 0 + 1)
count_fits xs r B b q p e f h = let l : get_or xs p 0 < 4294967295 = rw (e, f) h in omega arith

pub sum_fits : (xs : List ℕ) (b q : ℕ) → b ≡ q → get_or xs q 0 ≤ 47244640245 → Fits w64 (get_or xs b 0 + 1)
sum_fits xs b q e h = let l : get_or xs b 0 ≤ 47244640245 = rw e h in omega arith

pub counted_by : (w : LagWindow) (lag b p : ℕ) (t c : List ℕ) → b ≡ bucket_of lag w.width w.buckets → p ≡ (w.seconds - 1) * w.buckets + b → (s : List ℕ) → lent w s (set t (w.seconds - 1) (get_or t (w.seconds - 1) 0 + 1)) (set c p (get_or c p 0 + 1)) ≡ counted lag (lent w s t c)
unfolding counted
counted_by w lag b p t c f e s = rw (e, f)

pub summed_by : (b q : ℕ) (us : List ℕ) → b ≡ q → set us b (get_or us b 0 + 1) ≡ bumped q us
summed_by b q us e = rw e
