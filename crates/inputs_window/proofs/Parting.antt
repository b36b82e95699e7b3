-- The window of input j among the lists of all inputs. The end of a part `a..a + k` comes back as `a + k - a`. Assumes nothing.
use Rattle.std.specs.Prelude.{◌≡◌, ℕ, ◌+◌, ◌-◌, ◌*◌, ◌≤◌, Bool, true, List, length, drop}
use mathlib.Core.Path.{sym, ap, subst, ◌∙◌}
use native.Mathlib.Nat.{add-sub_cancel_left}
use native.Mathlib.Omega.{arith}
use lib.Ieee.{Float}
use Rattle.std.proofs.lemmas.List.{take-take}
use Rattle.base.specs.Lists.{part, patched}
use Rattle.base.proofs.Patch.{part_long}
use Rattle.base.specs.Limits.{time_limit, width_limit, buckets_limit}
use Rattle.lag_window.specs.declared.LagWindow.{LagWindow}
use Rattle.rules_window.specs.Quantile.{Quantile}
use Rattle.rules_window.specs.Window.{Window}
use Rattle.lag_window.specs.Lent.{lent}
use Rattle.rules_window.specs.WholeWindow.{whole_window, Shaped, whole_with_sums}
use Rattle.rules_window.specs.Checks.{room_of, room_for, CanPush}
use Rattle.rules_window.specs.Quantile.{quantile_upto, Placeable}
use Rattle.rules_window.specs.ColumnSums.{column_sums, as_one_second}
use Rattle.rules_window.specs.Parts.{part_of, placed, PartsIn}
use Rattle.rules_window.proofs.Numbers.{room_part}
use Rattle.rules_window.proofs.Parting.{held_shaped, held_sound}

-- the numbers a..a + k of a list, as the code cuts them
abbrev cut : (a k : ℕ) → List ℕ → List ℕ
cut a k xs = part a (a + k - a) xs

-- ---- the parts as the code makes them
module _ (j : ℕ) (w : LagWindow) (s t c us : List ℕ) where
  ek : j * 11 + 11 - j * 11 ≡ 11
  ek = add-sub_cancel_left (j * 11) 11

  en : j * (11 * w.buckets) + 11 * w.buckets - j * (11 * w.buckets) ≡ 11 * w.buckets
  en = add-sub_cancel_left (j * (11 * w.buckets)) (11 * w.buckets)

  em : j * w.buckets + w.buckets - j * w.buckets ≡ w.buckets
  em = add-sub_cancel_left (j * w.buckets) w.buckets

  -- the window of input j and its sums, as they are passed
  abbrev passed : Window
  passed = lent w (cut (j * 11) 11 s) (cut (j * 11) 11 t) (cut (j * (11 * w.buckets)) (11 * w.buckets) c)

  abbrev passed_sums : List ℕ
  passed_sums = cut (j * w.buckets) w.buckets us

  is_part : passed ≡ part_of j (lent w s t c)
  is_part = rw (ek, en)

  pub part_asks : PartsIn j (lent w s t c) → j * w.buckets + w.buckets ≤ length us → Shaped passed × (length passed_sums ≡ w.buckets)
  part_asks h l = (rw is_part (held_shaped j (lent w s t c) h), rw em (part_long (j * w.buckets) w.buckets us l))

  pub part_whole : (r : Bool) → r ≡ whole_with_sums passed passed_sums → r ≡ whole_with_sums (part_of j (lent w s t c)) (part (j * w.buckets) w.buckets us)
  part_whole r e = rw (is_part, em) at e

  pub part_push_asks : (time : ℕ) (lags : List ℕ) → PartsIn j (lent w s t c) → whole_window (part_of j (lent w s t c)) ≡ true → part (j * w.buckets) w.buckets us ≡ column_sums (part_of j (lent w s t c)) → time ≤ time_limit → room_for time (length lags) (part_of j (lent w s t c)) ≡ true → CanPush time (length lags) passed passed_sums
  part_push_asks time lags h wh own soon room =
      record { sound = rw is_part (held_sound j (lent w s t c) h wh); own = rw (em, is_part) own; soon = soon; room = subst (λ (v : Window). room_for time (length lags) v ≡ true) (sym is_part) room }

  -- the lists of all inputs after a step on this part
  module _ (F : Window → Window) where
    module _ (kept : ((F (part_of j (lent w s t c))).buckets ≡ w.buckets) × ((F (part_of j (lent w s t c))).width ≡ w.width)) (r : LagWindow) (s1 t1 c1 : List ℕ) (e : lent r s1 t1 c1 ≡ F passed) where
      stepped : lent r s1 t1 c1 ≡ F (part_of j (lent w s t c))
      stepped = rw is_part at e

      put : Window → Window
      put v = record { seconds = v.seconds; buckets = v.buckets; width = v.width; starts = patched (j * 11) 11 v.starts s; totals = patched (j * 11) 11 v.totals t; counts = patched (j * (11 * w.buckets)) (11 * w.buckets) v.counts c }

      pub part_placed : lent r (patched (j * 11) (j * 11 + 11 - j * 11) s1 s) (patched (j * 11) (j * 11 + 11 - j * 11) t1 t) (patched (j * (11 * w.buckets)) (j * (11 * w.buckets) + 11 * w.buckets - j * (11 * w.buckets)) c1 c) ≡ placed j (F (part_of j (lent w s t c))) (lent w s t c)
      unfolding put
      part_placed = rw (ek, en) (ap put stepped ∙ rw (kept.0, kept.1))

    pub part_sums : (us1 : List ℕ) → us1 ≡ column_sums (F passed) → patched (j * w.buckets) (j * w.buckets + w.buckets - j * w.buckets) us1 us ≡ patched (j * w.buckets) w.buckets (column_sums (F (part_of j (lent w s t c)))) us
    part_sums us1 e = rw em (ap (λ (x : List ℕ). patched (j * w.buckets) w.buckets x us) (rw is_part at e))

-- ---- the sums alone
module _ (q : Float) (limit : ℕ) (j : ℕ) (w : LagWindow) (us : List ℕ) where
  pub part_quantile_asks : (w.buckets ≤ buckets_limit) × (1 ≤ w.width) × (w.width ≤ width_limit) → j * w.buckets + w.buckets ≤ length us → Placeable q limit (as_one_second w.buckets w.width (part (j * w.buckets) w.buckets us)) → ((w.buckets ≤ buckets_limit) × (1 ≤ w.width) × (w.width ≤ width_limit)) × ((length (cut (j * w.buckets) w.buckets us) ≡ w.buckets) × Placeable q limit (as_one_second w.buckets w.width (cut (j * w.buckets) w.buckets us)))
  part_quantile_asks sizes h p = (sizes, (rw (add-sub_cancel_left (j * w.buckets) w.buckets) (part_long (j * w.buckets) w.buckets us h), rw (add-sub_cancel_left (j * w.buckets) w.buckets) p))

  pub part_quantile : (r : Quantile) → r ≡ quantile_upto q limit (as_one_second w.buckets w.width (cut (j * w.buckets) w.buckets us)) → r ≡ quantile_upto q limit (as_one_second w.buckets w.width (part (j * w.buckets) w.buckets us))
  part_quantile r e = rw (add-sub_cancel_left (j * w.buckets) w.buckets) at e

-- ---- the seconds in use
pub part_room : (time lags n a : ℕ) (s t : List ℕ) → n ≤ 11 → a + 11 ≤ length s → a + 11 ≤ length t → (r : Bool) → r ≡ room_of time lags (length (cut a n s)) (cut a n s) (cut a n t) → r ≡ room_of time lags n (part a 11 s) (part a 11 t)
part_room time lags n a s t few ls lt r e =
    (rw (add-sub_cancel_left a n, ← take-take n 11 (drop a s) few, ← take-take n 11 (drop a t) few) at e)
    ∙ room_part time lags n (part a 11 s) (part a 11 t) (omega (arith, part_long a 11 s ls), omega (arith, part_long a 11 t lt))
