-- What each call of a push asks, from what the calls before ensure, and that together they make the push. Assumes nothing.
use Rattle.std.specs.Prelude.{◌≡◌, ℕ, ◌+◌, ◌-◌, ◌*◌, ◌<◌, ◌≤◌, true, List, length, get_or}
use mathlib.Core.Path.{sym, ap, subst, ◌∙◌}
use native.Mathlib.Omega.{arith}
use Rattle.base.specs.Lists.{bumped, sum_from, row_sum}
use Rattle.base.specs.Limits.{time_limit, buckets_limit, window_reach}
use Rattle.base.proofs.Points.{sum_at_le}
use Rattle.lag_window.specs.declared.LagWindow.{LagWindow}
use Rattle.rules_window.specs.Window.{Window, opens, bucket_of, counted, pushed}
use Rattle.lag_window.specs.Lent.{lent}
use Rattle.rules_window.specs.WholeWindow.{Sound}
use Rattle.rules_window.specs.ColumnSums.{column_sums}
use Rattle.rules_window.specs.InPlace.{dropped_in_place, opened_in_place, pushed_in_place}
use Rattle.rules_window.specs.Checks.{newest, CanPush}
use Rattle.rules_window.proofs.Numbers.{one_room}
use Rattle.rules_window.proofs.WholeAt.{Whole, whole_of}
use Rattle.rules_window.proofs.Keeps.{dropped_whole, opened_whole, open_fits, near, opened_pos, room_dropped, room_opened, bucket_lt}
use Rattle.rules_window.proofs.InUse.{in_place}
use Rattle.rules_window.proofs.ColumnSums.{sums_length, sums_at}
use Rattle.rules_window.proofs.SumsKept.{pushed_sums}
use Rattle.rules_window.proofs.Totals.{lags_few}

-- an element is at most the sum of its row
at_most_row : (B : ℕ) (cs : List ℕ) (r b : ℕ) → b < B → get_or cs (r * B + b) 0 ≤ row_sum B cs r
unfolding sum_from
at_most_row B cs r b l = sum_at_le _ B b l

module _ (time : ℕ) (w : LagWindow) (s t c us : List ℕ) (asked : CanPush time 1 (lent w s t c) us) where
  sound : Sound (lent w s t c)
  sound = asked.sound

  soon : time ≤ time_limit
  soon = asked.soon

  pub drop_asks : ((w.seconds ≤ 11) × (length s ≡ 11) × (length c ≡ 11 * w.buckets)) × (us ≡ column_sums (lent w s t c))
  drop_asks = (((whole_of (lent w s t c) sound).few, sound.shaped.starts_long, sound.shaped.counts_long), asked.own)

  module _ (w1 : LagWindow) (s1 t1 c1 : List ℕ) (e1 : lent w1 s1 t1 c1 ≡ dropped_in_place time (lent w s t c)) where
    dropped_is : Whole (lent w1 s1 t1 c1)
    dropped_is = subst Whole (sym e1) (dropped_whole time (lent w s t c) (whole_of (lent w s t c) sound))

    near_is : 0 < w1.seconds → time - get_or s1 0 0 ≤ window_reach
    near_is = subst (λ (v : Window). 0 < v.seconds → time - get_or v.starts 0 0 ≤ window_reach) (sym e1) (near time (lent w s t c) (whole_of (lent w s t c) sound))

    pub open_asks : (w1.seconds ≤ length s1) × (opens time w1.seconds s1 ≡ true → w1.seconds < length s1)
    open_asks = (omega (arith, dropped_is.few, dropped_is.ls), λ o. omega (arith, dropped_is.ls, open_fits time (lent w1 s1 t1 c1) dropped_is near_is o))

    module _ (lag : ℕ) (w2 : LagWindow) (s2 : List ℕ) (e2 : (x y : List ℕ) → lent w2 s2 x y ≡ opened_in_place time (lent w1 s1 x y)) where
      opened_is : Whole (lent w2 s2 t1 c1)
      opened_is = subst Whole (sym (e2 t1 c1)) (opened_whole time (lent w1 s1 t1 c1) dropped_is soon near_is)

      steps : lent w2 s2 t1 c1 ≡ opened_in_place time (dropped_in_place time (lent w s t c))
      steps = e2 t1 c1 ∙ ap (opened_in_place time) e1

      width_is : w2.width ≡ w.width
      unfolding opened_in_place dropped_in_place
      width_is = ap (λ (v : Window). v.width) steps

      buckets_is : w2.buckets ≡ w.buckets
      unfolding opened_in_place dropped_in_place
      buckets_is = ap (λ (v : Window). v.buckets) steps

      pos_is : 0 < w2.seconds
      pos_is = subst (λ (v : Window). 0 < v.seconds) (sym (e2 t1 c1)) (opened_pos time (lent w1 s1 t1 c1))

      total_is : get_or t1 (w2.seconds - 1) 0 < 4294967295
      total_is =
          subst (λ (v : Window). get_or v.totals (v.seconds - 1) 0 < 4294967295) (sym (e2 t1 c1))
          (room_opened time (lent w1 s1 t1 c1) 4294967295 dropped_is (subst (λ (v : Window). newest time v < 4294967295) (sym e1) (room_dropped time (lent w s t c) 4294967295 (omega arith) (one_room time (lent w s t c) us asked))))

      some : 0 < w2.buckets
      some = omega (arith, sound.shaped.buckets_low, buckets_is)

      count_is : get_or c1 ((w2.seconds - 1) * w2.buckets + bucket_of lag w2.width w2.buckets) 0 < 4294967295
      count_is =
          omega (
            arith,
            total_is,
            opened_is.sums (w2.seconds - 1) (omega (arith, pos_is)),
            at_most_row w2.buckets c1 (w2.seconds - 1) (bucket_of lag w2.width w2.buckets) (bucket_lt lag w2.width w2.buckets some),
          )

      module _ (us1 : List ℕ) (eu : us1 ≡ column_sums (dropped_in_place time (lent w s t c))) where
        sums_long : length us1 ≡ w2.buckets
        unfolding dropped_in_place
        sums_long = ap length eu ∙ (sums_length (dropped_in_place time (lent w s t c)) ∙ sym buckets_is)

        sum_is : (b : ℕ) → b < w2.buckets → get_or us1 b 0 ≤ 47244640245
        unfolding dropped_in_place
        sum_is b l =
            let h : Whole (dropped_in_place time (lent w s t c)) = dropped_whole time (lent w s t c) (whole_of (lent w s t c) sound) in
            let in_row : b < w.buckets = omega (arith, buckets_is) in
            rw (eu, sums_at (dropped_in_place time (lent w s t c)) b in_row) (lags_few (dropped_in_place time (lent w s t c)) h b in_row)

        pub count_asks : ((0 < w2.seconds) × (w2.seconds ≤ 11)) × (((0 < w2.width) × (0 < w2.buckets) × (w2.buckets ≤ buckets_limit)) × ((length t1 ≡ 11) × ((length c1 ≡ 11 * w2.buckets) × ((length us1 ≡ w2.buckets) × (((get_or t1 (w2.seconds - 1) 0 < 4294967295) × (get_or c1 ((w2.seconds - 1) * w2.buckets + bucket_of lag w2.width w2.buckets) 0 < 4294967295)) × (get_or us1 (bucket_of lag w2.width w2.buckets) 0 ≤ 47244640245))))))
        count_asks = (
          (pos_is, opened_is.few),
          (
            (omega (arith, sound.shaped.width_low, width_is), some, omega (arith, sound.shaped.buckets_high, buckets_is)),
            (opened_is.lt, (opened_is.lc, (sums_long, ((total_is, count_is), sum_is _ (bucket_lt lag w2.width w2.buckets some))))),
          ),
        )

        pub push_sums_is : (us2 : List ℕ) → us2 ≡ bumped (bucket_of lag w2.width w2.buckets) us1 → us2 ≡ column_sums (pushed lag time (lent w s t c))
        push_sums_is us2 e = e ∙ ((rw (width_is, buckets_is, eu)) ∙ sym (pushed_sums lag time (lent w s t c) sound soon))

      pub push_is : (s3 t2 c2 : List ℕ) → lent w2 s3 t2 c2 ≡ counted lag (lent w2 s2 t1 c1) → lent w2 s3 t2 c2 ≡ pushed lag time (lent w s t c)
      unfolding pushed_in_place
      push_is s3 t2 c2 e3 =
          e3 ∙ (ap (counted lag) steps ∙ in_place lag time (lent w s t c) (whole_of (lent w s t c) sound) (omega (arith, sound.shaped.buckets_low)))
