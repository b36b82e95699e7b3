-- A night in small, computed on the definitions: a tick with a lag of 4,000, then one every 5 s with a lag of 480. Hold 0, window 1 s, W 480.
-- Assumes nothing.
use Prim.Native.Nat.{ℕ, zero, suc, ◌+◌, ◌*◌, ◌≤◌}
use mathlib.Core.Path.{◌≡◌, refl}
use mathlib.Core.Bool.{false}
use mathlib.Core.List.{List, [], ◌∷◌, ◌++◌}
use native.Mathlib.Omega.{arith}
use lib.IntN.{negsuc}
use lib.Ieee.{fin, round, mul, of_int, le}
use Rattle.base.specs.Limits.{nanos}
use Rattle.base.specs.Lists.{padded, sum}
use Rattle.buckets.specs.Ranges.{buckets_of}
use Rattle.doubles.specs.Doubles.{half_away, ceil_of}
use Rattle.doubles.specs.Quantile.{target_of}
use Rattle.policy.specs.declared.DelayPolicy.{DelayPolicy}
use Rattle.policy.specs.Need.{need_of, share_of}
use Rattle.rules_window.specs.Window.{fresh, in_use, laid, opened, dropped, counted, pushed, pushed_all}
use Rattle.rules_window.specs.Checks.{newest_of}
use Rattle.rules_window.specs.Quantile.{column, within, running, reach, quantile_in, thousandths}
use Rattle.delay_hold.specs.Steps1To3.{noted}
use Rattle.delay_hold.specs.Step4Peaks.{join_times, join_lags, old_count, times_after, lags_after}
use Rattle.delay_hold.specs.Steps5To8.{lowering, weighed, decide_at, decide}
use Rattle.delay_hold.specs.Next.{next_of}
use Rattle.rules_tick.specs.AutoDelay.{p999_of}
use Rattle.history.specs.View.{Tick, tick_of, ticked_view}
use Rattle.history.specs.Events.{fresh_view, after, history}
use Rattle.history.specs.Stretch.{Allowed, running_ticks, bucket_end}
use Rattle.history.specs.Demand.{delay_of, Accepted}
use Rattle.history.proofs.Demand.{ceiling_after}

abbrev small : DelayPolicy
small = record { read_offset = 480; delay_max = 4800; hold = 0; window = nanos; margin = 96; margin_share = fin false 1 (negsuc 0) }

abbrev late : Tick
late = tick_of 0 (4000 ∷ [])

-- n ticks from t on, 5 s apart
abbrev calm : ℕ → ℕ → List Tick
calm zero t = []
calm (suc n) t = tick_of t (480 ∷ []) ∷ calm n (t + 5 * nanos)

-- the delay after the late tick and n calm ones
abbrev after_calm : ℕ → ℕ
after_calm n = delay_of small 480 (running_ticks (late ∷ calm n (5 * nanos)))

-- it covers the late lag while that counts, and falls to the need of 960, the end of the bucket of 480
fell : after_calm 0 ∷ after_calm 2 ∷ after_calm 3 ∷ after_calm 8 ∷ need_of small (bucket_end small 480 480) ∷ [] ≡ 4800 ∷ 4800 ∷ 816 ∷ 816 ∷ 816 ∷ []
unfolding history after fresh_view ticked_view p999_of thousandths bucket_end pushed_all pushed laid counted dropped opened in_use padded fresh buckets_of quantile_in running within column reach sum target_of ceil_of half_away need_of share_of mul of_int round next_of noted join_times join_lags old_count times_after lags_after lowering weighed decide_at decide
fell = refl

-- ---- 15 s + window + 3 holds would be too soon: the timer lowers to an older need first, and then starts anew
-- the same with a hold of 1 ns
abbrev brief : DelayPolicy
brief = record { read_offset = 480; delay_max = 4800; hold = 1; window = nanos; margin = 96; margin_share = fin false 1 (negsuc 0) }

-- a tick with one lag, at so many seconds
abbrev tick_at : (second lag : ℕ) → Tick
tick_at second lag = tick_of (second * nanos) (lag ∷ [])

-- a lag of 4,000, one of 2,000 a second later, then 480 from that time on, 20 s long: the delay is still the need of 2,000's bucket, far above that of 480's
slow : delay_of brief 480 (running_ticks (tick_at 0 4000 ∷ tick_at 1 2000 ∷ tick_at 1 480 ∷ tick_at 6 480 ∷ tick_at 11 480 ∷ tick_at 16 480 ∷ tick_at 21 480 ∷ [])) ∷ need_of brief (bucket_end brief 480 480) ∷ [] ≡ 2976 ∷ 816 ∷ []
unfolding history after fresh_view ticked_view p999_of thousandths bucket_end pushed_all pushed laid counted dropped opened in_use padded fresh buckets_of quantile_in running within column reach sum target_of ceil_of half_away need_of share_of mul of_int round next_of noted join_times join_lags old_count times_after lags_after lowering weighed decide_at decide
slow = refl

-- ---- while no lowering is allowed the delay stays, and the calm ticks are no stretch
-- n ticks from t on, 5 s apart, at which a due lowering waits
abbrev waiting : ℕ → ℕ → List Tick
waiting zero t = []
waiting (suc n) t = record { time = t; lags = 480 ∷ []; may_lower = false } ∷ waiting n (t + 5 * nanos)

-- after eight of them the delay is that of the late tick; the tick after them lowers it
waited : delay_of small 480 (running_ticks (late ∷ waiting 8 (5 * nanos))) ∷ delay_of small 480 (running_ticks (late ∷ (waiting 8 (5 * nanos) ++ calm 1 (45 * nanos)))) ∷ [] ≡ 4800 ∷ 816 ∷ []
unfolding history after fresh_view ticked_view p999_of thousandths bucket_end pushed_all pushed laid counted dropped opened in_use padded fresh buckets_of quantile_in running within column reach sum target_of ceil_of half_away need_of share_of mul of_int round next_of noted join_times join_lags old_count times_after lags_after lowering weighed decide_at decide
waited = refl

-- ---- the theorem's hypotheses can be met: the calm ticks are a stretch, long enough, of an accepted list

allowed : Allowed small 480
unfolding le buckets_of
allowed =
    record {
      sound = record { offset = omega arith; maximum = omega arith; margins = omega arith; low = tt; high = tt };
      hold_most = omega arith;
      window_least = omega arith;
      window_most = omega arith;
      width_least = omega arith;
      width_most = omega arith;
      buckets_most = omega arith;
    }

abbrev first : Tick
first = tick_of (5 * nanos) (480 ∷ [])

accepted : Accepted small 480 (running_ticks (late ∷ []) ++ running_ticks (first ∷ calm 7 (10 * nanos)))
unfolding history after fresh_view ticked_view p999_of thousandths pushed_all pushed laid counted dropped opened in_use padded fresh buckets_of newest_of
accepted = (
  omega arith,
  omega arith,
  tt,
  refl,
  (
    omega arith,
    omega arith,
    tt,
    refl,
    (
      omega arith,
      omega arith,
      tt,
      refl,
      (
        omega arith,
        omega arith,
        tt,
        refl,
        (
          omega arith,
          omega arith,
          tt,
          refl,
          (
            omega arith,
            omega arith,
            tt,
            refl,
            (omega arith, omega arith, tt, refl, (omega arith, omega arith, tt, refl, (omega arith, omega arith, tt, refl, tt))),
          ),
        ),
      ),
    ),
  ),
)

settles : delay_of small 480 (running_ticks (late ∷ []) ++ running_ticks (first ∷ calm 7 (10 * nanos))) ≤ need_of small (bucket_end small 480 480) + 47
settles =
    ceiling_after small 480 allowed (running_ticks (late ∷ [])) first (calm 7 (10 * nanos)) 480 accepted refl tt (omega arith, tt) (
      omega arith,
      refl,
      tt,
      (omega arith, tt),
      (
        omega arith,
        refl,
        tt,
        (omega arith, tt),
        (
          omega arith,
          refl,
          tt,
          (omega arith, tt),
          (
            omega arith,
            refl,
            tt,
            (omega arith, tt),
            (
              omega arith,
              refl,
              tt,
              (omega arith, tt),
              (
                omega arith,
                refl,
                tt,
                (omega arith, tt),
                (omega arith, refl, tt, (omega arith, tt), tt),
              ),
            ),
          ),
        ),
      ),
    )
    (omega arith)
