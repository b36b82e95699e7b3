-- The hold over the ticks of a stretch from `began` on that brings no lag above L, with L at most offset + maximum. Assumes nothing.
use Rattle.std.specs.Prelude.{None, Option, Some}
use Prim.Native.Nat.{ℕ, ◌+◌, ◌*◌, ◌/◌, ◌≤◌, ◌<◌, max}
use mathlib.Core.Path.{◌≡◌, refl}
use mathlib.Core.Bool.{Bool, true}
use mathlib.Core.List.{List, [], ◌∷◌}
use native.Mathlib.Nat.{add-mul, lt-div-mul-add}
use native.Mathlib.Omega.{arith}
use borrow.Author.Tests.{le-leb}
use lib.ListN.{length}
use Rattle.base.specs.Limits.{nanos}
use Rattle.base.proofs.Choices.{by_le, le_rule}
use Rattle.buckets.specs.Ranges.{buckets_of, tenth}
use Rattle.buckets.proofs.Told.{buckets_some}
use Rattle.policy.specs.declared.DelayPolicy.{DelayPolicy}
use Rattle.policy.specs.Need.{need_of}
use Rattle.policy.proofs.Laws.{need_grows}
use Rattle.rules_window.specs.Window.{Window, bucket_of}
use Rattle.rules_record.specs.Lent.{buckets_for}
use Rattle.rules_window.specs.WholeWindow.{Sound}
use Rattle.delay_hold.specs.declared.DelayHold.{DelayHold}
use Rattle.delay_hold.specs.Steps1To3.{in_startup, lag_within, lag_of, noted}
use Rattle.delay_hold.specs.Step4Peaks.{larger_lag, greatest, worst_of}
use Rattle.delay_hold.specs.Next.{Held, hold_now, hold_before, next_of, delay_after}
use Rattle.delay_hold.specs.Checks.{lag_up_to}
use Rattle.delay_hold.proofs.Bounds.{larger_up, up_more, worst_up, capped_le}
use Rattle.delay_hold.proofs.Outcomes.{AtMost}
use Rattle.delay_hold.proofs.Wholes.{WholePeaks}
use Rattle.delay_hold.proofs.Later.{SeedTill, Each, HoldTill, seed_kept, seed_gone, next_low, next_seeded, next_till, next_peaked, worst_low}
use Rattle.rules_tick.specs.AutoDelay.{p999_of}
use Rattle.history.specs.Stretch.{Allowed, NoneAbove, bucket_end}
use Rattle.history.proofs.Phase.{Phase, early, step_phase}
use Rattle.history.proofs.Windows.{div_mono, bucket_start, Windowed, p999_windowed}

-- ---- the end of L's bucket

module _ (policy : DelayPolicy) (width L : ℕ) (allowed : Allowed policy width) where
  abbrev limit : ℕ
  limit = policy.read_offset + policy.delay_max

  -- L is below it, where L is in reach
  pub end_above : L ≤ limit → L < bucket_end policy width L
  unfolding bucket_end buckets_of
  end_above h =
      let b : ℕ = L / width in
      let m : b ≤ (limit + tenth) / width = div_mono width L (limit + tenth) allowed.width_least (omega arith) in
      let q : bucket_of L width ((limit + tenth) / width + 2) ≡ b = omega arith in
      rw q (omega (arith, lt-div-mul-add {a = L} {b = width} allowed.width_least, add-mul b 1 width))

  pub end_most : bucket_end policy width L ≤ L + width
  unfolding bucket_end
  end_most =
      let B : ℕ = buckets_for policy width in
      omega (arith, bucket_start L width B, add-mul (bucket_of L width B) 1 width)

-- ---- a tick's largest lag

greatest_above : (L : ℕ) (lags : List ℕ) → NoneAbove L lags → greatest lags ≤ L
greatest_above L [] h = omega arith
greatest_above L (lag ∷ lags) h = omega (arith, greatest_above L lags h.1)

within_up : (lag : Option ℕ) (e limit : ℕ) → lag_up_to lag e ≡ true → lag_up_to (lag_within lag limit) e ≡ true
within_up None e limit h = refl
within_up (Some lag) e limit h = le_rule lag limit (Some lag) None (λ (x : Option ℕ). lag_up_to x e ≡ true) (λ g. h) (λ g. refl)

at_most_up : (lag : Option ℕ) (e : ℕ) → AtMost e lag → lag_up_to lag e ≡ true
at_most_up None e h = absurd h
at_most_up (Some lag) e h = le-leb lag e h

-- ---- a stretch

module _
    (millisecond : ℕ) (policy : DelayPolicy) (width : ℕ) (allowed : Allowed policy width)
    (L : ℕ) (fits : L ≤ policy.read_offset + policy.delay_max) (began : ℕ)
  where
    abbrev edge : ℕ
    edge = bucket_end policy width L

    abbrev buckets : ℕ
    buckets = buckets_for policy width

    -- from here on the need is at most that of the bucket's end
    abbrev calm : ℕ
    calm = began + max (10 * nanos + policy.window) policy.hold

    -- no time of the hold is past t; a peak above `edge` was begun by `began` + 10 s, and a seed by `began`
    pub record Steady (t : ℕ) (s : Held) (delay : ℕ) : Type 0 where
      pub till : HoldTill t s
      pub low : Each (λ at lag. began + 10 * nanos < at → lag ≤ edge) s
      pub seed : SeedTill began s.hold.seeded
      pub phase : Phase millisecond calm policy.hold (need_of policy edge) t delay s.hold.last_change s.hold.lower

    module _
        (one : 1 ≤ millisecond) (may_lower : Bool) (may : may_lower ≡ true)
        (t time : ℕ) (forward : t ≤ time) (soon : time ≤ t + 5 * nanos)
        (lags : List ℕ) (few : NoneAbove L lags)
        (w : Window) (sound : Sound w) (widths : w.width ≡ width) (k : Windowed began L width buckets time w)
        (s : Held) (whole : WholePeaks policy width s) (times_long : length s.times ≡ 600) (lags_long : length s.lags ≡ 600)
        (current : ℕ) (st : Steady t s current)
      where
        abbrev p999 : Option ℕ
        p999 = p999_of policy w

        abbrev largest : Option ℕ
        largest = worst_of lags

        -- past `began` + 10 s the quantile, and the lag that joins the peaks, are at most `edge`
        quantile_low : began + 10 * nanos < time → AtMost edge p999
        unfolding bucket_end
        quantile_low f = p999_windowed began L width buckets allowed.width_least (omega (arith, buckets_some policy.read_offset policy.delay_max width)) policy fits time w f sound widths k

        joined_low : began + 10 * nanos < time → lag_up_to (larger_lag (lag_of policy largest) p999) edge ≡ true
        joined_low f =
            larger_up (lag_of policy largest) p999 edge
            (within_up largest edge (policy.read_offset + policy.delay_max)
            (up_more largest L edge (omega (arith, end_above policy width L allowed fits)) (worst_up lags L (greatest_above L lags few))))
            (at_most_up p999 edge (quantile_low f))

        peaked : Each (λ at lag. (at ≤ t) × (began + 10 * nanos < at → lag ≤ edge)) s
        peaked i l = (st.till.peaks i l, st.low i l)

        abbrev Phased : DelayHold → Option ℕ → Type 0
        Phased h change = Phase millisecond calm policy.hold (need_of policy edge) time (delay_after current change) h.last_change h.lower

        phased_late : calm ≤ time → Phased (next_of millisecond may_lower policy s p999 largest current time).held.hold (next_of millisecond may_lower policy s p999 largest current time).change
        unfolding noted
        phased_late g =
            next_low millisecond may_lower policy s p999 largest current time Phased edge
            (quantile_low (omega (arith, allowed.window_least)))
            (worst_low millisecond may_lower policy s p999 largest current time whole times_long lags_long (began + 10 * nanos) edge t forward peaked joined_low (omega arith))
            (λ v low r o. step_phase millisecond one may_lower may calm policy.hold (need_of policy edge) t time forward soon (hold_now policy s.hold time)
            (capped_le (in_startup s.hold time) policy.hold) (hold_before millisecond policy s p999 largest current time) current _ _
            (omega (
              arith,
              need_grows policy allowed.sound v edge low (omega (arith, end_most policy width L allowed, allowed.sound.offset, allowed.sound.maximum, allowed.width_most)),
              seed_gone began policy.hold time s.hold.seeded (omega arith) st.seed,
            ))
            st.till.since st.till.last st.phase r o)

        pub next_steady :
            Steady time (next_of millisecond may_lower policy s p999 largest current time).held
            (delay_after current (next_of millisecond may_lower policy s p999 largest current time).change)
        next_steady =
            record {
              till = next_till millisecond may_lower policy s p999 largest current time whole times_long lags_long t forward st.till;
              low = λ i l. (next_peaked millisecond may_lower policy s p999 largest current time whole times_long lags_long (began + 10 * nanos) edge t forward peaked joined_low i l).1;
              seed = rw (next_seeded millisecond may_lower policy s p999 largest current time) (seed_kept began policy.hold time s.hold.seeded st.seed);
              phase = by_le calm time phased_late (λ g. early g);
            }
