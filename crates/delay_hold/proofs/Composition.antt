-- `inner::next`, one step after the other, is `next_of`. Each step is given by what its function ensures. Assumes nothing.
use Rattle.std.specs.Prelude.{◌≡◌, ℕ, ◌+◌, ◌≤◌, Bool, true, List, length, take, Option}
use mathlib.Core.Path.{ap, ◌∙◌}
use native.Mathlib.Omega.{arith}
use Rattle.base.specs.Limits.{samples_limit}
use Rattle.base.specs.Lists.{padded}
use Rattle.policy.specs.declared.DelayPolicy.{DelayPolicy}
use Rattle.delay_hold.specs.declared.DelayHold.{DelayHold}
use Rattle.delay_hold.specs.declared.Next.{Next}
use Rattle.delay_hold.specs.Steps1To3.{in_startup, capped, lag_within, lag_of, late_at, noted, seed_left}
use Rattle.delay_hold.specs.Step4Peaks.{larger_lag, times_after, lags_after, worst_of, most_peaks}
use Rattle.delay_hold.specs.Step4InPlace.{Placed}
use Rattle.delay_hold.specs.Steps5To8.{decide, floor_of}
use Rattle.delay_hold.specs.Next.{Held, decided, times_in, lags_in, with_peaks, next_of}
use Rattle.delay_hold.specs.Whole.{peak_most, peak_limit}
use Rattle.delay_hold.specs.Checks.{lag_up_to, AskedFor}
use Rattle.delay_hold.proofs.Order.{lags_left, after_fits}
use Rattle.delay_hold.proofs.Bounds.{larger_up, within_up, up_more, worst_up, after_up, floor_up, capped_le, capped_second}
use Rattle.delay_hold.proofs.Wholes.{whole_of, placed_of, greatest_in, seed_floor}

module _ {width : ℕ} {policy : DelayPolicy} {s : Held} {p999 : Option ℕ} {current : ℕ} (a : AskedFor width policy s p999 current) where
  -- what is asked bounds every lag
  p999_in : lag_up_to p999 peak_limit ≡ true
  p999_in = up_more p999 (peak_most policy width) peak_limit (omega (arith, a.sound.offset, a.sound.maximum, a.width_most)) a.p999_in

  current_in : current ≤ samples_limit
  current_in = omega (arith, a.current_in, a.sound.maximum)

  seed_in : (hold time : ℕ) → floor_of (seed_left s.hold.seeded hold time) ≤ samples_limit
  seed_in hold time =
      floor_up s.hold.seeded hold time samples_limit
      (omega (arith, seed_floor s.hold.seeded policy.delay_max (whole_of policy width s a.whole).1.seed, a.sound.maximum))

  module _ (startup : Bool) (window : ℕ) (window_is : window ≡ capped startup policy.window) where
    pub asked_placed : Placed s.hold.peaks s.times s.lags window
    asked_placed =
        placed_of (whole_of policy width s a.whole).0 a.times_long a.lags_long window
        (rw window_is (capped_second startup policy.window a.window_least))
        (omega (arith, window_is, capped_le startup policy.window, a.window_most))

    module _ (time : ℕ) (joined : Option ℕ) (n : ℕ) (lags : List ℕ) (n-is : n ≡ length (times_after (times_in s) joined window time)) (lags-are : lags ≡ padded most_peaks (lags_after (times_in s) (lags_in s) joined window time)) where
      pub peaks_fit : n ≤ length lags
      peaks_fit = after_fits s.hold.peaks s.times s.lags window time asked_placed joined n lags n-is lags-are

      module _ (peak : Option ℕ) (peak-is : peak ≡ worst_of (take n lags)) where
        pub worst_is : peak ≡ worst_of (lags_after (times_in s) (lags_in s) joined window time)
        worst_is =
            peak-is
            ∙ ap (λ (xs : List ℕ). worst_of (take n xs)) lags-are
            ∙ ap (λ (m : ℕ). worst_of (take m (padded most_peaks (lags_after (times_in s) (lags_in s) joined window time)))) n-is
            ∙ ap worst_of (lags_left s.hold.peaks s.times s.lags window time asked_placed joined)

        module _ (largest lag : Option ℕ) (lag-is : lag ≡ lag_within largest (policy.read_offset + policy.delay_max)) (joined_is : joined ≡ larger_lag lag p999) where
          joined_in : lag_up_to joined peak_limit ≡ true
          joined_in =
              rw (joined_is, lag-is)
              (larger_up (lag_of policy largest) p999 peak_limit
              (up_more (lag_of policy largest) (policy.read_offset + policy.delay_max) peak_limit (omega (arith, a.sound.offset, a.sound.maximum)) (within_up largest (policy.read_offset + policy.delay_max)))
              p999_in)

          peak_in : lag_up_to peak peak_limit ≡ true
          peak_in =
              rw worst_is
              (worst_up (lags_after (times_in s) (lags_in s) joined window time) peak_limit
              (after_up (times_in s) (lags_in s) joined window time peak_limit
              (omega (arith, greatest_in (whole_of policy width s a.whole).0 a.times_long a.lags_long, a.sound.offset, a.sound.maximum, a.width_most))
              joined_in))

          module _ (late : Bool) (before noted-hold : DelayHold) (millisecond : ℕ) (noted-is : noted-hold ≡ noted millisecond policy s.hold lag startup late time) (before-is : before ≡ with_peaks noted-hold n) where
            floor_in : floor_of before.seeded ≤ samples_limit
            unfolding noted
            floor_in = rw (before-is, noted-is) (seed_in policy.hold time)

            -- what the decision asks
            pub decision_asks : (lag_up_to p999 peak_limit ≡ true) × (lag_up_to peak peak_limit ≡ true) × (current ≤ samples_limit) × (floor_of before.seeded ≤ samples_limit)
            decision_asks = (p999_in, peak_in, current_in, floor_in)

            pub next_is :
                (hold : ℕ) (times : List ℕ) (r : Next) (may_lower : Bool) →
                startup ≡ in_startup s.hold time →
                hold ≡ capped startup policy.hold →
                late ≡ late_at lag (policy.read_offset + current) →
                times ≡ padded most_peaks (times_after (times_in s) joined window time) →
                r ≡ decide millisecond may_lower policy before late p999 peak current hold time →
                decided r times lags ≡ next_of millisecond may_lower policy s p999 largest current time
            unfolding next_of
            next_is hold times r may_lower startup-is hold-is late_is times-are r-is =
                simp (r-is, times-are, lags-are, before-is, noted-is, worst_is, n-is, late_is, joined_is, lag-is, hold-is, window_is, startup-is)
