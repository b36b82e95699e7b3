-- A hold that is cleared, seeded or interrupted stays whole, and its times stay by now. Assumes nothing.
-- the same peaks under another hold
use Rattle.std.specs.Prelude.{◌≡◌, ℕ, ◌≤◌, true, List, replicate}
use mathlib.Core.Path.{refl}
use native.Mathlib.Omega.{arith}
use borrow.Author.Tests.{le-leb}
use Rattle.base.specs.Limits.{time_limit}
use Rattle.base.proofs.Points.{blank_intro, zeros_at}
use Rattle.policy.specs.declared.DelayPolicy.{DelayPolicy}
use Rattle.delay_hold.specs.declared.DelayHold.{DelayHold}
use Rattle.delay_hold.specs.Step4Peaks.{most_peaks}
use Rattle.delay_hold.specs.Steps5To8.{timer_off, with_lower}
use Rattle.delay_hold.specs.Next.{Held, held, fresh_hold, seeded_hold}
use Rattle.delay_hold.specs.Whole.{whole_hold}
use Rattle.delay_hold.proofs.Later.{HoldTill, hold_later}
use Rattle.delay_hold.proofs.Wholes.{WholePeaks, whole_of, of_whole}

peaks_under : {policy : DelayPolicy} {width : ℕ} {s : Held} (h : DelayHold) → h.peaks ≡ s.hold.peaks → WholePeaks policy width s → WholePeaks policy width (held h s.times s.lags)
peaks_under h e w =
    record {
      count = rw e w.count;
      spaced = rw e w.spaced;
      span = rw e w.span;
      times_blank = rw e w.times_blank;
      lags_blank = rw e w.lags_blank;
      lags_in_law = rw e w.lags_in_law;
      times_in_law = rw e w.times_in_law;
    }

module _ (policy : DelayPolicy) (width : ℕ) where
  pub fresh_whole : 1 ≤ policy.window → whole_hold policy width (held fresh_hold (replicate most_peaks 0) (replicate most_peaks 0)) ≡ true
  fresh_whole w =
      of_whole policy width (held fresh_hold (replicate most_peaks 0) (replicate most_peaks 0))
      (record {
        count = omega arith;
        spaced = λ i l. absurd (omega arith);
        span = omega arith;
        times_blank = blank_intro 0 (replicate most_peaks 0) (λ i l. zeros_at most_peaks i);
        lags_blank = blank_intro 0 (replicate most_peaks 0) (λ i l. zeros_at most_peaks i);
        lags_in_law = λ i l. absurd (omega arith);
        times_in_law = λ i l. absurd (omega arith);
      })
      (record { seed = refl; timer = refl; last = refl; since = refl; start = refl; seed_time = refl })

  module _ (s : Held) (whole : whole_hold policy width s ≡ true) where
    pub seeded_whole : (delay time : ℕ) → delay ≤ policy.delay_max → time ≤ time_limit → whole_hold policy width (held (seeded_hold s.hold delay time) s.times s.lags) ≡ true
    seeded_whole delay time h l =
        let w = whole_of policy width s whole in
        of_whole policy width _ (peaks_under (seeded_hold s.hold delay time) refl w.0)
        (record {
          seed = le-leb delay policy.delay_max h;
          timer = w.1.timer;
          last = w.1.last;
          since = w.1.since;
          start = w.1.start;
          seed_time = le-leb time time_limit l;
        })

    pub interrupted_whole : whole_hold policy width (held (with_lower s.hold timer_off) s.times s.lags) ≡ true
    interrupted_whole =
        let w = whole_of policy width s whole in
        of_whole policy width _ (peaks_under (with_lower s.hold timer_off) refl w.0)
        (record {
          seed = w.1.seed;
          timer = refl;
          last = w.1.last;
          since = refl;
          start = w.1.start;
          seed_time = w.1.seed_time;
        })

-- ---- times
pub fresh_till : (t : ℕ) (times lags : List ℕ) → HoldTill t (held fresh_hold times lags)
fresh_till t times lags = record { peaks = λ i l. absurd (omega arith); last = tt; since = tt; seed = tt }

module _ (t time : ℕ) (s : Held) (k : HoldTill t s) where
  pub seeded_till : (delay : ℕ) → t ≤ time → HoldTill time (held (seeded_hold s.hold delay time) s.times s.lags)
  seeded_till delay h =
      let u = hold_later t time s h k in
      record { peaks = u.peaks; last = u.last; since = u.since; seed = omega arith }

  pub interrupted_till : HoldTill t (held (with_lower s.hold timer_off) s.times s.lags)
  interrupted_till = record { peaks = k.peaks; last = k.last; since = tt; seed = k.seed }
