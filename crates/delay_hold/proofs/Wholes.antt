-- What check 6 says of a hold, as facts, and back. Assumes nothing.
-- check 6 of the peaks
use Rattle.std.specs.Prelude.{◌≡◌, ℕ, ◌+◌, ◌-◌, ◌<◌, ◌≤◌, true, length, get_or, take, None, Option, Some}
use mathlib.Core.Path.{sym}
use native.Mathlib.Omega.{arith}
use borrow.Author.Tests.{leb-true, ltb-true, le-leb, lt-ltb}
use lib.Seq.{get_or-take, length-take-le}
use Rattle.base.specs.Limits.{nanos, span_limit, time_limit}
use Rattle.base.specs.Lists.{blank_from}
use Rattle.base.proofs.All.{both_yes}
use Rattle.base.proofs.Points.{both_true}
use Rattle.policy.specs.declared.DelayPolicy.{DelayPolicy}
use Rattle.delay_hold.specs.declared.Seed.{Seed}
use Rattle.delay_hold.specs.declared.DelayHold.{DelayHold}
use Rattle.delay_hold.specs.Step4Peaks.{greatest, most_peaks}
use Rattle.delay_hold.specs.Step4InPlace.{Placed}
use Rattle.delay_hold.specs.Steps5To8.{floor_of}
use Rattle.delay_hold.specs.Next.{Held, times_in, lags_in}
use Rattle.base.specs.Rows.{span_of}
use Rattle.delay_hold.specs.Whole.{peak_most, moment_timely, seed_fits, seed_timely, timer_fits, timer_timely, whole_peaks, whole_times, whole_hold}
use Rattle.base.proofs.Rows.{apart_at, apart_intro, up_to_at, up_to_intro, blank_padded}
use Rattle.delay_hold.proofs.Bounds.{greatest_up}

pub record WholePeaks (policy : DelayPolicy) (width : ℕ) (s : Held) : Type 0 where
  pub count : s.hold.peaks ≤ most_peaks
  pub spaced : (i : ℕ) → i < s.hold.peaks - 1 → nanos ≤ get_or s.times (i + 1) 0 - get_or s.times i 0
  pub span : span_of s.hold.peaks s.times < policy.window
  pub times_blank : blank_from s.hold.peaks s.times ≡ true
  pub lags_blank : blank_from s.hold.peaks s.lags ≡ true
  pub lags_in_law : (i : ℕ) → i < s.hold.peaks → get_or s.lags i 0 ≤ peak_most policy width
  pub times_in_law : (i : ℕ) → i < s.hold.peaks → get_or s.times i 0 ≤ time_limit

-- and of the rest
pub record WholeTimes (policy : DelayPolicy) (h : DelayHold) : Type 0 where
  pub seed : seed_fits h.seeded policy.delay_max ≡ true
  pub timer : timer_fits h.lower policy.delay_max ≡ true
  pub last : moment_timely h.last_change ≡ true
  pub since : timer_timely h.lower ≡ true
  pub start : moment_timely h.started ≡ true
  pub seed_time : seed_timely h.seeded ≡ true

module _ (policy : DelayPolicy) (width : ℕ) (s : Held) where
  peaks_of : whole_peaks policy width s ≡ true → WholePeaks policy width s
  unfolding whole_peaks
  peaks_of w =
      let a = both_true _ _ w in
      let b = both_true _ _ a.1 in
      let c = both_true _ _ b.1 in
      let d = both_true _ _ c.1 in
      let e = both_true _ _ d.1 in
      let f = both_true _ _ e.1 in
      record {
        count = leb-true _ _ a.0;
        spaced = apart_at _ _ _ b.0;
        span = ltb-true _ _ c.0;
        times_blank = d.0;
        lags_blank = e.0;
        lags_in_law = up_to_at _ _ _ f.0;
        times_in_law = up_to_at _ _ _ f.1;
      }

  of_peaks : WholePeaks policy width s → whole_peaks policy width s ≡ true
  unfolding whole_peaks
  of_peaks w =
      sym
      (both_yes _ _ _ (le-leb _ _ w.count)
      (both_yes _ _ _ (apart_intro _ _ _ w.spaced)
      (both_yes _ _ _ (lt-ltb _ _ w.span)
      (both_yes _ _ _ w.times_blank
      (both_yes _ _ _ w.lags_blank (both_yes _ _ _ (up_to_intro _ _ _ w.lags_in_law) (sym (up_to_intro _ _ _ w.times_in_law))))))))

module _ (policy : DelayPolicy) (h : DelayHold) where
  times_of : whole_times policy h ≡ true → WholeTimes policy h
  unfolding whole_times
  times_of w =
      let a = both_true _ _ w in
      let b = both_true _ _ a.1 in
      let c = both_true _ _ b.1 in
      let d = both_true _ _ c.1 in
      let e = both_true _ _ d.1 in
      record { seed = a.0; timer = b.0; last = c.0; since = d.0; start = e.0; seed_time = e.1 }

  of_times : WholeTimes policy h → whole_times policy h ≡ true
  unfolding whole_times
  of_times w =
      sym
      (both_yes _ _ _ w.seed
      (both_yes _ _ _ w.timer
      (both_yes _ _ _ w.last (both_yes _ _ _ w.since (both_yes _ _ _ w.start (sym w.seed_time))))))

module _ (policy : DelayPolicy) (width : ℕ) (s : Held) where
  pub whole_of : whole_hold policy width s ≡ true → WholePeaks policy width s × WholeTimes policy s.hold
  unfolding whole_hold
  whole_of w = let a = both_true _ _ w in (peaks_of policy width s a.0, times_of policy s.hold a.1)

  pub of_whole : WholePeaks policy width s → WholeTimes policy s.hold → whole_hold policy width s ≡ true
  unfolding whole_hold
  of_whole a b = sym (both_yes _ _ _ (of_peaks policy width s a) (sym (of_times policy s.hold b)))

-- ---- what step 4 and the decision ask
pub seed_floor : (seed : Option Seed) (maximum : ℕ) → seed_fits seed maximum ≡ true → floor_of seed ≤ maximum
seed_floor None maximum h = omega arith
seed_floor (Some seed) maximum h = leb-true seed.delay maximum h

module _ {policy : DelayPolicy} {width : ℕ} {s : Held} (w : WholePeaks policy width s) (times_long : length s.times ≡ most_peaks) (lags_long : length s.lags ≡ most_peaks) where
  pub placed_of : (window : ℕ) → nanos ≤ window → window ≤ span_limit → Placed s.hold.peaks s.times s.lags window
  placed_of window l m =
      record {
        count = w.count;
        times_padded = blank_padded most_peaks s.hold.peaks s.times times_long w.count w.times_blank;
        lags_padded = blank_padded most_peaks s.hold.peaks s.lags lags_long w.count w.lags_blank;
        times_long = times_long;
        lags_long = lags_long;
        spaced = λ i h. omega (arith, w.spaced i (omega arith));
        window_least = l;
        window_most = m;
      }

  pub greatest_in : greatest (take s.hold.peaks s.lags) ≤ peak_most policy width
  greatest_in =
      greatest_up (take s.hold.peaks s.lags) (peak_most policy width)
      (λ i h. let g : i < s.hold.peaks = omega (arith, length-take-le s.hold.peaks s.lags (omega (arith, w.count))) in rw (get_or-take s.hold.peaks s.lags i 0 g) (w.lags_in_law i g))

  -- as many lags as times in use
  pub in_use : (length (times_in s) ≡ s.hold.peaks) × (length (lags_in s) ≡ s.hold.peaks)
  in_use = (
    length-take-le s.hold.peaks s.times (omega (arith, w.count)),
    length-take-le s.hold.peaks s.lags (omega (arith, w.count)),
  )

  pub spaced_in_use : (i : ℕ) → i + 1 < length (times_in s) → get_or (times_in s) i 0 + nanos ≤ get_or (times_in s) (i + 1) 0
  spaced_in_use i h =
      let a : i + 1 < s.hold.peaks = omega (arith, in_use.0) in
      let b : i < s.hold.peaks = omega arith in
      rw (get_or-take s.hold.peaks s.times i 0 b, get_or-take s.hold.peaks s.times (i + 1) 0 a) (omega (arith, w.spaced i (omega arith)))
