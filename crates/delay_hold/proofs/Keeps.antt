-- `next` leaves a whole hold whole, and its answer is at most the maximum. Assumes nothing.
-- a change, if it is one, is to at most the maximum
use Rattle.std.specs.Prelude.{◌≡◌, ℕ, zero, suc, ◌+◌, ◌-◌, ◌<◌, ◌≤◌, Bool, true, List, length, get_or, None, Option, Some}
use mathlib.Core.Path.{refl, sym, subst, ◌∙◌}
use native.Mathlib.Omega.{arith}
use borrow.Author.Tests.{leb-true, le-leb}
use lib.Seq.{get_or-take}
use Rattle.base.specs.Limits.{nanos, span_limit, time_limit}
use Rattle.base.specs.Lists.{padded, blank_from}
use Rattle.base.proofs.Choices.{le_rule}
use Rattle.base.proofs.Points.{blank_intro, past_end}
use Rattle.base.proofs.Pads.{length_padded, get_or_padded}
use Rattle.policy.specs.declared.DelayPolicy.{DelayPolicy}
use Rattle.policy.proofs.Laws.{need_at_most}
use Rattle.delay_hold.specs.declared.Seed.{Seed}
use Rattle.delay_hold.specs.declared.LowerTimer.{LowerTimer}
use Rattle.delay_hold.specs.declared.DelayHold.{DelayHold}
use Rattle.delay_hold.specs.declared.Next.{Next}
use Rattle.delay_hold.specs.Steps1To3.{started_at, in_startup, seed_left, lag_of, late_of, noted}
use Rattle.delay_hold.specs.Step4Peaks.{larger_lag, times_after, lags_after, most_peaks}
use Rattle.delay_hold.specs.Step4InPlace.{Placed}
use Rattle.delay_hold.specs.Steps5To8.{timer_met, need_for, decide}
use Rattle.delay_hold.specs.Next.{Held, held, times_in, lags_in, window_now, times_now, lags_now, hold_before, decision, next_of, delay_after, one_millisecond, always_lower}
use Rattle.base.specs.Rows.{span_of}
use Rattle.delay_hold.specs.Whole.{peak_most, moment_timely, seed_fits, seed_timely, timer_fits, timer_timely, whole_hold}
use Rattle.delay_hold.specs.Checks.{lag_up_to, AskedFor, next_number, next_reply}
use Rattle.delay_hold.proofs.Order.{after_in, after_same}
use Rattle.delay_hold.proofs.Bounds.{larger_up, within_up, up_more, capped_le, capped_second}
use Rattle.delay_hold.proofs.Survivors.{after_rule, after_spaced, after_span}
use Rattle.delay_hold.proofs.Outcomes.{Outcome, raises, quits, waits, lowers, decided_rule}
use Rattle.delay_hold.proofs.Gate.{accepted_facts}
use Rattle.delay_hold.proofs.Wholes.{WholePeaks, WholeTimes, whole_of, of_whole, placed_of, in_use, spaced_in_use, seed_floor}

abbrev pub ChangeFits : ℕ → Option ℕ → Type 0
ChangeFits maximum None = Unit {0}
ChangeFits maximum (Some delay) = delay ≤ maximum

pub delay_fits : (maximum current : ℕ) (c : Option ℕ) → current ≤ maximum → ChangeFits maximum c → delay_after current c ≤ maximum
delay_fits maximum current None h f = h
delay_fits maximum current (Some d) h f = f

-- ---- the timer
met_fits : (timer : Option LowerTimer) (need time maximum : ℕ) → need ≤ maximum → timer_fits timer maximum ≡ true → (timer_met timer need time).highest ≤ maximum
met_fits None need time maximum h f = h
met_fits (Some timer) need time maximum h f = omega (arith, leb-true timer.highest maximum f)

met_timely : (timer : Option LowerTimer) (need time : ℕ) → time ≤ time_limit → timer_timely timer ≡ true → timer_timely (Some (timer_met timer need time)) ≡ true
met_timely None need time h f = le-leb _ _ h
met_timely (Some timer) need time h f = f

-- ---- the seed and the start
left_fits : (seed : Option Seed) (hold time maximum : ℕ) → seed_fits seed maximum ≡ true → seed_fits (seed_left seed hold time) maximum ≡ true
left_fits None hold time maximum h = refl
left_fits (Some seed) hold time maximum h = le_rule hold (time - seed.since) None (Some seed) (λ (s : Option Seed). seed_fits s maximum ≡ true) (λ g. refl) (λ g. h)

left_timely : (seed : Option Seed) (hold time : ℕ) → seed_timely seed ≡ true → seed_timely (seed_left seed hold time) ≡ true
left_timely None hold time h = refl
left_timely (Some seed) hold time h = le_rule hold (time - seed.since) None (Some seed) (λ (s : Option Seed). seed_timely s ≡ true) (λ g. refl) (λ g. h)

started_timely : (m : Option ℕ) (time : ℕ) → moment_timely m ≡ true → time ≤ time_limit → moment_timely (Some (started_at m time)) ≡ true
started_timely None time h l = le-leb _ _ l
started_timely (Some t) time h l = h

-- ---- steps 1 to 3, and 5 to 8
module _ (policy : DelayPolicy) (time : ℕ) (soon : time ≤ time_limit) where
  noted_whole : (millisecond : ℕ) (h : DelayHold) (lag : Option ℕ) (startup late : Bool) → WholeTimes policy h → WholeTimes policy (noted millisecond policy h lag startup late time)
  unfolding noted
  noted_whole millisecond h lag startup late w =
      record {
        seed = left_fits h.seeded policy.hold time policy.delay_max w.seed;
        timer = w.timer;
        last = w.last;
        since = w.since;
        start = started_timely h.started time w.start soon;
        seed_time = left_timely h.seeded policy.hold time w.seed_time;
      }

  -- what a decision leaves
  pub record Fine (h : DelayHold) (r : Next) : Type 0 where
    pub whole : WholeTimes policy r.hold
    pub peaks_same : r.hold.peaks ≡ h.peaks
    pub change_fits : ChangeFits policy.delay_max r.change

  module _ (millisecond : ℕ) (may_lower : Bool) (h : DelayHold) (w : WholeTimes policy h) (current hold : ℕ) where
    off_whole : (r : Next) → moment_timely r.hold.last_change ≡ true → r.hold.lower ≡ None → r.hold.seeded ≡ h.seeded → r.hold.started ≡ h.started → WholeTimes policy r.hold
    off_whole r last timer seed start =
        record {
          seed = rw seed w.seed;
          timer = rw timer;
          last = last;
          since = rw timer;
          start = rw start w.start;
          seed_time = rw seed w.seed_time;
        }

    outcome_fine : (need : ℕ) (urgent : Bool) → need ≤ policy.delay_max → (r : Next) → Outcome millisecond may_lower h need urgent current hold time r → Fine h r
    outcome_fine need urgent n r (raises l u) = record { whole = off_whole r (le-leb _ _ soon) refl refl refl; peaks_same = refl; change_fits = n }
    outcome_fine need urgent n r (quits l c) = record { whole = off_whole r w.last refl refl refl; peaks_same = refl; change_fits = tt }
    outcome_fine need urgent n r (waits l c d) =
        record {
          whole =
              record {
                seed = w.seed;
                timer = le-leb _ _ (met_fits h.lower need time policy.delay_max n w.timer);
                last = w.last;
                since = met_timely h.lower need time soon w.since;
                start = w.start;
                seed_time = w.seed_time;
              };
          peaks_same = refl;
          change_fits = tt;
        }
    outcome_fine need urgent n r (lowers l c a b) =
        record { whole = off_whole r (le-leb _ _ soon) refl refl refl; peaks_same = refl; change_fits = met_fits h.lower need time policy.delay_max n w.timer }

    need_fits : (worst : ℕ) → need_for policy h.seeded worst ≤ policy.delay_max
    need_fits worst = omega (arith, need_at_most policy worst, seed_floor h.seeded policy.delay_max w.seed)

    decided_fine : (late : Bool) (p999 peak : Option ℕ) → Fine h (decide millisecond may_lower policy h late p999 peak current hold time)
    decided_fine late p999 peak =
        decided_rule millisecond may_lower policy h late current hold time (Fine h) p999 peak
        (record { whole = w; peaks_same = refl; change_fits = tt })
        (λ worst e r o. outcome_fine (need_for policy h.seeded worst) _ (need_fits worst) r o)

-- ---- step 4
module _ {policy : DelayPolicy} {width : ℕ} {s : Held} (w : WholePeaks policy width s) (times_long : length s.times ≡ most_peaks) (lags_long : length s.lags ≡ most_peaks)
    (window : ℕ) (window_least : nanos ≤ window) (window-in : window ≤ policy.window) (window_most : policy.window ≤ span_limit)
    (joined : Option ℕ) (joined_in : lag_up_to joined (peak_most policy width) ≡ true) (time : ℕ) (soon : time ≤ time_limit) where
  placed : Placed s.hold.peaks s.times s.lags window
  placed = placed_of w times_long lags_long window window_least (omega arith)

  abbrev T : List ℕ
  T = times_after (times_in s) joined window time

  abbrev L : List ℕ
  L = lags_after (times_in s) (lags_in s) joined window time

  times_in_use : length (times_in s) ≡ s.hold.peaks
  times_in_use = (in_use w times_long lags_long).0

  lags_in_use : length (lags_in s) ≡ s.hold.peaks
  lags_in_use = (in_use w times_long lags_long).1

  same : length L ≡ length T
  same = after_same (times_in s) (lags_in s) joined window time (lags_in_use ∙ sym times_in_use)

  few : length T ≤ most_peaks
  few = after_in s.hold.peaks s.times s.lags window time placed joined

  span : span_of (length (times_in s)) (times_in s) < policy.window
  span = by_count s.hold.peaks times_in_use w.span
    where
      by_count : (n : ℕ) → length (times_in s) ≡ n → span_of s.hold.peaks s.times < policy.window → span_of (length (times_in s)) (times_in s) < policy.window
      by_count zero e h = rw e (omega arith)
      by_count (suc n) e h =
          let p : s.hold.peaks ≡ suc n = sym times_in_use ∙ e in
          let g : span_of (suc n) s.times < policy.window = subst (λ (m : ℕ). span_of m s.times < policy.window) p h in
          rw e (rw (get_or-take s.hold.peaks s.times n 0 (omega arith), get_or-take s.hold.peaks s.times 0 0 (omega arith)) g)

  each : (P : ℕ → ℕ → Type 0) → ((i : ℕ) → i < s.hold.peaks → P (get_or s.times i 0) (get_or s.lags i 0)) → (i : ℕ) → i < length (times_in s) → P (get_or (times_in s) i 0) (get_or (lags_in s) i 0)
  each P f i l = let g : i < s.hold.peaks = omega (arith, times_in_use) in rw (get_or-take s.hold.peaks s.times i 0 g, get_or-take s.hold.peaks s.lags i 0 g) (f i g)

  lags_up : (i : ℕ) → i < length T → get_or L i 0 ≤ peak_most policy width
  lags_up i l =
      after_rule (times_in s) (lags_in s) (lags_in_use ∙ sym times_in_use) (λ (_ x : ℕ). x ≤ peak_most policy width) (each (λ (_ x : ℕ). x ≤ peak_most policy width) w.lags_in_law) joined window time
      (λ v e. new v e) (λ v t x e y p. omega (arith, new v e)) i l
    where
      new : (v : ℕ) → joined ≡ Some v → v ≤ peak_most policy width
      new v e = leb-true v (peak_most policy width) (rw e at joined_in)

  times_up : (i : ℕ) → i < length T → get_or T i 0 ≤ time_limit
  times_up i l =
      after_rule (times_in s) (lags_in s) (lags_in_use ∙ sym times_in_use) (λ (t _ : ℕ). t ≤ time_limit) (each (λ (t _ : ℕ). t ≤ time_limit) w.times_in_law) joined window time
      (λ v e. soon) (λ v t x e y p. p) i l

  blank : (xs : List ℕ) (n : ℕ) → length xs ≡ n → blank_from n (padded most_peaks xs) ≡ true
  blank xs n e = blank_intro n (padded most_peaks xs) (λ i h. get_or_padded most_peaks xs i ∙ past_end xs i (omega arith))

  peaks_whole : (h : DelayHold) → h.peaks ≡ length T → WholePeaks policy width (held h (padded most_peaks T) (padded most_peaks L))
  peaks_whole h e =
      record {
        count = omega (arith, few);
        spaced = λ i l. rw (get_or_padded most_peaks T i, get_or_padded most_peaks T (i + 1)) (omega (arith, after_spaced (times_in s) (spaced_in_use w times_long lags_long) joined window time i (omega arith)));
        span = by_count (length T) e;
        times_blank = blank T h.peaks (sym e);
        lags_blank = blank L h.peaks (same ∙ sym e);
        lags_in_law = λ i l. rw (get_or_padded most_peaks L i) (lags_up i (omega arith));
        times_in_law = λ i l. rw (get_or_padded most_peaks T i) (times_up i (omega arith));
      }
    where
      by_count : (n : ℕ) → h.peaks ≡ n → span_of h.peaks (padded most_peaks T) < policy.window
      by_count zero q = rw q (omega arith)
      by_count (suc n) q =
          rw q
          (rw (get_or_padded most_peaks T n, get_or_padded most_peaks T 0)
          (after_span (times_in s) (spaced_in_use w times_long lags_long) joined window time policy.window window-in span n (omega arith)))

-- ---- the whole of next
module _ (millisecond : ℕ) (may_lower : Bool) (width : ℕ) (policy : DelayPolicy) (s : Held) (p999 largest : Option ℕ) (current time : ℕ) (a : AskedFor width policy s p999 current) (soon : time ≤ time_limit) where
  abbrev before : DelayHold
  before = hold_before millisecond policy s p999 largest current time

  before_whole : WholeTimes policy before
  before_whole =
      let w = noted_whole policy time soon millisecond s.hold (lag_of policy largest) (in_startup s.hold time) (late_of policy largest current) (whole_of policy width s a.whole).1 in
      record { seed = w.seed; timer = w.timer; last = w.last; since = w.since; start = w.start; seed_time = w.seed_time }

  fine : Fine policy time soon before (decision millisecond may_lower policy s p999 largest current time)
  fine = decided_fine policy time soon millisecond may_lower before before_whole current _ (late_of policy largest current) p999 _

  joined_fits : lag_up_to (larger_lag (lag_of policy largest) p999) (peak_most policy width) ≡ true
  joined_fits =
      larger_up (lag_of policy largest) p999 (peak_most policy width)
      (up_more (lag_of policy largest) (policy.read_offset + policy.delay_max) (peak_most policy width) (omega arith) (within_up largest (policy.read_offset + policy.delay_max)))
      a.p999_in

  -- a whole hold stays whole
  pub next_keeps_whole : whole_hold policy width (next_of millisecond may_lower policy s p999 largest current time).held ≡ true
  unfolding next_of
  next_keeps_whole =
      of_whole policy width _
      (peaks_whole (whole_of policy width s a.whole).0 a.times_long a.lags_long (window_now policy s.hold time) (capped_second (in_startup s.hold time) policy.window a.window_least)
      (capped_le (in_startup s.hold time) policy.window) a.window_most (larger_lag (lag_of policy largest) p999) joined_fits time soon
      (decision millisecond may_lower policy s p999 largest current time).hold fine.peaks_same)
      fine.whole

  pub next_keeps_lengths : (length (next_of millisecond may_lower policy s p999 largest current time).held.times ≡ most_peaks) × (length (next_of millisecond may_lower policy s p999 largest current time).held.lags ≡ most_peaks)
  unfolding next_of
  next_keeps_lengths =
      let w = (whole_of policy width s a.whole).0 in
      let window = window_now policy s.hold time in
      let least = capped_second (in_startup s.hold time) policy.window a.window_least in
      let within = capped_le (in_startup s.hold time) policy.window in
      let joined = larger_lag (lag_of policy largest) p999 in
      let f : length (times_now policy s p999 largest time) ≤ most_peaks = few w a.times_long a.lags_long window least within a.window_most joined joined_fits time soon in
      let e : length (lags_now policy s p999 largest time) ≡ length (times_now policy s p999 largest time) = same w a.times_long a.lags_long window least within a.window_most joined joined_fits time soon in
      (length_padded most_peaks (times_now policy s p999 largest time) f, length_padded most_peaks (lags_now policy s p999 largest time) (omega arith))

  -- its answer is at most the maximum
  pub next_change_fits : ChangeFits policy.delay_max (next_of millisecond may_lower policy s p999 largest current time).change
  unfolding next_of
  next_change_fits = fine.change_fits

  pub next_delay_fits : delay_after current (next_of millisecond may_lower policy s p999 largest current time).change ≤ policy.delay_max
  next_delay_fits = delay_fits policy.delay_max current (next_of millisecond may_lower policy s p999 largest current time).change a.current_in next_change_fits

-- an accepted call, whatever its answer, leaves the hold whole
pub accepted_keeps_whole :
    (policy : DelayPolicy) (width : ℕ) (s : Held) (p999 largest : Option ℕ) (current time : ℕ) →
    next_number policy width s p999 current time ≡ 0 →
    whole_hold policy width (next_reply policy width s p999 largest current time).held ≡ true
unfolding next_reply
accepted_keeps_whole policy width s p999 largest current time z =
    let f = accepted_facts policy width s p999 current time z in
    rw z (next_keeps_whole one_millisecond always_lower width policy s p999 largest current time f.0 f.1)
