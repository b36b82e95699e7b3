-- What `next` does to the times of a hold, to peaks above a bound and to the seed: what the ceiling of the third demand asks. Assumes nothing.
-- ---- by what a hold goes: every time in it is at most t
use Rattle.std.specs.Prelude.{◌≡◌, ℕ, ◌+◌, ◌-◌, ◌<◌, ◌≤◌, max, Bool, true, length, get_or, None, Option, Some}
use mathlib.Core.Path.{refl, sym, ◌∙◌}
use native.Mathlib.Omega.{arith}
use borrow.Author.Tests.{leb-true}
use lib.Seq.{get_or-take}
use Rattle.base.specs.Limits.{nanos}
use Rattle.base.proofs.Choices.{le_rule}
use Rattle.base.proofs.Pads.{get_or_padded}
use Rattle.policy.specs.declared.DelayPolicy.{DelayPolicy}
use Rattle.delay_hold.specs.declared.Seed.{Seed}
use Rattle.delay_hold.specs.declared.LowerTimer.{LowerTimer}
use Rattle.delay_hold.specs.declared.DelayHold.{DelayHold}
use Rattle.delay_hold.specs.declared.Next.{Next}
use Rattle.delay_hold.specs.Steps1To3.{in_startup, seed_left, lag_of, late_of, noted}
use Rattle.delay_hold.specs.Step4Peaks.{larger_lag, worst_of, most_peaks}
use Rattle.delay_hold.specs.Steps5To8.{timer_met, floor_of, need_for, urgent_at}
use Rattle.delay_hold.specs.Next.{Held, times_in, lags_in, hold_now, window_now, times_now, lags_now, hold_before, next_of}
use Rattle.delay_hold.specs.Checks.{lag_up_to}
use Rattle.delay_hold.proofs.Order.{after_same}
use Rattle.delay_hold.proofs.Bounds.{greatest_up, worst_up, capped_le}
use Rattle.delay_hold.proofs.Survivors.{after_rule, after_young}
use Rattle.delay_hold.proofs.Outcomes.{Till, AtMost, Outcome, raises, quits, waits, lowers, decided_rule, low_rule}
use Rattle.delay_hold.proofs.Wholes.{WholePeaks, in_use, spaced_in_use}

abbrev pub SeedTill : ℕ → Option Seed → Type 0
SeedTill t None = Unit {0}
SeedTill t (Some seed) = seed.since ≤ t

abbrev pub TimerTill : ℕ → Option LowerTimer → Type 0
TimerTill t None = Unit {0}
TimerTill t (Some timer) = timer.since ≤ t

-- a property of the peaks in use: their times and lags
abbrev pub Each : (ℕ → ℕ → Type 0) → Held → Type 0
Each P s = (i : ℕ) → i < s.hold.peaks → P (get_or s.times i 0) (get_or s.lags i 0)

pub record HoldTill (t : ℕ) (s : Held) : Type 0 where
  pub peaks : Each (λ at _. at ≤ t) s
  pub last : Till t s.hold.last_change
  pub since : TimerTill t s.hold.lower
  pub seed : SeedTill t s.hold.seeded

pub till_later : (t u : ℕ) (m : Option ℕ) → t ≤ u → Till t m → Till u m
till_later t u None h k = tt
till_later t u (Some s) h k = omega arith

timer_later : (t u : ℕ) (timer : Option LowerTimer) → t ≤ u → TimerTill t timer → TimerTill u timer
timer_later t u None h k = tt
timer_later t u (Some timer) h k = omega arith

-- the timer that meets a need starts by now
pub met_till : (t : ℕ) (timer : Option LowerTimer) (need time : ℕ) → time ≤ t → TimerTill t timer → (timer_met timer need time).since ≤ t
met_till t None need time h k = h
met_till t (Some timer) need time h k = k

seed_later : (t u : ℕ) (seed : Option Seed) → t ≤ u → SeedTill t seed → SeedTill u seed
seed_later t u None h k = tt
seed_later t u (Some seed) h k = omega arith

pub hold_later : (t u : ℕ) (s : Held) → t ≤ u → HoldTill t s → HoldTill u s
hold_later t u s h k =
    record {
      peaks = λ i l. omega (arith, k.peaks i l);
      last = till_later t u s.hold.last_change h k.last;
      since = timer_later t u s.hold.lower h k.since;
      seed = seed_later t u s.hold.seeded h k.seed;
    }

-- ---- the seed
pub seed_kept : (t hold time : ℕ) (seed : Option Seed) → SeedTill t seed → SeedTill t (seed_left seed hold time)
seed_kept t hold time None h = tt
seed_kept t hold time (Some seed) h = le_rule hold (time - seed.since) None (Some seed) (SeedTill t) (λ g. tt) (λ g. h)

-- a hold after its time it is gone
pub seed_gone : (t hold time : ℕ) (seed : Option Seed) → t + hold ≤ time → SeedTill t seed → floor_of (seed_left seed hold time) ≡ 0
seed_gone t hold time None g h = refl
seed_gone t hold time (Some seed) g h = le_rule hold (time - seed.since) None (Some seed) (λ (x : Option Seed). floor_of x ≡ 0) (λ q. refl) (λ q. absurd (omega arith))

-- ---- next, by its cases
module _ (millisecond : ℕ) (may_lower : Bool) (policy : DelayPolicy) (s : Held) (p999 largest : Option ℕ) (current time : ℕ) where
  abbrev before : DelayHold
  before = hold_before millisecond policy s p999 largest current time

  -- a worst lag, and what it came to
  abbrev pub Came : (DelayHold → Option ℕ → Type 0) → ℕ → Type 0
  Came Q worst =
      (r : Next) →
      Outcome millisecond may_lower before (need_for policy (seed_left s.hold.seeded policy.hold time) worst) (urgent_at policy (late_of policy largest current) worst current) current (hold_now policy s.hold time) time r →
      Q r.hold r.change

  pub next_rule :
      (Q : DelayHold → Option ℕ → Type 0) →
      Q before None →
      ((w : ℕ) → larger_lag p999 (worst_of (lags_now policy s p999 largest time)) ≡ Some w → Came Q w) →
      Q (next_of millisecond may_lower policy s p999 largest current time).held.hold (next_of millisecond may_lower policy s p999 largest current time).change
  unfolding next_of noted
  next_rule Q q f = decided_rule millisecond may_lower policy before (late_of policy largest current) current (hold_now policy s.hold time) time (λ (r : Next). Q r.hold r.change) p999 (worst_of (lags_now policy s p999 largest time)) q f

  -- with a p999, and nothing above e
  pub next_low :
      (Q : DelayHold → Option ℕ → Type 0) (e : ℕ) →
      AtMost e p999 →
      lag_up_to (worst_of (lags_now policy s p999 largest time)) e ≡ true →
      ((w : ℕ) → w ≤ e → Came Q w) →
      Q (next_of millisecond may_lower policy s p999 largest current time).held.hold (next_of millisecond may_lower policy s p999 largest current time).change
  unfolding next_of noted
  next_low Q e a b f = low_rule millisecond may_lower policy before (late_of policy largest current) current (hold_now policy s.hold time) time (λ (r : Next). Q r.hold r.change) e p999 (worst_of (lags_now policy s p999 largest time)) a b f

  -- what no outcome touches
  pub next_seeded : (next_of millisecond may_lower policy s p999 largest current time).held.hold.seeded ≡ seed_left s.hold.seeded policy.hold time
  unfolding noted
  next_seeded = next_rule (λ h c. h.seeded ≡ seed_left s.hold.seeded policy.hold time) refl (λ w e r o. by_outcome w r o)
    where
      by_outcome : (w : ℕ) (r : Next) → Outcome millisecond may_lower before (need_for policy (seed_left s.hold.seeded policy.hold time) w) (urgent_at policy (late_of policy largest current) w current) current (hold_now policy s.hold time) time r → r.hold.seeded ≡ seed_left s.hold.seeded policy.hold time
      by_outcome w r (raises l u) = refl
      by_outcome w r (quits l c) = refl
      by_outcome w r (waits l c d) = refl
      by_outcome w r (lowers l c a b) = refl

  pub next_peaks : (next_of millisecond may_lower policy s p999 largest current time).held.hold.peaks ≡ length (times_now policy s p999 largest time)
  unfolding noted
  next_peaks = next_rule (λ h c. h.peaks ≡ length (times_now policy s p999 largest time)) refl (λ w e r o. by_outcome w r o)
    where
      by_outcome : (w : ℕ) (r : Next) → Outcome millisecond may_lower before (need_for policy (seed_left s.hold.seeded policy.hold time) w) (urgent_at policy (late_of policy largest current) w current) current (hold_now policy s.hold time) time r → r.hold.peaks ≡ length (times_now policy s p999 largest time)
      by_outcome w r (raises l u) = refl
      by_outcome w r (quits l c) = refl
      by_outcome w r (waits l c d) = refl
      by_outcome w r (lowers l c a b) = refl

  -- ---- the peaks
  module _ {width : ℕ} (w : WholePeaks policy width s) (times_long : length s.times ≡ most_peaks) (lags_long : length s.lags ≡ most_peaks) where
    same : length (lags_in s) ≡ length (times_in s)
    same = let u = in_use w times_long lags_long in u.1 ∙ sym u.0

    -- what holds of each peak in use holds of each that is left, if it holds of the new one and of one that is joined
    pub next_each :
        (P : ℕ → ℕ → Type 0) →
        Each P s →
        ((v : ℕ) → larger_lag (lag_of policy largest) p999 ≡ Some v → P time v) →
        ((v t l : ℕ) → larger_lag (lag_of policy largest) p999 ≡ Some v → time - t < nanos → P t l → P t (max l v)) →
        Each P (next_of millisecond may_lower policy s p999 largest current time).held
    unfolding next_of
    next_each P old new join i l =
        rw (get_or_padded most_peaks (times_now policy s p999 largest time) i, get_or_padded most_peaks (lags_now policy s p999 largest time) i)
        (after_rule (times_in s) (lags_in s) same P old_in (larger_lag (lag_of policy largest) p999) (window_now policy s.hold time) time new join i (omega (arith, next_peaks)))
      where
        old_in : (j : ℕ) → j < length (times_in s) → P (get_or (times_in s) j 0) (get_or (lags_in s) j 0)
        old_in j h = let g : j < s.hold.peaks = omega (arith, (in_use w times_long lags_long).0) in rw (get_or-take s.hold.peaks s.times j 0 g, get_or-take s.hold.peaks s.lags j 0 g) (old j g)

    -- times that were by t are by now
    pub next_till : (t : ℕ) → t ≤ time → HoldTill t s → HoldTill time (next_of millisecond may_lower policy s p999 largest current time).held
    unfolding noted
    next_till t h k =
        let u = hold_later t time s h k in
        let g = next_rule (λ x c. Till time x.last_change × TimerTill time x.lower) (u.last, u.since) (λ worst e r o. by_outcome u.last u.since worst r o) in
        record {
          peaks = next_each (λ at _. at ≤ time) u.peaks (λ v e. omega arith) (λ v at l e y p. p);
          last = g.0;
          since = g.1;
          seed = rw next_seeded (seed_kept time policy.hold time s.hold.seeded u.seed);
        }
      where
        by_outcome :
            Till time s.hold.last_change → TimerTill time s.hold.lower →
            (worst : ℕ) (r : Next) → Outcome millisecond may_lower before (need_for policy (seed_left s.hold.seeded policy.hold time) worst) (urgent_at policy (late_of policy largest current) worst current) current (hold_now policy s.hold time) time r → Till time r.hold.last_change × TimerTill time r.hold.lower
        by_outcome a b worst r (raises l u) = (omega arith, tt)
        by_outcome a b worst r (quits l c) = (a, tt)
        by_outcome a b worst r (waits l c d) = (a, met_till time s.hold.lower (need_for policy (seed_left s.hold.seeded policy.hold time) worst) time (omega arith) b)
        by_outcome a b worst r (lowers l c x y) = (omega arith, tt)

    -- a peak begun after b is at most e: kept, if from b on no lag above e comes
    pub next_peaked :
        (b e t : ℕ) →
        t ≤ time →
        Each (λ at lag. (at ≤ t) × (b < at → lag ≤ e)) s →
        (b < time → lag_up_to (larger_lag (lag_of policy largest) p999) e ≡ true) →
        Each (λ at lag. (at ≤ time) × (b < at → lag ≤ e)) (next_of millisecond may_lower policy s p999 largest current time).held
    next_peaked b e t h k low =
        next_each (λ at lag. (at ≤ time) × (b < at → lag ≤ e)) (λ i l. (omega (arith, (k i l).0), (k i l).1))
        (λ v q. (omega arith, λ g. new v q g))
        (λ v at lag q y p. (p.0, λ g. let x : v ≤ e = new v q (omega arith) in let z : lag ≤ e = p.1 g in omega arith))
      where
        new : (v : ℕ) → larger_lag (lag_of policy largest) p999 ≡ Some v → b < time → v ≤ e
        new v q g = leb-true v e (rw q at (low g))

    -- a window after b, no peak above e is left
    pub worst_low :
        (b e t : ℕ) →
        t ≤ time →
        Each (λ at lag. (at ≤ t) × (b < at → lag ≤ e)) s →
        (b < time → lag_up_to (larger_lag (lag_of policy largest) p999) e ≡ true) →
        b + policy.window ≤ time →
        lag_up_to (worst_of (lags_now policy s p999 largest time)) e ≡ true
    unfolding next_of
    worst_low b e t h k low late =
        let T = times_now policy s p999 largest time in
        let L = lags_now policy s p999 largest time in
        let long : length L ≡ length T = after_same (times_in s) (lags_in s) (larger_lag (lag_of policy largest) p999) (window_now policy s.hold time) time same in
        worst_up L e (greatest_up L e (λ i l. each i (omega arith)))
      where
        each : (i : ℕ) → i < length (times_now policy s p999 largest time) → get_or (lags_now policy s p999 largest time) i 0 ≤ e
        each i l =
            let y : time - get_or (times_now policy s p999 largest time) i 0 < window_now policy s.hold time = after_young (times_in s) (spaced_in_use w times_long lags_long) (larger_lag (lag_of policy largest) p999) (window_now policy s.hold time) time i l in
            let p = rw (get_or_padded most_peaks (times_now policy s p999 largest time) i, get_or_padded most_peaks (lags_now policy s p999 largest time) i) at (next_peaked b e t h k low i (omega (arith, next_peaks))) in
            p.1 (omega (arith, capped_le (in_startup s.hold time) policy.window))
