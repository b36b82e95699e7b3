-- The floor of the third demand, for one call: after a largest lag up to offset + maximum the delay covers it. Assumes nothing.
-- ---- the timer holds at least the need met
use Rattle.std.specs.Prelude.{◌≡◌, ℕ, ◌+◌, ◌≤◌, max, Bool, true, false, ◌||◌, length, None, Option, Some}
use mathlib.Core.Path.{refl, sym, ap, ◌∙◌}
use native.Mathlib.Omega.{arith}
use borrow.Author.Tests.{ltb-false}
use Rattle.base.specs.Limits.{nanos}
use Rattle.base.proofs.Choices.{by_bool, le_yes}
use Rattle.policy.specs.declared.DelayPolicy.{DelayPolicy}
use Rattle.policy.proofs.Laws.{need_covers}
use Rattle.delay_hold.specs.declared.LowerTimer.{LowerTimer}
use Rattle.delay_hold.specs.declared.DelayHold.{DelayHold}
use Rattle.delay_hold.specs.declared.Next.{Next}
use Rattle.delay_hold.specs.Steps1To3.{in_startup, lag_of, late_at, late_of}
use Rattle.delay_hold.specs.Step4Peaks.{larger_lag, greatest, worst_of}
use Rattle.delay_hold.specs.Steps5To8.{timer_met, need_for, urgent_at}
use Rattle.delay_hold.specs.Next.{Held, times_in, lags_in, hold_now, window_now, lags_now, hold_before, next_of, delay_after}
use Rattle.delay_hold.proofs.Loops.{worst_some}
use Rattle.delay_hold.proofs.Bounds.{capped_second}
use Rattle.delay_hold.proofs.Survivors.{newest_survives, newest_some}
use Rattle.delay_hold.proofs.Outcomes.{Outcome, raises, quits, waits, lowers, decided_rule, late_rule}

pub highest_met : (timer : Option LowerTimer) (need time : ℕ) → need ≤ (timer_met timer need time).highest
highest_met None need time = omega arith
highest_met (Some timer) need time = omega arith

-- ---- each of the four outcomes covers a lag that the need covers, or the delay before where nothing pressed
module _ (offset lag : ℕ) (millisecond : ℕ) (may_lower : Bool) (h : DelayHold) (need : ℕ) (urgent : Bool) (current hold time : ℕ) (reach : lag ≤ offset + need) (calm : urgent ≡ false → lag ≤ offset + current) where
  pub outcome_covers : (r : Next) → Outcome millisecond may_lower h need urgent current hold time r → lag ≤ offset + delay_after current r.change
  outcome_covers r (raises l u) = reach
  outcome_covers r (quits l c) = by_bool urgent (λ e. let k : need ≤ current = c e in omega arith) calm
  outcome_covers r (waits l c d) = by_bool urgent (λ e. let k : need ≤ current = c e in omega arith) calm
  outcome_covers r (lowers l c a b) = omega (arith, highest_met h.lower need time)

-- ---- the largest lag stands among the peaks
larger_of : ℕ → Option ℕ → ℕ
larger_of lag None = lag
larger_of lag (Some p) = max lag p

larger_some : (lag : ℕ) (p999 : Option ℕ) → larger_lag (Some lag) p999 ≡ Some (larger_of lag p999)
unfolding larger_of
larger_some lag None = refl
larger_some lag (Some p) = refl

larger_high : (lag : ℕ) (p999 : Option ℕ) → lag ≤ larger_of lag p999
unfolding larger_of
larger_high lag None = omega arith
larger_high lag (Some p) = omega arith

larger_right : (p999 : Option ℕ) (v w : ℕ) → larger_lag p999 (Some v) ≡ Some w → v ≤ w
larger_right None v w e = let q : v ≡ w = cc in omega arith
larger_right (Some p) v w e = let q : max p v ≡ w = cc in omega arith

or_false : (a b : Bool) → (a || b) ≡ false → a ≡ false
or_false true b e = e
or_false false b e = refl

module _ (policy : DelayPolicy) (s : Held) (same : length (lags_in s) ≡ length (times_in s)) (window_least : nanos ≤ policy.window) (p999 : Option ℕ) (lag : ℕ) (fits : lag ≤ policy.read_offset + policy.delay_max) (time : ℕ) where
  lag_stays : lag_of policy (Some lag) ≡ Some lag
  lag_stays = le_yes lag (policy.read_offset + policy.delay_max) (Some lag) None fits

  -- "the newest peak survives": the greatest peak is at least the lag
  pub greatest_covers : lag ≤ greatest (lags_now policy s p999 (Some lag) time)
  greatest_covers =
      rw (lag_stays, larger_some lag p999)
      (omega (arith, larger_high lag p999, newest_survives (times_in s) (lags_in s) (larger_of lag p999) (window_now policy s.hold time) time same (capped_second (in_startup s.hold time) policy.window window_least)))

  -- there is a greatest peak
  pub greatest_is : worst_of (lags_now policy s p999 (Some lag) time) ≡ Some (greatest (lags_now policy s p999 (Some lag) time))
  greatest_is =
      worst_some (lags_now policy s p999 (Some lag) time)
      (rw (lag_stays, larger_some lag p999)
      (newest_some (times_in s) (lags_in s) (larger_of lag p999) (window_now policy s.hold time) time same (capped_second (in_startup s.hold time) policy.window window_least)))

  module _ (millisecond : ℕ) (may_lower : Bool) (current : ℕ) where
    late_not : late_of policy (Some lag) current ≡ false → lag ≤ policy.read_offset + current
    late_not e = ltb-false (policy.read_offset + current) lag (sym (ap (λ (l : Option ℕ). late_at l (policy.read_offset + current)) lag_stays) ∙ e)

    before : DelayHold
    before = hold_before millisecond policy s p999 (Some lag) current time

    at_worst :
        (worst : ℕ) → lag ≤ worst → (r : Next) →
        Outcome millisecond may_lower before (need_for policy before.seeded worst) (urgent_at policy (late_of policy (Some lag) current) worst current) current (hold_now policy s.hold time) time r →
        lag ≤ policy.read_offset + delay_after current r.change
    at_worst worst l r o =
        outcome_covers policy.read_offset lag millisecond may_lower before (need_for policy before.seeded worst) (urgent_at policy (late_of policy (Some lag) current) worst current) current (hold_now policy s.hold time) time
        (omega (arith, need_covers policy worst)) (λ e. late_not (or_false (late_of policy (Some lag) current) _ e)) r o

    -- an answer covers the lag, and so does a delay that is kept
    pub next_covers : lag ≤ policy.read_offset + delay_after current (next_of millisecond may_lower policy s p999 (Some lag) current time).change
    unfolding next_of before
    next_covers =
        rw greatest_is
        (by_bool (late_of policy (Some lag) current)
        (λ e. late_rule millisecond may_lower policy before (late_of policy (Some lag) current) current (hold_now policy s.hold time) time Covered p999 (greatest (lags_now policy s p999 (Some lag) time)) e (λ w l. at_worst w (omega (arith, greatest_covers))))
        (λ e. decided_rule millisecond may_lower policy before (late_of policy (Some lag) current) current (hold_now policy s.hold time) time Covered p999 (Some (greatest (lags_now policy s p999 (Some lag) time))) (late_not e) (λ w q. at_worst w (omega (arith, greatest_covers, larger_right p999 _ w q)))))
      where
        Covered : Next → Type 0
        Covered r = lag ≤ policy.read_offset + delay_after current r.change
