-- What a decision does, as facts on numbers: one constructor for each of the four outcomes of steps 6, 7 and 8. Assumes nothing.
-- a moment, if there was one, was by t
use Rattle.std.specs.Prelude.{◌≡◌, ℕ, suc, ◌+◌, ◌-◌, ◌<◌, ◌≤◌, max, Bool, true, false, not, ◌&&◌, ltb, leb, None, Option, Some}
use mathlib.Core.Path.{refl, ap}
use native.Mathlib.Nat.{lt_of_not-le}
use native.Mathlib.Omega.{arith}
use borrow.Author.Tests.{leb-true, ltb-true, le-leb, lt-ltb}
use Rattle.base.proofs.Choices.{pick_rule, lt_rule}
use Rattle.base.proofs.Tests.{not_both}
use Rattle.policy.specs.declared.DelayPolicy.{DelayPolicy}
use Rattle.delay_hold.specs.declared.DelayHold.{DelayHold}
use Rattle.delay_hold.specs.declared.Next.{Next}
use Rattle.delay_hold.specs.Step4Peaks.{larger_lag}
use Rattle.delay_hold.specs.Steps5To8.{timer_off, timer_met, held_since, with_lower, keeps, changes, lowering, weighed, need_for, urgent_at, decide_at, decide_for, decide, missing}
use Rattle.delay_hold.specs.Checks.{lag_up_to}

abbrev pub Till : ℕ → Option ℕ → Type 0
Till t None = Unit {0}
Till t (Some s) = s ≤ t

-- there is a lag, and it is at most e
abbrev pub AtMost : ℕ → Option ℕ → Type 0
AtMost e None = ⊥
AtMost e (Some lag) = lag ≤ e

-- ---- tests
and_both : (a b : Bool) → a ≡ true → b ≡ true → (a && b) ≡ true
and_both true b p q = q
and_both false b p q = p

pub and_left : (a b : Bool) → (a && b) ≡ true → a ≡ true
and_left true b e = refl
and_left false b e = e

pub and_right : (a b : Bool) → (a && b) ≡ true → b ≡ true
and_right true b e = e
and_right false b e = let z : ◌≡◌ {A = ℕ} 0 1 = cc in absurd (omega arith)

held_of : (last : Option ℕ) (t hold time : ℕ) → Till t last → hold ≤ time - t → held_since last hold time ≡ true
held_of None t hold time l h = refl
held_of (Some s) t hold time l h = le-leb hold (time - s) (omega arith)

-- ---- the four outcomes of a need
pub data Outcome (millisecond : ℕ) (may_lower : Bool) (h : DelayHold) (need : ℕ) (urgent : Bool) (current hold time : ℕ) : Next → Type 0 where
  raises : current < need → urgent ≡ true → Outcome millisecond may_lower h need urgent current hold time (changes h need time)
  quits :
      current < need + millisecond →
      (urgent ≡ true → need ≤ current) →
      Outcome millisecond may_lower h need urgent current hold time (keeps (with_lower h timer_off))
  waits :
      need + millisecond ≤ current →
      (urgent ≡ true → need ≤ current) →
      (may_lower ≡ true → (t : ℕ) → (timer_met h.lower need time).since ≤ t → Till t h.last_change → time < t + hold) →
      Outcome millisecond may_lower h need urgent current hold time (keeps (with_lower h (Some (timer_met h.lower need time))))
  lowers :
      need + millisecond ≤ current →
      (urgent ≡ true → need ≤ current) →
      hold ≤ time - (timer_met h.lower need time).since →
      held_since h.last_change hold time ≡ true →
      Outcome millisecond may_lower h need urgent current hold time (changes h (timer_met h.lower need time).highest time)

module _ (millisecond : ℕ) (may_lower : Bool) (h : DelayHold) (need : ℕ) (urgent : Bool) (current hold time : ℕ) where
  lowering_outcome :
      need + millisecond ≤ current →
      (urgent ≡ true → need ≤ current) →
      Outcome millisecond may_lower h need urgent current hold time (lowering may_lower h need hold time)
  unfolding lowering
  lowering_outcome low calm =
      let since = (timer_met h.lower need time).since in
      pick_rule (Outcome millisecond may_lower h need urgent current hold time) (may_lower && leb hold (time - since) && held_since h.last_change hold time) _ _
      (λ e. due e)
      (λ e. waits low calm (λ may t s l. lt_of_not-le (λ w.
      not_both (and_both _ _ (and_both _ _ may (le-leb hold (time - since) (omega arith))) (held_of h.last_change t hold time l (omega arith))) e)))
    where
      due :
          (may_lower && leb hold (time - (timer_met h.lower need time).since) && held_since h.last_change hold time) ≡ true →
          Outcome millisecond may_lower h need urgent current hold time (changes h (timer_met h.lower need time).highest time)
      due e =
          let long = leb hold (time - (timer_met h.lower need time).since) in
          lowers low calm (leb-true _ _ (and_right may_lower long (and_left (may_lower && long) _ e))) (and_right (may_lower && long) _ e)

  pub weighed_outcome : Outcome millisecond may_lower h need urgent current hold time (weighed millisecond may_lower h need urgent current hold time)
  unfolding weighed
  weighed_outcome =
      pick_rule (Outcome millisecond may_lower h need urgent current hold time) (ltb current need && urgent) _ _
      (λ e. raises (ltb-true current need (and_left _ _ e)) (and_right (ltb current need) urgent e))
      (λ e. lt_rule current (need + millisecond) _ _ (Outcome millisecond may_lower h need urgent current hold time) (λ l. quits l (calm e)) (λ l. lowering_outcome l (calm e)))
    where
      calm : (ltb current need && urgent) ≡ false → urgent ≡ true → need ≤ current
      calm e u = let k : current < suc current = omega arith in below (lt_of_not-le (λ w. not_both (and_both _ _ (lt-ltb current need w) u) e))
        where
          below : need < suc current → need ≤ current
          below l = omega arith

-- ---- a decision, by its cases
module _ (millisecond : ℕ) (may_lower : Bool) (policy : DelayPolicy) (h : DelayHold) (late : Bool) (current hold time : ℕ) (Q : Next → Type 0) where
  -- a worst lag, and what it came to
  abbrev AtWorst : ℕ → Type 0
  AtWorst worst =
      (r : Next) →
      Outcome millisecond may_lower h (need_for policy h.seeded worst) (urgent_at policy late worst current) current hold time r →
      Q r

  decided_at_law : (worst : ℕ) → AtWorst worst → Q (decide_at millisecond may_lower policy h late worst current hold time)
  unfolding decide_at
  decided_at_law worst f = f _ (weighed_outcome millisecond may_lower h _ _ current hold time)

  decided_for_law : (worst : Option ℕ) → Q (keeps h) → ((w : ℕ) → worst ≡ Some w → AtWorst w) → Q (decide_for millisecond may_lower policy h late worst current hold time)
  decided_for_law None q f = q
  decided_for_law (Some w) q f = decided_at_law w (f w refl)

  -- nothing is decided, or one of the four at the larger of p999 and the greatest peak
  pub decided_rule :
      (p999 peak : Option ℕ) →
      Q (keeps h) →
      ((w : ℕ) → larger_lag p999 peak ≡ Some w → AtWorst w) →
      Q (decide millisecond may_lower policy h late p999 peak current hold time)
  unfolding decide
  decided_rule p999 peak q f =
      pick_rule Q (missing p999 && not late) (keeps h) _ (λ e. q) (λ e. decided_for_law (larger_lag p999 peak) q f)

  -- with a p999, and nothing above e: one of the four, at a lag of at most e
  pub low_rule :
      (e : ℕ) (p999 peak : Option ℕ) →
      AtMost e p999 →
      lag_up_to peak e ≡ true →
      ((w : ℕ) → w ≤ e → AtWorst w) →
      Q (decide millisecond may_lower policy h late p999 peak current hold time)
  unfolding decide
  low_rule e None peak a b f = absurd a
  low_rule e (Some p) None a b f = decided_at_law p (f p a)
  low_rule e (Some p) (Some v) a b f = decided_at_law (max p v) (f (max p v) (omega (arith, leb-true v e b)))

  -- late, or with a p999, and a peak: one of the four, at a lag of at least that peak
  pub high_rule :
      (p999 : Option ℕ) (v : ℕ) →
      (missing p999 ≡ false) →
      ((w : ℕ) → v ≤ w → AtWorst w) →
      Q (decide millisecond may_lower policy h late p999 (Some v) current hold time)
  unfolding decide
  high_rule None v m f = let z : ◌≡◌ {A = ℕ} 0 1 = cc in absurd (omega arith)
  high_rule (Some p) v m f = decided_at_law (max p v) (f (max p v) (omega arith))

  pub late_rule :
      (p999 : Option ℕ) (v : ℕ) →
      late ≡ true →
      ((w : ℕ) → v ≤ w → AtWorst w) →
      Q (decide millisecond may_lower policy h late p999 (Some v) current hold time)
  unfolding decide
  late_rule None v e f = pick_rule Q (not late) (keeps h) _ (λ n. absurd (no_late n)) (λ n. decided_at_law v (f v (omega arith)))
    where
      no_late : not late ≡ true → ⊥
      no_late n = not_both n (ap not e)
  late_rule (Some p) v e f = high_rule (Some p) v refl f
