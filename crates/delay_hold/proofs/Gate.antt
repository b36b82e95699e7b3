-- The checks of `new` and `next` as facts, and what each call leaves for each number. Assumes nothing.
use Rattle.std.specs.Prelude.{◌≡◌, ℕ, zero, suc, ◌^◌, ◌<◌, ◌≤◌, true, false, List, length, None, Option, Some}
use mathlib.Core.Path.{refl, sym, ap, ◌∙◌}
use native.Mathlib.Omega.{arith}
use borrow.Author.Tests.{leb-true, eqb-true}
use Rattle.base.specs.Limits.{nanos, span_limit, time_limit, width_limit}
use Rattle.base.specs.Choice.{accepted}
use Rattle.base.proofs.Choices.{yes_ask, no_ask, asked, refused_old, accepted_new}
use Rattle.base.proofs.Points.{both_true}
use Rattle.buckets.proofs.Told.{reaches_yes, ranges_told}
use Rattle.policy.specs.declared.DelayPolicy.{DelayPolicy}
use Rattle.policy.specs.Settings.{Sound}
use Rattle.policy.proofs.Checks.{allowed_sound, allowed_times}
use Rattle.delay_hold.specs.Checks.{Refused}
use Rattle.delay_hold.specs.declared.DelayHold.{DelayHold}
use Rattle.delay_hold.specs.declared.Next.{Next}
use Rattle.delay_hold.specs.Step4Peaks.{most_peaks}
use Rattle.delay_hold.specs.Next.{Held, held, Decided, decided, next_of, one_millisecond, always_lower, fresh_hold, cleared_hold}
use Rattle.delay_hold.specs.Whole.{peak_most}
use Rattle.delay_hold.specs.Checks.{Answer, changed_to, lists_fit, new_number, NewReply, new_reply, settings_number, held_number, next_number, next_answer, number_of, value_of, left_hold, reply_of, next_reply, AskedFor, Asked}

pub lists_long : (s : Held) → lists_fit s ≡ true → (length s.times ≡ most_peaks) × (length s.lags ≡ most_peaks)
unfolding lists_fit
lists_long s h = let a = both_true _ _ h in (eqb-true _ _ a.0, eqb-true _ _ a.1)

-- ---- new
module _ (times lags : List ℕ) where
  abbrev came : Held
  came = held fresh_hold times lags

  abbrev leaves : ℕ → Held → NewReply
  leaves number s = record { number = number; held = s }

  new_by : {n : ℕ} → new_number came ≡ n → leaves n (accepted n came (cleared_hold came)) ≡ new_reply times lags
  unfolding new_reply
  new_by e = ap (λ (n : ℕ). leaves n (accepted n came (cleared_hold came))) (sym e)

  pub new_refused : (h : DelayHold) → h ≡ fresh_hold → lists_fit came ≡ false → leaves 5 (held h times lags) ≡ new_reply times lags
  unfolding new_number
  new_refused h e a = rw e (new_by {n = 5} (no_ask 5 _ a))

  pub new_made : (h : DelayHold) (ts ls : List ℕ) → held h ts ls ≡ cleared_hold came → lists_fit came ≡ true → leaves 0 (held h ts ls) ≡ new_reply times lags
  unfolding new_number
  new_made h ts ls e a = ap (leaves 0) e ∙ new_by {n = 0} (yes_ask 5 _ a)

-- ---- checks 2, 17, 18, 3 and 4 of next
pub record Settled (policy : DelayPolicy) (width : ℕ) : Type 0 where
  pub sound : Sound policy
  pub window_least : nanos ≤ policy.window
  pub window_most : policy.window ≤ span_limit
  pub width_most : width ≤ width_limit

module _ (policy : DelayPolicy) (width : ℕ) where
  pub settled : settings_number policy width ≡ 0 → Settled policy width
  unfolding settings_number
  settled h =
      let told = ranges_told policy.read_offset policy.delay_max width _ h in
      let r = told.0 in
      let d = asked 2 _ _ told.1 in
      let e = asked 3 _ _ d.1 in
      let t = allowed_times policy d.0 in
      record { sound = allowed_sound policy (reaches_yes _ _ r.offset_most r.maximum_most) e.0; window_least = t.1; window_most = t.2; width_most = r.width_most }

  pub settings_most : settings_number policy width ≡ 0 → peak_most policy width < 2 ^ 32
  settings_most h = let s = settled h in omega (arith, s.sound.offset, s.sound.maximum, s.width_most)

-- ---- all checks of next
module _ (policy : DelayPolicy) (width : ℕ) (s : Held) (p999 : Option ℕ) (current time : ℕ) where
  pub number_refused : (n : ℕ) → n ≡ settings_number policy width → (n ≡ 0 → ⊥) → n ≡ next_number policy width s p999 current time
  unfolding next_number
  number_refused n e h = e ∙ sym (refused_old (settings_number policy width) _ _ (λ z. h (e ∙ z)))

  pub number_settled : settings_number policy width ≡ 0 → held_number policy width s p999 current time ≡ next_number policy width s p999 current time
  unfolding next_number
  number_settled z = sym (accepted_new (settings_number policy width) _ _ z)

  settings_zero : (n m : ℕ) → accepted n n m ≡ 0 → (n ≡ 0) × (m ≡ 0)
  settings_zero zero m h = (refl, h)
  settings_zero (suc n) m h = absurd (omega arith)

  both_zero : next_number policy width s p999 current time ≡ 0 → (settings_number policy width ≡ 0) × (held_number policy width s p999 current time ≡ 0)
  unfolding next_number
  both_zero h = settings_zero _ _ h

  state_asked : Settled policy width → held_number policy width s p999 current time ≡ 0 → AskedFor width policy s p999 current × (time ≤ time_limit)
  unfolding held_number
  state_asked t h =
      let a = asked 4 _ _ h in
      let b = asked 5 _ _ a.1 in
      let c = asked 7 _ _ b.1 in
      let d = asked 14 _ _ c.1 in
      let e = asked 14 _ _ d.1 in
      let l = lists_long s a.0 in (
        record {
          sound = t.sound;
          window_least = t.window_least;
          window_most = t.window_most;
          width_most = t.width_most;
          times_long = l.0;
          lags_long = l.1;
          whole = b.0;
          current_in = leb-true _ _ d.0;
          p999_in = e.0;
        },
        leb-true _ _ c.0,
      )

  -- what the number 0 says
  pub accepted_facts : next_number policy width s p999 current time ≡ 0 → AskedFor width policy s p999 current × (time ≤ time_limit)
  accepted_facts h = let z = both_zero h in state_asked (settled policy width z.0) z.1

  pub accepted_asked : next_number policy width s p999 current time ≡ 0 → Asked policy s p999 current
  accepted_asked h = record { width = width; asked = (accepted_facts h).0 }

  -- ---- what next leaves
  module _ (largest : Option ℕ) where
    abbrev decision_of : Decided
    decision_of = next_of one_millisecond always_lower policy s p999 largest current time

    next_by : {n : ℕ} → next_number policy width s p999 current time ≡ n → reply_of n s decision_of ≡ next_reply policy width s p999 largest current time
    unfolding next_reply
    next_by e = ap (λ (n : ℕ). reply_of n s decision_of) (sym e)

    refused_by : (n : ℕ) → (n ≡ 0 → ⊥) → record { answer = Refused n; held = s } ≡ reply_of n s decision_of
    refused_by zero h = absurd (h refl)
    refused_by (suc n) h = refl

    pub next_refused : (n : ℕ) → n ≡ next_number policy width s p999 current time → (n ≡ 0 → ⊥) → record { answer = Refused n; held = s } ≡ next_reply policy width s p999 largest current time
    next_refused n e h = refused_by n h ∙ next_by {n = n} (sym e)

    module _ (n : ℕ) (zero_is : n ≡ next_number policy width s p999 current time) (n-is : n ≡ 0) (r : Next) (ts ls : List ℕ) (done : decided r ts ls ≡ decision_of) where
      next_done : reply_of 0 s (decided r ts ls) ≡ next_reply policy width s p999 largest current time
      next_done = ap (reply_of 0 s) done ∙ next_by {n = 0} (sym zero_is ∙ n-is)

      pub next_told : left_hold (changed_to r.change) r.hold ts ls ≡ next_reply policy width s p999 largest current time
      next_told = ap (λ (a : Answer). left_hold a r.hold ts ls) (answer_of r.change) ∙ next_done
        where
          answer_of : (c : Option ℕ) → changed_to c ≡ next_answer 0 c
          answer_of None = refl
          answer_of (Some d) = refl

    -- the answer has document 01's number, and changes nothing where that is not 0
    pub reply_number : number_of (next_reply policy width s p999 largest current time).answer ≡ next_number policy width s p999 current time
    unfolding next_reply
    reply_number = by_answer (next_number policy width s p999 current time) decision_of.change
      where
        by_answer : (n : ℕ) (c : Option ℕ) → number_of (next_answer n c) ≡ n
        by_answer zero None = refl
        by_answer zero (Some d) = refl
        by_answer (suc n) c = refl

    pub reply_value : value_of (next_reply policy width s p999 largest current time).answer ≡ accepted (next_number policy width s p999 current time) None decision_of.change
    unfolding next_reply
    reply_value = by_answer (next_number policy width s p999 current time) decision_of.change
      where
        by_answer : (n : ℕ) (c : Option ℕ) → value_of (next_answer n c) ≡ accepted n None c
        by_answer zero None = refl
        by_answer zero (Some d) = refl
        by_answer (suc n) c = refl
