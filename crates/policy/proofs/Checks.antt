-- What the checks of a policy say, as facts, and what `need_of` answers for each. Assumes nothing.
use Rattle.std.specs.Prelude.{◌≡◌, ℕ, zero, suc, ◌≤◌, true, false, pos}
use mathlib.Core.Path.{refl, sym, ap, ◌∙◌}
use lib.Ieee.{Float, fin}
use borrow.Author.Tests.{leb-true}
use Rattle.base.specs.Choice.{accepted}
use Rattle.base.specs.Limits.{nanos, span_limit}
use Rattle.base.proofs.Choices.{yes_ask, no_ask}
use Rattle.base.proofs.Points.{both_true}
use Rattle.buckets.specs.Ranges.{reaches_allowed}
use Rattle.buckets.proofs.Told.{reaches_told}
use Rattle.doubles.proofs.Values.{is}
use Rattle.policy.specs.declared.DelayPolicy.{DelayPolicy}
use Rattle.policy.specs.Settings.{Share, times_allowed, margins_allowed, Sound, percent_allowed, share_of_percent, share_number, share_answer, share_reply, share_number_of, share_value_of}
use Rattle.policy.specs.Need.{Of, Refused, need_of, need_number, need_answer, need_reply, number_of, value_of}

-- checks 2 and 4 make a policy sound
pub allowed_sound : (p : DelayPolicy) → reaches_allowed p.read_offset p.delay_max ≡ true → margins_allowed p ≡ true → Sound p
unfolding margins_allowed
allowed_sound p a b =
    let r = reaches_told _ _ a in
    let m = both_true _ _ b in
    let s = both_true _ _ m.1 in
    record { offset = r.0; maximum = r.1; margins = leb-true _ _ m.0; low = is s.0; high = is s.1 }

-- what check 3 says of a policy
pub allowed_times : (p : DelayPolicy) → times_allowed p ≡ true → (p.hold ≤ span_limit) × (nanos ≤ p.window) × (p.window ≤ span_limit)
unfolding times_allowed
allowed_times p a =
    let r = both_true _ _ a in
    let w = both_true _ _ r.1 in
    (leb-true _ _ r.0, leb-true _ _ w.0, leb-true _ _ w.1)

-- ---- the three answers of `need_of`
module _ (p : DelayPolicy) (lag : ℕ) where
  reply_by : {n : ℕ} → need_number p ≡ n → need_answer n (need_of p lag) ≡ need_reply p lag
  unfolding need_reply
  reply_by e = ap (λ (n : ℕ). need_answer n (need_of p lag)) (sym e)

  pub refused_two : reaches_allowed p.read_offset p.delay_max ≡ false → Refused 2 ≡ need_reply p lag
  unfolding need_number
  refused_two a = reply_by {n = 2} (no_ask 2 _ a)

  pub refused_four : reaches_allowed p.read_offset p.delay_max ≡ true → margins_allowed p ≡ false → Refused 4 ≡ need_reply p lag
  unfolding need_number
  refused_four a b = reply_by {n = 4} (yes_ask 2 _ a ∙ no_ask 4 _ b)

  pub answered : reaches_allowed p.read_offset p.delay_max ≡ true → margins_allowed p ≡ true → {r : ℕ} → r ≡ need_of p lag → Of r ≡ need_reply p lag
  unfolding need_number
  answered a b e = ap Of e ∙ reply_by {n = 0} (yes_ask 2 _ a ∙ yes_ask 4 _ b)

  -- the answer has document 01's number, and its value where that is 0, else the value 0
  pub reply_number : number_of (need_reply p lag) ≡ need_number p
  unfolding need_reply
  reply_number = by_number (need_number p)
    where
      by_number : (n : ℕ) → number_of (need_answer n (need_of p lag)) ≡ n
      by_number zero = refl
      by_number (suc n) = refl

  pub reply_value : value_of (need_reply p lag) ≡ accepted (need_number p) 0 (need_of p lag)
  unfolding need_reply
  reply_value = by_number (need_number p)
    where
      by_number : (n : ℕ) → value_of (need_answer n (need_of p lag)) ≡ accepted n 0 (need_of p lag)
      by_number zero = refl
      by_number (suc n) = refl

-- ---- the two answers of `share_of`
module _ (percent : Float) where
  share_by : {n : ℕ} → share_number percent ≡ n → share_answer n (share_of_percent percent) ≡ share_reply percent
  unfolding share_reply
  share_by e = ap (λ (n : ℕ). share_answer n (share_of_percent percent)) (sym e)

  pub percent_refused : percent_allowed percent ≡ false → Share.Refused 4 ≡ share_reply percent
  unfolding share_number
  percent_refused a = share_by {n = 4} (no_ask 4 _ a)

  pub percent_shared : percent_allowed percent ≡ true → {r : Float} → r ≡ share_of_percent percent → Share.Of r ≡ share_reply percent
  unfolding share_number
  percent_shared a e = ap Share.Of e ∙ share_by {n = 0} (yes_ask 4 _ a)

  pub share_number_law : share_number_of (share_reply percent) ≡ share_number percent
  unfolding share_reply
  share_number_law = by_number (share_number percent)
    where
      by_number : (n : ℕ) → share_number_of (share_answer n (share_of_percent percent)) ≡ n
      by_number zero = refl
      by_number (suc n) = refl

  pub share_value : share_value_of (share_reply percent) ≡ accepted (share_number percent) (fin false 0 (pos 0)) (share_of_percent percent)
  unfolding share_reply
  share_value = by_number (share_number percent)
    where
      by_number : (n : ℕ) → share_value_of (share_answer n (share_of_percent percent)) ≡ accepted n (fin false 0 (pos 0)) (share_of_percent percent)
      by_number zero = refl
      by_number (suc n) = refl
