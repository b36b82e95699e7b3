-- Document 01, "Need": the delay that covers a lag, and the call `need_of` with its checks. Assumes nothing.
use Rattle.std.specs.Prelude.{ℕ, Result, Ok, Err, zero, suc, ◌+◌, ◌-◌, min}
use Rattle.std.specs.Float.{binary64}
use Rattle.std.specs.Float.Ieee.{mul}
use Rattle.base.specs.Choice.{ask}
use Rattle.buckets.specs.Ranges.{reaches_allowed}
use Rattle.doubles.specs.Doubles.{double, half_away}
use Rattle.policy.specs.declared.DelayPolicy.{DelayPolicy}
use Rattle.refusals.specs.declared.Refusal.{Refusal}
use Rattle.refusals.specs.Numbers as refusals
use Rattle.policy.specs.Settings.{margins_allowed}

-- "above times share, rounded as before": the product as a double, rounded once, then to a whole number with halves away from zero
unfoldable pub share_of : (p : DelayPolicy) (above : ℕ) → ℕ
share_of p above = half_away (mul binary64 (double above) p.margin_share)

-- "above = lag − read offset, or 0. need = the smaller of maximum delay and above + margin + (above times share ..), added as whole numbers"
unfoldable pub need_of : (p : DelayPolicy) (lag : ℕ) → ℕ
unfolding share_of
need_of p lag = let above = lag - p.read_offset in min p.delay_max (above + p.margin + share_of p above)

-- the first check that says no, or 0
unfoldable pub need_number : DelayPolicy → ℕ
need_number p = ask 2 (reaches_allowed p.read_offset p.delay_max) (ask 4 (margins_allowed p) 0)

-- a need, or the number of the check that refuses
pub data Need : Type 0 where
  Of : ℕ → Need
  Refused : ℕ → Need

-- .. of each case of what the call gives
abbrev pub told : Result ℕ Refusal → Need
told (Ok value) = Of value
told (Err refusal) = Refused (refusals.number_of refusal)

-- the answer for a number and a value
abbrev pub need_answer : ℕ → (value : ℕ) → Need
need_answer zero value = Of value
need_answer (suc k) value = Refused (suc k)

-- an answer's number and value: a refusal has the value 0
abbrev pub number_of : Need → ℕ
number_of (Of value) = 0
number_of (Refused number) = number

abbrev pub value_of : Need → ℕ
value_of (Of value) = value
value_of (Refused number) = 0

-- what `need_of` answers
unfoldable pub need_reply : (p : DelayPolicy) (lag : ℕ) → Need
need_reply p lag = need_answer (need_number p) (need_of p lag)
