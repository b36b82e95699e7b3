-- Document 01's checks 3 and 4, as far as they read a policy, what 2 and 4 let through, and a percent as a share. Assumes nothing.
use Rattle.std.specs.Prelude.{ℕ, Result, Ok, Err, zero, suc, ◌≤◌, Bool, false, T, pos, nat_le}
use Rattle.std.specs.Prelude.{Float}
use Rattle.std.specs.Float.{fin, binary64}
use Rattle.std.specs.Float.Ieee.{div, le}
use Rattle.base.specs.Choice.{both, ask}
use Rattle.base.specs.Limits.{nanos, span_limit, samples_limit}
use Rattle.doubles.specs.Doubles.{thousand}
use Rattle.policy.specs.declared.DelayPolicy.{DelayPolicy}
use Rattle.refusals.specs.declared.Refusal.{Refusal}
use Rattle.refusals.specs.Numbers as refusals

-- 3: "Are hold and stall at most 600 s, window 1 to 600 s" (a policy has no stall)
unfoldable pub times_allowed : DelayPolicy → Bool
times_allowed p = both (nat_le p.hold span_limit) (both (nat_le nanos p.window) (nat_le p.window span_limit))

-- a double from 0 to a limit "and no NaN"
abbrev pub in_range : (x limit : Float) → Bool
in_range x limit = both (le (fin false 0 (pos 0)) x) (le x limit)

-- 4: "Is margin at most 96,000, percent 0 to 1,000 and no NaN": of a policy, the share is from 0 to 10
unfoldable pub margins_allowed : DelayPolicy → Bool
margins_allowed p = both (nat_le p.margin samples_limit) (in_range p.margin_share (fin false 5 (pos 1)))

-- what checks 2 and 4 say of a policy, as facts
pub record Sound (p : DelayPolicy) : Type 0 where
  pub offset : p.read_offset ≤ samples_limit
  pub maximum : p.delay_max ≤ samples_limit
  pub margins : p.margin ≤ samples_limit
  pub low : T (le (fin false 0 (pos 0)) p.margin_share)
  pub high : T (le p.margin_share (fin false 5 (pos 1)))

-- "its margin share as a double, percent / 100" (100 is 25 * 2 ^ 2)
unfoldable pub share_of_percent : Float → Float
share_of_percent percent = div binary64 percent (fin false 25 (pos 2))

-- 4, of a percent: from 0 to 1,000 and no NaN
unfoldable pub percent_allowed : Float → Bool
percent_allowed percent = both (le (fin false 0 (pos 0)) percent) (le percent thousand)

unfoldable pub share_number : Float → ℕ
share_number percent = ask 4 (percent_allowed percent) 0

-- a percent as a share, or the number of the check that refuses
pub data Share : Type 0 where
  Of : Float → Share
  Refused : ℕ → Share

-- .. of each case of what the call gives
abbrev pub told_share : Result Float Refusal → Share
told_share (Ok value) = Of value
told_share (Err refusal) = Refused (refusals.number_of refusal)

-- the answer for a number and a value
abbrev pub share_answer : ℕ → (value : Float) → Share
share_answer zero value = Of value
share_answer (suc k) value = Refused (suc k)

-- an answer's number and value: a refusal has the value 0
abbrev pub share_number_of : Share → ℕ
share_number_of (Of value) = 0
share_number_of (Refused number) = number

abbrev pub share_value_of : Share → Float
share_value_of (Of value) = value
share_value_of (Refused number) = fin false 0 (pos 0)

-- what `share_of` answers
unfoldable pub share_reply : Float → Share
share_reply percent = share_answer (share_number percent) (share_of_percent percent)
