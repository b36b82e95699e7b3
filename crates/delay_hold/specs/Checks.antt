-- The checks of `new` and of `next` alone (document 01's, with document 02's 17 and 18), the answers, and what each call leaves. Assumes nothing.
use Rattle.std.specs.Prelude.{Result, Ok, Err, ◌≡◌, ℕ, zero, suc, ◌≤◌, Bool, true, List, length, ◌==◌, nat_le, None, Option, Some}
use Rattle.base.specs.Choice.{ask, both, accepted}
use Rattle.base.specs.Limits.{nanos, span_limit, timely, width_limit}
use Rattle.buckets.specs.Ranges.{ranges_number}
use Rattle.policy.specs.declared.DelayPolicy.{DelayPolicy}
use Rattle.policy.specs.Settings.{times_allowed, margins_allowed, Sound}
use Rattle.refusals.specs.declared.Refusal.{Refusal}
use Rattle.refusals.specs.Numbers as refusals
use Rattle.delay_hold.specs.declared.Next.{Next}
use Rattle.delay_hold.specs.declared.DelayHold.{DelayHold}
use Rattle.delay_hold.specs.Step4Peaks.{most_peaks}
use Rattle.delay_hold.specs.Next.{Held, held, Decided, next_of, fresh_hold, cleared_hold, one_millisecond, always_lower}
use Rattle.delay_hold.specs.Whole.{peak_most, whole_hold}

-- ---- making a hold
-- 5: both lists have 600 places
unfoldable pub lists_fit : Held → Bool
lists_fit s = both (length s.times == most_peaks) (length s.lags == most_peaks)

unfoldable pub new_number : Held → ℕ
new_number s = ask 5 (lists_fit s) 0

-- what `new` leaves: its number, the hold (the fresh one for a refusal too), and the lists, zero in every place or as they came
pub record NewReply : Type 0 where
  pub number : ℕ
  pub held : Held

abbrev pub new_left : Result DelayHold Refusal → (times lags : List ℕ) → NewReply
new_left result times lags = record { number = refusals.number_in result; held = held (refusals.value_in fresh_hold result) times lags }

unfoldable pub new_reply : (times lags : List ℕ) → NewReply
new_reply times lags =
    let s : Held = held fresh_hold times lags in
    record { number = new_number s; held = accepted (new_number s) s (cleared_hold s) }

-- ---- next alone
-- a lag, if there is one, is at most the limit
abbrev pub lag_up_to : Option ℕ → (limit : ℕ) → Bool
lag_up_to None limit = true
lag_up_to (Some lag) limit = nat_le lag limit

-- 2 17 18 of offset, maximum and W, from which the buckets follow. 3. 4.
unfoldable pub settings_number : (policy : DelayPolicy) (width : ℕ) → ℕ
settings_number policy width =
    ranges_number policy.read_offset policy.delay_max width
    (ask 3 (times_allowed policy)
    (ask 4 (margins_allowed policy) 0))

-- 5. 6. 8. 15: "current at most maximum, p999 at most offset + maximum + W"
unfoldable pub held_number : (policy : DelayPolicy) (width : ℕ) (s : Held) (p999 : Option ℕ) (current time : ℕ) → ℕ
held_number policy width s p999 current time =
    ask 5 (lists_fit s)
    (ask 6 (whole_hold policy width s)
    (ask 8 (timely time)
    (ask 15 (nat_le current policy.delay_max)
    (ask 15 (lag_up_to p999 (peak_most policy width)) 0))))

-- the first check of `next` that says no, or 0
unfoldable pub next_number : (policy : DelayPolicy) (width : ℕ) (s : Held) (p999 : Option ℕ) (current time : ℕ) → ℕ
next_number policy width s p999 current time =
    accepted (settings_number policy width) (settings_number policy width) (held_number policy width s p999 current time)

-- the answer of `next`: the delay is kept, or changed to so many samples, or the number of the check that refuses
pub data Answer : Type 0 where
  Kept : Answer
  Changed : ℕ → Answer
  Refused : ℕ → Answer

-- the answer for a number and a change
abbrev pub next_answer : ℕ → (change : Option ℕ) → Answer
next_answer zero None = Kept
next_answer zero (Some delay) = Changed delay
next_answer (suc k) change = Refused (suc k)

-- an answer's number and value: a refusal changes nothing
abbrev pub number_of : Answer → ℕ
number_of Kept = 0
number_of (Changed delay) = 0
number_of (Refused number) = number

abbrev pub value_of : Answer → Option ℕ
value_of Kept = None
value_of (Changed delay) = Some delay
value_of (Refused number) = None

-- what `next` leaves: its answer, and the hold and both lists, as they came where it is refused
pub record Reply : Type 0 where
  pub answer : Answer
  pub held : Held

-- .. of a change, and of each case of what `next` gives
abbrev pub changed_to : Option ℕ → Answer
changed_to None = Kept
changed_to (Some delay) = Changed delay

abbrev pub told : Result (Option ℕ) Refusal → Answer
told (Ok change) = changed_to change
told (Err refusal) = Refused (refusals.number_of refusal)

abbrev pub left_hold : (r : Answer) (h : DelayHold) (times lags : List ℕ) → Reply
left_hold r h times lags = record { answer = r; held = held h times lags }

-- .. of each case of what `decide_next` gives, and of the hold as it came
abbrev pub left_next : (came : DelayHold) → Result Next Refusal → (times lags : List ℕ) → Reply
left_next came (Ok next) times lags = left_hold (changed_to next.change) next.hold times lags
left_next came (Err refusal) times lags = left_hold (Refused (refusals.number_of refusal)) came times lags

-- the reply for a number and what was decided
abbrev pub reply_of : (number : ℕ) (s : Held) (d : Decided) → Reply
reply_of number s d = record { answer = next_answer number d.change; held = accepted number s d.held }

unfoldable pub next_reply : (policy : DelayPolicy) (width : ℕ) (s : Held) (p999 largest : Option ℕ) (current time : ℕ) → Reply
next_reply policy width s p999 largest current time =
    reply_of (next_number policy width s p999 current time) s (next_of one_millisecond always_lower policy s p999 largest current time)

-- ---- what `inner::next` asks: what the checks say, but for the time
pub record AskedFor (width : ℕ) (policy : DelayPolicy) (s : Held) (p999 : Option ℕ) (current : ℕ) : Type 0 where
  pub sound : Sound policy
  pub window_least : nanos ≤ policy.window
  pub window_most : policy.window ≤ span_limit
  pub width_most : width ≤ width_limit
  pub times_long : length s.times ≡ most_peaks
  pub lags_long : length s.lags ≡ most_peaks
  pub whole : whole_hold policy width s ≡ true
  pub current_in : current ≤ policy.delay_max
  pub p999_in : lag_up_to p999 (peak_most policy width) ≡ true

-- for some width
pub record Asked (policy : DelayPolicy) (s : Held) (p999 : Option ℕ) (current : ℕ) : Type 0 where
  pub width : ℕ
  pub asked : AskedFor width policy s p999 current
