-- The checks that every call on a whole supervisor asks: document 01's 1 to 8, with document 02's 17 and 18 straight after 2. Assumes nothing.
-- Where laws and functions speak of checks 1 to 4, 1 to 5 and so on, 17 and 18 are among them: 1 2 17 18 3 4 5 6 7 8.
use Rattle.std.specs.Prelude.{◌≡◌, ℕ, ◌*◌, ◌≤◌, Bool, true, ◌||◌, length, ◌==◌, nat_le, nat_lt}
use Rattle.base.specs.Choice.{both, ask}
use Rattle.base.specs.Limits.{nanos, span_limit, timely, width_limit, buckets_limit}
use Rattle.buckets.specs.Ranges.{ranges_number}
use Rattle.policy.specs.declared.DelayPolicy.{DelayPolicy}
use Rattle.policy.specs.Settings.{times_allowed, margins_allowed, Sound}
use Rattle.rules_record.specs.declared.Inputs.{Inputs}
use Rattle.rules_record.specs.declared.Output.{Output}
use Rattle.rules_record.specs.declared.Output.TheVariants.{Absent, Words, Bytes}
use Rattle.rules_record.specs.Lent.{Lists, buckets_in, buckets_for}
use Rattle.rules_record.specs.WholeRecord.{whole_record}

-- 1: "Are there 1 to 16 inputs?"
unfoldable pub inputs_allowed : ℕ → Bool
inputs_allowed n = both (nat_le 1 n) (nat_le n 16)

-- 3: "Are hold and stall at most 600 s, window 1 to 600 s?"
unfoldable pub pauses_allowed : (policy : DelayPolicy) (stall : ℕ) → Bool
pauses_allowed policy stall = both (times_allowed policy) (nat_le stall span_limit)

-- 5: "Has each lent list its exact length (commands 12 words an input ..)?", of n inputs with so many buckets a second; document 02, §5:
-- "Number 5 counts the new list in", a sum for each bucket of each input
unfoldable pub lists_fit : (n buckets : ℕ) (l : Lists) → Bool
lists_fit n buckets l =
    both (length l.starts == n * 11)
    (both (length l.totals == n * 11)
    (both (length l.counts == n * (11 * buckets))
    (both (length l.sums == n * buckets)
    (both (length l.times == n * 600)
    (length l.peaks == n * 600)))))

-- 5, of the list that a call writes to: none, "commands 12 words an input", or bytes of which it must have exactly so many
abbrev pub output_fits : (n : ℕ) → Output → Bool
output_fits n Absent = true
output_fits n (Words words) = words == n * 12
output_fits n (Bytes bytes exact) = bytes == exact

-- the number of the first of checks 1 to 6 that says no, or the number that the checks after them give
unfoldable pub record_number : (s : Inputs) (l : Lists) (output : Output) (rest : ℕ) → ℕ
record_number s l output rest =
    ask 1 (inputs_allowed s.count)
    (ranges_number s.policy.read_offset s.policy.delay_max s.width
    (ask 3 (pauses_allowed s.policy s.stall)
    (ask 4 (margins_allowed s.policy)
    (ask 5 (lists_fit s.count (buckets_in s) l)
    (ask 5 (output_fits s.count output)
    (ask 6 (whole_record s l) rest))))))

-- the number is that of a check that speaks of the record, its settings and its lists, whatever else a call brings
unfoldable pub own_number : (number : ℕ) → Bool
own_number number = number == 1 || number == 2 || number == 17 || number == 18 || number == 3 || number == 4 || number == 5 || number == 6

-- ---- a call on one input
-- 1 to 6, and 7: "Does the input exist?"; `rest` is the number that the checks after these give
unfoldable pub input_number : (s : Inputs) (l : Lists) (output : Output) (input rest : ℕ) → ℕ
input_number s l output input rest = record_number s l output (ask 7 (nat_lt input s.count) rest)

-- 1 to 7, with so many words of commands, and 8: "Is the time at most 4 times 10^18"
unfoldable pub timed_number : (s : Inputs) (l : Lists) (words input time rest : ℕ) → ℕ
timed_number s l words input time rest = input_number s l (Words words) input (ask 8 (timely time) rest)

-- ---- what they let through
-- what 1 to 4 let through, as facts
pub record Allowed (n : ℕ) (policy : DelayPolicy) (width stall : ℕ) : Type 0 where
  pub least : 1 ≤ n
  pub most : n ≤ 16
  pub sound : Sound policy
  pub width_least : 1 ≤ width
  pub width_most : width ≤ width_limit
  pub buckets_most : buckets_for policy width ≤ buckets_limit
  pub hold_most : policy.hold ≤ span_limit
  pub window_least : nanos ≤ policy.window
  pub window_most : policy.window ≤ span_limit
  pub stall_most : stall ≤ span_limit

-- what 5 lets through of the lists
pub record Long (n buckets : ℕ) (l : Lists) : Type 0 where
  pub starts : length l.starts ≡ n * 11
  pub totals : length l.totals ≡ n * 11
  pub counts : length l.counts ≡ n * (11 * buckets)
  pub sums : length l.sums ≡ n * buckets
  pub times : length l.times ≡ n * 600
  pub peaks : length l.peaks ≡ n * 600

-- what 1 to 5 let through of a record and its lists: what `inputs_checks::inner::whole` asks
pub record Fitting (s : Inputs) (l : Lists) : Type 0 where
  pub allowed : Allowed s.count s.policy s.width s.stall
  pub long : Long s.count (buckets_in s) l
