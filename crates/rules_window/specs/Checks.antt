-- The checks of the calls on one window, in their order (document 01's, with document 02's 17 and 18), and what each call answers and leaves. Assumes nothing.
use Rattle.std.specs.Prelude.{Result, ℕ, zero, suc, ◌+◌, ◌-◌, ◌*◌, ◌≤◌, ◌≡◌, Bool, true, false, List, leb, eqb, pos, Float, length, get_or}
use Rattle.std.specs.Float.{fin}
use Rattle.std.specs.Float.Ieee.{le}
use Rattle.base.specs.Choice.{pick, both, ask, accepted}
use Rattle.refusals.specs.declared.Refusal.{Refusal}
use Rattle.refusals.specs.Numbers as refusals
use Rattle.base.specs.Limits.{time_limit, timely}
use Rattle.base.specs.Rows.{span_of}
use Rattle.buckets.specs.Ranges.{width_allowed, buckets_of, buckets_allowed, ranges_number}
use Rattle.rules_window.specs.Window.{Window, fresh, cleared, opens, pushed}
use Rattle.rules_window.specs.WholeWindow.{whole_with_sums, Sound}
use Rattle.rules_window.specs.Quantile.{Quantile, End, NoLags, Refused, quantile_upto, quantile_of}
use Rattle.rules_window.specs.ColumnSums.{column_sums}

-- what every call on a window asks: 17 ("W outside 1 to 4,800"), 18 ("more than 4,096 buckets", or none),
-- 5 ("each lent list its exact length", the row of sums among them) and 6, of the window and of each sum; `rest` is the number that the checks after these give
unfoldable pub checked : (w : Window) (sums : List ℕ) (rest : ℕ) → ℕ
checked w sums rest =
    ask 17 (width_allowed w.width)
    (ask 18 (buckets_allowed w.buckets)
    (ask 5 (eqb (length w.starts) 11)
    (ask 5 (eqb (length w.totals) 11)
    (ask 5 (eqb (length w.counts) (11 * w.buckets))
    (ask 5 (eqb (length sums) w.buckets)
    (ask 6 (whole_with_sums w sums) rest))))))

-- 11: "does the newest total (0 if its tick opens a second) plus its lags stay within 4,294,967,295"
unfoldable pub newest_of : (time n : ℕ) (starts totals : List ℕ) → ℕ
newest_of time n starts totals = pick (opens time n starts) 0 (get_or totals (n - 1) 0)

abbrev pub newest : (time : ℕ) (w : Window) → ℕ
newest time w = newest_of time w.seconds w.starts w.totals

abbrev pub room_of : (time lags n : ℕ) (starts totals : List ℕ) → Bool
room_of time lags n starts totals = leb (newest_of time n starts totals + lags) 4294967295

abbrev pub room_for : (time lags : ℕ) (w : Window) → Bool
room_for time lags w = room_of time lags w.seconds w.starts w.totals

-- what the inner functions ask before so many lags are pushed: the window is sound, the sums are its own, and 8 and 11 let the time and the lags through.
-- Check 8 stands as a clause: a type for times would serve the pushes alone
pub record CanPush (time lags : ℕ) (w : Window) (sums : List ℕ) : Type 0 where
  pub sound : Sound w
  pub own : sums ≡ column_sums w
  pub soon : time ≤ time_limit
  pub room : room_for time lags w ≡ true

-- 14: "Is q from 0 to 1"; a NaN is not
unfoldable pub from_zero_to_one : Float → Bool
from_zero_to_one q = both (le (fin false 0 (pos 0)) q) (le q (fin false 1 (pos 0)))

-- 2 17 18 5: the number of the first check that says no, or 0; of the lists `new` asks only the lengths
unfoldable pub new_number : (offset maximum width starts totals counts sums : ℕ) → ℕ
new_number offset maximum width starts totals counts sums =
    ranges_number offset maximum width
    (ask 5 (eqb starts 11)
    (ask 5 (eqb totals 11)
    (ask 5 (eqb counts (11 * buckets_of offset maximum width))
    (ask 5 (eqb sums (buckets_of offset maximum width)) 0))))

unfoldable pub push_number : (time : ℕ) (w : Window) (sums : List ℕ) → ℕ
push_number time w sums = checked w sums (ask 8 (timely time) (ask 11 (room_for time 1 w) 0))

unfoldable pub quantile_number : (q : Float) (w : Window) (sums : List ℕ) → ℕ
quantile_number q w sums = checked w sums (ask 14 (from_zero_to_one q) 0)

-- what a call leaves: its number, the window with its lists, and its row of sums
pub record Reply : Type 0 where
  pub number : ℕ
  pub window : Window
  pub sums : List ℕ

-- the new window with its sums where the number is 0, else the old one with the row as it came
abbrev pub replied : (number : ℕ) (old : Window) (sums : List ℕ) (new : Window) → Reply
replied number old sums new = record { number = number; window = accepted number old new; sums = accepted number sums (column_sums new) }

-- the zero window, with the lists as they came
abbrev pub nothing : (starts totals counts : List ℕ) → Window
nothing starts totals counts = record { seconds = 0; buckets = 0; width = 0; starts = starts; totals = totals; counts = counts }

unfoldable pub new_reply : (offset maximum width : ℕ) (starts totals counts sums : List ℕ) → Reply
new_reply offset maximum width starts totals counts sums =
    replied (new_number offset maximum width (length starts) (length totals) (length counts) (length sums)) (nothing starts totals counts) sums
    (fresh (buckets_of offset maximum width) width)

unfoldable pub push_reply : (lag time : ℕ) (w : Window) (sums : List ℕ) → Reply
push_reply lag time w sums = replied (push_number time w sums) w sums (pushed lag time w)

unfoldable pub clear_reply : (w : Window) (sums : List ℕ) → Reply
clear_reply w sums = replied (checked w sums 0) w sums (cleared w)

-- a span in nanoseconds, and the number of the check that refuses, or 0; and of each case of what a call gives
pub record SpanAnswer : Type 0 where
  pub number : ℕ
  pub span : ℕ

abbrev pub told_span : Result ℕ Refusal → SpanAnswer
told_span result = record { number = refusals.number_in result; span = refusals.value_in 0 result }

-- "Span is newest start − oldest start, 0 with no second"
unfoldable pub span_reply : (w : Window) (sums : List ℕ) → SpanAnswer
span_reply w sums = record { number = checked w sums 0; span = accepted (checked w sums 0) 0 (span_of w.seconds w.starts) }

-- the answer of a quantile whose checks gave this number: the quantile where it is 0, else the number
abbrev pub answered : ℕ → (found : Quantile) → Quantile
answered zero found = found
answered (suc k) found = Refused (suc k)

unfoldable pub quantile_upto_reply : (q : Float) (limit : ℕ) (w : Window) (sums : List ℕ) → Quantile
quantile_upto_reply q limit w sums = answered (quantile_number q w sums) (quantile_upto q limit w)

unfoldable pub quantile_reply : (q : Float) (w : Window) (sums : List ℕ) → Quantile
quantile_reply q w sums = answered (quantile_number q w sums) (quantile_of q w)

-- document 01's number of each answer, and its value, a bucket's end (0 where there is none)
abbrev pub number_of : Quantile → ℕ
number_of (End e) = 0
number_of NoLags = 0
number_of (Refused k) = k

abbrev pub value_of : Quantile → ℕ
value_of (End e) = e
value_of NoLags = 0
value_of (Refused k) = 0
