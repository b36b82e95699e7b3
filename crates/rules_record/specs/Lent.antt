-- The lists lent for all inputs of a supervisor, and what of them belongs to one input. Assumes nothing.
use Rattle.std.specs.Prelude.{ℕ, ◌*◌, List}
use Rattle.base.specs.Lists.{part, patched}
use Rattle.buckets.specs.Ranges.{buckets_of}
use Rattle.policy.specs.declared.DelayPolicy.{DelayPolicy}
use Rattle.rules_window.specs.Window.{Window, windowed}
use Rattle.rules_window.specs.Parts.{part_of}
use Rattle.rules_window.specs.ColumnSums.{column_sums}
use Rattle.delay_hold.specs.Next.{Held, held}
use Rattle.rules_record.specs.declared.Slot.{Slot}
use Rattle.rules_record.specs.declared.Inputs.{Inputs}
use Rattle.rules_record.specs.Inputs.{slot_at}

-- "lent lists, oldest first, unused places zero: 11 seconds and 600 peaks an input": the starts, totals and rows of counts of the seconds,
-- "one more row for each input: the sums over its seconds" (document 02, §5), the times and lags of the peaks, those of input 0 first
pub record Lists : Type 0 where
  pub starts : List ℕ
  pub totals : List ℕ
  pub counts : List ℕ
  pub sums : List ℕ
  pub times : List ℕ
  pub peaks : List ℕ

abbrev pub lists : (starts totals counts sums times peaks : List ℕ) → Lists
lists starts totals counts sums times peaks = record { starts = starts; totals = totals; counts = counts; sums = sums; times = times; peaks = peaks }

-- the buckets of every window: "(offset + maximum + 4,800) / W + 2", of a policy and W, and of a record's
abbrev pub buckets_for : (policy : DelayPolicy) (width : ℕ) → ℕ
buckets_for policy width = buckets_of policy.read_offset policy.delay_max width

unfoldable pub buckets_in : Inputs → ℕ
buckets_in s = buckets_for s.policy s.width

-- the lists of all inputs as one window, with the seconds that this slot says; and the window of input i, where this is its slot: its part of them
abbrev pub windows_of : (s : Inputs) (l : Lists) (slot : Slot) → Window
windows_of s l slot = windowed slot.lag_seconds (buckets_in s) s.width l.starts l.totals l.counts

abbrev pub window_for : (s : Inputs) (l : Lists) (i : ℕ) (slot : Slot) → Window
window_for s l i slot = part_of i (windows_of s l slot)

abbrev pub window_of : (s : Inputs) (l : Lists) (i : ℕ) → Window
window_of s l i = window_for s l i (slot_at s i)

-- the row of sums of input i: a sum for each bucket
abbrev pub sums_of : (s : Inputs) (l : Lists) (i : ℕ) → List ℕ
sums_of s l i = part (i * buckets_in s) (buckets_in s) l.sums

-- the hold of input i, where this is its slot: that of the slot, with the input's part of the lists
abbrev pub held_for : (l : Lists) (i : ℕ) (slot : Slot) → Held
held_for l i slot = held slot.hold (part (i * 600) 600 l.times) (part (i * 600) 600 l.peaks)

abbrev pub held_of : (s : Inputs) (l : Lists) (i : ℕ) → Held
held_of s l i = held_for l i (slot_at s i)

-- the lists with those of window w for input i, and its sums: "A push, a dropped second, a cleared window .. must all leave it true";
-- its slot then says how many seconds are in use
abbrev pub with_window : (buckets i : ℕ) (w : Window) (l : Lists) → Lists
with_window buckets i w l =
    lists
    (patched (i * 11) 11 w.starts l.starts)
    (patched (i * 11) 11 w.totals l.totals)
    (patched (i * (11 * buckets)) (11 * buckets) w.counts l.counts)
    (patched (i * buckets) buckets (column_sums w) l.sums)
    l.times
    l.peaks

-- the lists with those of hold h for input i; its slot then has the hold itself
abbrev pub with_held : (i : ℕ) (h : Held) (l : Lists) → Lists
with_held i h l = lists l.starts l.totals l.counts l.sums (patched (i * 600) 600 h.times l.times) (patched (i * 600) 600 h.lags l.peaks)
