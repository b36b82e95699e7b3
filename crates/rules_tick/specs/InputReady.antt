-- What the inner functions ask of their caller, who has made the checks. Assumes nothing.
use Rattle.std.specs.Prelude.{ℕ, ◌+◌, ◌*◌, ◌<◌, ◌≤◌, true, ◌≡◌, List, [], length}
use Rattle.base.specs.Limits.{time_limit, counter_limit}
use Rattle.policy.specs.declared.DelayPolicy.{DelayPolicy}
use Rattle.policy.specs.Settings as settings
use Rattle.rules_window.specs.WholeWindow.{whole_window}
use Rattle.rules_window.specs.Parts.{PartsIn}
use Rattle.rules_window.specs.ColumnSums.{right_sums}
use Rattle.rules_window.specs.Checks.{room_for}
use Rattle.delay_hold.specs.Whole.{whole_hold}
use Rattle.rules_record.specs.declared.Slot.{Slot}
use Rattle.rules_record.specs.declared.Inputs.{Inputs}
use Rattle.rules_record.specs.Inputs.{slot_at}
use Rattle.rules_record.specs.Lent.{Lists, lists, buckets_in, windows_of, window_for, window_of, sums_of, held_of}
use Rattle.rules_record.specs.WholePlaces.{proposal_fits}
use Rattle.rules_record.specs.Checks.{Fitting}
use Rattle.rules_record.specs.Facts.{OwnSums}

-- the window of input i, where this is its slot, as 1 to 6 let it through: its part of each list is there, it is whole, and its row of sums is its own
pub record WindowReady (s : Inputs) (l : Lists) (i : ℕ) (slot : Slot) : Type 0 where
  pub sound : settings.Sound s.policy
  pub held : PartsIn i (windows_of s l slot)
  pub sums_in : i * buckets_in s + buckets_in s ≤ length l.sums
  pub whole : whole_window (window_for s l i slot) ≡ true
  pub sums : OwnSums s l i slot

-- what `arrive` asks: the input's window, 8, and 11 for so many lags
pub record ArriveAsked (s : Inputs) (l : Lists) (i time lags : ℕ) : Type 0 where
  pub window : WindowReady s l i (slot_at s i)
  pub timely : time ≤ time_limit
  pub room : room_for time lags (window_of s l i) ≡ true

-- what `p999` asks of the lists that it reads: that with some totals and counts the window is ready, so that the sums are those of the counts
pub record P999Asked (s : Inputs) (slot : Slot) (i : ℕ) (starts sums : List ℕ) : Type 0 where
  pub totals : List ℕ
  pub counts : List ℕ
  pub window : WindowReady s (lists starts totals counts sums [] []) i slot

-- what `late_event` asks: 2 and 4, 10 of the applied delay, and 6 of one counter
pub record LateAsked (policy : DelayPolicy) (slot : Slot) (applied : ℕ) : Type 0 where
  pub sound : settings.Sound policy
  pub applied_in : applied ≤ policy.delay_max
  pub events : slot.late_events < counter_limit

-- input i as 1 to 6 let it through, but for its route, its counters, the times of its head and its last SetDelay, and the tables: the steps of a tick keep this even where they raise a counter to 2^63
pub record Ready (s : Inputs) (l : Lists) (i : ℕ) : Type 0 where
  pub fitting : Fitting s l
  pub input : i < s.count
  pub window : whole_window (window_of s l i) ≡ true
  pub sums : right_sums (window_of s l i) (sums_of s l i) ≡ true
  pub hold : whole_hold s.policy s.width (held_of s l i) ≡ true
  pub delay : (slot_at s i).delay ≤ s.policy.delay_max
  pub proposed : proposal_fits (slot_at s i).proposed s.policy.delay_max ≡ true

-- what `auto_delay` asks of the lists that it reads: that with some totals and counts the input is ready; and 6 of one counter
pub record AutoAsked (s : Inputs) (i : ℕ) (starts sums times lags : List ℕ) : Type 0 where
  pub totals : List ℕ
  pub counts : List ℕ
  pub ready : Ready s (lists starts totals counts sums times lags) i
  pub changes : (slot_at s i).delay_changes < counter_limit
