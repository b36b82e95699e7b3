-- What checks 1 to 6 say of a record and its lists, as facts. Assumes nothing.
use Rattle.std.specs.Prelude.{◌≡◌, ℕ, ◌<◌, ◌≤◌, true}
use Rattle.base.specs.Limits.{time_limit, counter_limit}
use Rattle.rules_window.specs.WholeWindow.{whole_window}
use Rattle.rules_window.specs.ColumnSums.{column_sums, right_sums}
use Rattle.delay_hold.specs.Whole.{moment_timely, whole_hold}
use Rattle.rules_record.specs.declared.Slot.{Slot}
use Rattle.rules_record.specs.declared.Inputs.{Inputs}
use Rattle.rules_record.specs.Slots.{empty_slot}
use Rattle.rules_record.specs.Inputs.{slot_at}
use Rattle.rules_record.specs.Sized.{Sized}
use Rattle.rules_record.specs.Flows.{empty_entry, entry_at, distinct_flows}
use Rattle.rules_record.specs.Instances.{no_key, key_at, distinct_keys}
use Rattle.rules_record.specs.Lent.{Lists, window_for, window_of, sums_of, held_of}
use Rattle.rules_record.specs.WholePlaces.{proposal_fits, route_fits}
use Rattle.rules_record.specs.Checks.{Fitting}

pub record WholeSlot (maximum n : ℕ) (slot : Slot) : Type 0 where
  pub delay : slot.delay ≤ maximum
  pub proposed : proposal_fits slot.proposed maximum ≡ true
  pub route : route_fits slot.route slot.state n ≡ true
  pub reopens : slot.reopens < counter_limit
  pub changes : slot.delay_changes < counter_limit
  pub lates : slot.late_events < counter_limit
  pub head : slot.head_changed ≤ time_limit
  pub set : moment_timely slot.last_set ≡ true
  pub opened : moment_timely slot.last_input ≡ true

pub record WholeInput (s : Inputs) (l : Lists) (i : ℕ) : Type 0 where
  pub window : whole_window (window_of s l i) ≡ true
  pub sums : right_sums (window_of s l i) (sums_of s l i) ≡ true
  pub hold : whole_hold s.policy s.width (held_of s l i) ≡ true
  pub slot : WholeSlot s.policy.delay_max s.flow_count (slot_at s i)

-- the row of sums of input i, where this is its slot, is that of its window: what right sums of exact length come to, and what the functions ask that read the sums in the place of the counts
abbrev pub OwnSums : (s : Inputs) (l : Lists) (i : ℕ) (slot : Slot) → Type 0
OwnSums s l i slot = sums_of s l i ≡ column_sums (window_for s l i slot)

pub record WholeFlows (s : Inputs) : Type 0 where
  pub most : s.flow_count ≤ 64
  pub distinct : distinct_flows s ≡ true
  pub unused : (place : ℕ) → s.flow_count ≤ place → entry_at s place ≡ empty_entry

pub record WholeInstances (s : Inputs) : Type 0 where
  pub most : s.instance_count ≤ 17
  pub distinct : distinct_keys s ≡ true
  pub known : (place : ℕ) → place < s.instance_count → (key_at s place).flow < s.flow_count
  pub unused : (place : ℕ) → s.instance_count ≤ place → key_at s place ≡ no_key

pub record Whole (s : Inputs) (l : Lists) : Type 0 where
  pub inputs : (i : ℕ) → i < s.count → WholeInput s l i
  pub unused : (i : ℕ) → s.count ≤ i → slot_at s i ≡ empty_slot
  pub flows : WholeFlows s
  pub instances : WholeInstances s

-- a record with its lists that checks 1 to 6 let through; that its tables have their places is no check's, but the program's
pub record Checked (s : Inputs) (l : Lists) : Type 0 where
  pub fitting : Fitting s l
  pub sized : Sized s
  pub whole : Whole s l
