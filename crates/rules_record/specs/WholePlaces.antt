-- Document 01, check 6 of what stands in the record itself: an input's slot, a place that is not in use, the two tables. Assumes nothing.
use Rattle.std.specs.Prelude.{ℕ, Bool, true, false, not, ◌==◌, nat_le, nat_lt, None, Option, Some}
use Rattle.base.specs.Choice.{pick, both}
use Rattle.base.specs.Limits.{timely, counter_limit}
use Rattle.base.specs.Lists.{all}
use Rattle.delay_hold.specs.declared.Seed.{Seed}
use Rattle.delay_hold.specs.declared.LowerTimer.{LowerTimer}
use Rattle.delay_hold.specs.declared.DelayHold.{DelayHold}
use Rattle.delay_hold.specs.Whole.{moment_timely}
use Rattle.rules_record.specs.declared.State.{State}
use Rattle.rules_record.specs.declared.Slot.{Slot}
use Rattle.rules_record.specs.declared.FlowEntry.{FlowEntry}
use Rattle.rules_record.specs.declared.Instance.{Instance}
use Rattle.rules_record.specs.declared.Inputs.{Inputs}
use Rattle.rules_record.specs.Slots.{is_auto}
use Rattle.rules_record.specs.States.{is_unrouted, is_routed}
use Rattle.rules_record.specs.Flows.{entry_at, distinct_flows}
use Rattle.rules_record.specs.Instances.{key_at, distinct_keys}
use Rattle.rules_record.specs.declared.Route.{Route}

-- ---- an input's slot
-- "delays, proposals .. at most maximum"
abbrev pub proposal_fits : Option ℕ → (maximum : ℕ) → Bool
proposal_fits None maximum = true
proposal_fits (Some delay) maximum = nat_le delay maximum

-- "routed flows known; Unrouted exactly if no route": of n flows known the route names one by its place
unfoldable pub route_fits : Option Route → (state : State) (n : ℕ) → Bool
route_fits None state n = is_unrouted state
route_fits (Some route) state n = both (nat_lt route.flow n) (is_routed state)

-- "counters below 2^63"
abbrev pub counter_fits : ℕ → Bool
counter_fits n = nat_lt n counter_limit

-- the slot of an input, with this maximum and n flows known: its delay and proposal, its route, its counters, and "times within 8"
-- (those of its hold and its window stand in their own checks); the last one by document 02, §4: "The check of a whole record (number 6) bounds it like the other times."
unfoldable pub whole_slot : (maximum n : ℕ) (slot : Slot) → Bool
whole_slot maximum n slot =
    both (nat_le slot.delay maximum)
    (both (proposal_fits slot.proposed maximum)
    (both (route_fits slot.route slot.state n)
    (both (counter_fits slot.reopens)
    (both (counter_fits slot.delay_changes)
    (both (counter_fits slot.late_events)
    (both (timely slot.head_changed)
    (both (moment_timely slot.last_set)
    (moment_timely slot.last_input))))))))

-- ---- "unused places zero"
abbrev pub never_yet : Option ℕ → Bool
never_yet None = true
never_yet (Some time) = false

abbrev pub no_seed : Option Seed → Bool
no_seed None = true
no_seed (Some seed) = false

abbrev pub no_timer : Option LowerTimer → Bool
no_timer None = true
no_timer (Some timer) = false

abbrev pub no_route : Option Route → Bool
no_route None = true
no_route (Some route) = false

abbrev pub no_inode : Option ℕ → Bool
no_inode None = true
no_inode (Some inode) = false

abbrev pub no_proposal : Option ℕ → Bool
no_proposal None = true
no_proposal (Some delay) = false

abbrev pub no_delay : Option ℕ → Bool
no_delay None = true
no_delay (Some delay) = false

-- the hold of a slot that is not in use
unfoldable pub unused_hold : DelayHold → Bool
unused_hold hold =
    both (hold.peaks == 0)
    (both (never_yet hold.last_change)
    (both (no_timer hold.lower)
    (both (never_yet hold.started)
    (both (hold.startup_late == 0)
    (both (not hold.late_before)
    (no_seed hold.seeded))))))

-- a slot in which nothing is stored: automatic, Unrouted, with an unused hold
unfoldable pub unused_parts : Slot → Bool
unused_parts slot =
    both (is_auto slot.config.extra_delay)
    (both (is_unrouted slot.state)
    (both (no_route slot.route)
    (both (no_inode slot.inode)
    (both (no_proposal slot.proposed)
    (both (unused_hold slot.hold)
    (both (not slot.late_before)
    (both (never_yet slot.last_set)
    (never_yet slot.last_input))))))))

-- .. and whose numbers are zero
unfoldable pub unused_numbers : Slot → Bool
unused_numbers slot =
    both (slot.last_head == 0)
    (both (slot.head_changed == 0)
    (both (slot.reopens == 0)
    (both (slot.lag_seconds == 0)
    (both (slot.last_lag == 0)
    (both (slot.delay == 0)
    (both (slot.delay_changes == 0)
    (slot.late_events == 0)))))))

-- a slot that is not in use
unfoldable pub unused_slot : Slot → Bool
unused_slot slot = both (unused_parts slot) (unused_numbers slot)

-- ---- the flow table
-- a place of the flow table that is not in use
unfoldable pub unused_entry : FlowEntry → Bool
unused_entry entry = both (entry.flow.high == 0) (both (entry.flow.low == 0) (no_delay entry.remembered))

abbrev pub entry_fits : (s : Inputs) (place : ℕ) → Bool
entry_fits s place = pick (nat_lt place s.flow_count) true (unused_entry (entry_at s place))

unfoldable pub entries_fit : Inputs → Bool
entries_fit s = all (entry_fits s) 64

-- "a table: 64 flows"; "(a remembered delay is any u32); keys distinct"; "unused places zero"
unfoldable pub whole_flows : Inputs → Bool
whole_flows s = both (nat_le s.flow_count 64) (both (distinct_flows s) (entries_fit s))

-- ---- the instance table
-- a place of the instance table that is not in use
unfoldable pub unused_key : Instance → Bool
unused_key key = both (key.flow == 0) (key.inode == 0)

-- an instance is of a known flow
abbrev pub key_fits : (s : Inputs) (place : ℕ) → Bool
key_fits s place = pick (nat_lt place s.instance_count) (nat_lt (key_at s place).flow s.flow_count) (unused_key (key_at s place))

unfoldable pub keys_fit : Inputs → Bool
keys_fit s = all (key_fits s) 18

-- "17 instances at most"; "keys distinct"; "unused places zero"
unfoldable pub whole_instances : Inputs → Bool
whole_instances s = both (nat_le s.instance_count 17) (both (distinct_keys s) (keys_fit s))
