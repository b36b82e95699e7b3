-- The flow table: where a flow stands, how one is added, and the delay that it had last. Assumes nothing.
use Rattle.std.specs.Prelude.{ℕ, ◌+◌, min, Bool, true, not, List, ◌==◌, nat_lt, slice_index_or, slice_set, None, Option, Some}
use Rattle.base.specs.Choice.{pick, both}
use Rattle.base.specs.Lists.{all}
use Rattle.byte_order.specs.Bytes.{bytes_at}
use Rattle.rules_record.specs.declared.Flow.{Flow}
use Rattle.rules_record.specs.declared.FlowEntry.{FlowEntry}
use Rattle.rules_record.specs.declared.Slot.{Slot}
use Rattle.rules_record.specs.declared.Inputs.{Inputs}
use Rattle.base.specs.First.{first}
use Rattle.rules_record.specs.Slots.{is_auto}
use Rattle.rules_record.specs.Inputs.{with_flows}
use Rattle.rules_record.specs.declared.Route.{Route}

-- "A flow is 16 bytes": eight in each half
unfoldable pub same_flow : (a b : Flow) → Bool
same_flow a b = both (a.high == b.high) (a.low == b.low)

-- the flow whose 16 bytes stand from a place on
abbrev pub flow_from : (bytes : List ℕ) (place : ℕ) → Flow
flow_from bytes place = record { high = bytes_at bytes place 8; low = bytes_at bytes (place + 8) 8 }

-- an unused place
unfoldable pub empty_entry : FlowEntry
empty_entry = record { flow = record { high = 0; low = 0 }; remembered = None }

-- the entry at a place of the table; there are 64
abbrev pub entry_in : (table : List FlowEntry) (place : ℕ) → FlowEntry
entry_in table place = pick (nat_lt place 64) (slice_index_or table place empty_entry) empty_entry

unfoldable pub entry_at : (s : Inputs) (place : ℕ) → FlowEntry
entry_at s place = entry_in s.flows place

unfoldable pub flow_at : (s : Inputs) (place : ℕ) → Flow
flow_at s place = (entry_at s place).flow

abbrev pub holds_flow : (s : Inputs) (flow : Flow) (place : ℕ) → Bool
holds_flow s flow place = same_flow (flow_at s place) flow

-- "a table: 64 flows"
unfoldable pub known : Inputs → ℕ
known s = min s.flow_count 64

-- the first of n places that holds the flow, or n
unfoldable pub place_below : (n : ℕ) (s : Inputs) (flow : Flow) → ℕ
place_below n s flow = first (holds_flow s flow) n

-- the flow's place, or the number of places in use
unfoldable pub flow_place : (s : Inputs) (flow : Flow) → ℕ
flow_place s flow = place_below (known s) s flow

-- "keys distinct": no flow stands at an earlier place too
abbrev pub new_at : (s : Inputs) (place : ℕ) → Bool
new_at s place = place_below place s (flow_at s place) == place

unfoldable pub distinct_flows : Inputs → Bool
distinct_flows s = all (new_at s) (known s)

-- 9: "Is the flow known, or the flow table short of 64?"
unfoldable pub admits : (s : Inputs) (flow : Flow) → Bool
admits s flow = pick (nat_lt (flow_place s flow) s.flow_count) true (nat_lt s.flow_count 64)

-- the flow takes this place, with nothing remembered
abbrev pub added : (place : ℕ) (s : Inputs) (flow : Flow) → Inputs
added place s flow = with_flows s (slice_set s.flows place (record { flow = flow; remembered = None })) (place + 1) s.unsaved

-- "Routes and loaded delays enrol flows; none leaves": a new one takes the next place, where there is room
unfoldable pub enrolled_at : (place : ℕ) (s : Inputs) (flow : Flow) → Inputs
enrolled_at place s flow = pick (nat_lt place s.flow_count) s (pick (nat_lt place 64) (added place s flow) s)

unfoldable pub enrolled : (s : Inputs) (flow : Flow) → Inputs
enrolled s flow = enrolled_at (flow_place s flow) s flow

-- the delay remembered for the flow at a place
unfoldable pub recalled : (s : Inputs) (place : ℕ) → Option ℕ
recalled s place = (entry_at s place).remembered

-- the delay is stored, with the unsaved mark as it is
unfoldable pub kept : (s : Inputs) (place delay : ℕ) → Inputs
kept s place delay =
    pick (nat_lt place 64)
    (with_flows s (slice_set s.flows place (record { flow = flow_at s place; remembered = Some delay })) s.flow_count s.unsaved)
    s

abbrev pub differs : Option ℕ → (delay : ℕ) → Bool
differs None delay = true
differs (Some before) delay = not (before == delay)

abbrev pub marked : Inputs → Inputs
marked s = with_flows s s.flows s.flow_count true

-- "remembers the delay for the flow .. (marking the table unsaved if it differs)"
unfoldable pub remembered : (s : Inputs) (place delay : ℕ) → Inputs
remembered s place delay = pick (differs (recalled s place) delay) (marked (kept s place delay)) (kept s place delay)

-- ".. if routed and automatic"
unfoldable pub remembered_by : Option Route → (automatic : Bool) (s : Inputs) (delay : ℕ) → Inputs
remembered_by None automatic s delay = s
remembered_by (Some route) automatic s delay = pick automatic (remembered s route.flow delay) s

unfoldable pub remembered_for : (s : Inputs) (slot : Slot) (delay : ℕ) → Inputs
remembered_for s slot delay = remembered_by slot.route (is_auto slot.config.extra_delay) s delay
