-- Document 01, "Supervision": the states of an input and their numbers. Assumes nothing.
use Rattle.std.specs.Prelude.{ℕ, Bool, ◌==◌, nat_le, nat_lt}
use Rattle.rules_record.specs.declared.State.{State}
use Rattle.rules_record.specs.declared.State.TheVariants.{Unrouted, Waiting, Running, Stalled}

-- "States: 0 Unrouted, 1 Waiting, 2 Running, 3 Stalled."
abbrev pub state_number : State → ℕ
state_number Unrouted = 0
state_number Waiting = 1
state_number Running = 2
state_number Stalled = 3

abbrev pub is_unrouted : State → Bool
is_unrouted state = state_number state == 0

abbrev pub is_waiting : State → Bool
is_waiting state = state_number state == 1

abbrev pub is_running : State → Bool
is_running state = state_number state == 2

abbrev pub is_stalled : State → Bool
is_stalled state = state_number state == 3

-- Waiting, Running or Stalled
abbrev pub is_routed : State → Bool
is_routed state = nat_le 1 (state_number state)

-- Running or Stalled, and neither
abbrev pub is_open : State → Bool
is_open state = nat_le 2 (state_number state)

abbrev pub is_shut : State → Bool
is_shut state = nat_lt (state_number state) 2
