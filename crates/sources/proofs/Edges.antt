-- Document 01's sentences about a schedule, each at its edge, computed on the definitions. Assumes nothing.
use Rattle.std.specs.Prelude.{None, Some}
use mathlib.Core.Bool.{true, false}
use mathlib.Core.Path.{◌≡◌, refl}
use mathlib.Core.List.{[], ◌∷◌}
use Rattle.base.specs.Choice.{both, ask}
use Rattle.base.specs.Limits.{call_number}
use Rattle.sources.specs.Queries.{fresh_schedule, whole_down, whole_schedule, schedule_number, is_up, next_wait, query_failed_of}

-- "waits 5 s at first, then twice the wait before, at most 60 s"
pub waits_from_5_s_to_60_s :
    next_wait None
    ∷ next_wait (Some (record { until = 0; wait = 5_000_000_000 }))
    ∷ next_wait (Some (record { until = 0; wait = 10_000_000_000 }))
    ∷ next_wait (Some (record { until = 0; wait = 30_000_000_000 }))
    ∷ next_wait (Some (record { until = 0; wait = 30_000_000_001 }))
    ∷ next_wait (Some (record { until = 0; wait = 60_000_000_000 }))
    ∷ []
    ≡ 5_000_000_000 ∷ 10_000_000_000 ∷ 20_000_000_000 ∷ 60_000_000_000 ∷ 60_000_000_000 ∷ 60_000_000_000 ∷ []
unfolding next_wait
waits_from_5_s_to_60_s = refl

-- "yes if never down, or now is at or past the end of the wait"
pub up_from_the_end_on : is_up None 0 ∷ is_up (Some (record { until = 7; wait = 5 })) 6 ∷ is_up (Some (record { until = 7; wait = 5 })) 7 ∷ [] ≡ true ∷ false ∷ true ∷ []
unfolding is_up
up_from_the_end_on = refl

-- the wait ends its length after now: a service that fails at 7 ns is down until 5 s and 7 ns
pub down_for_the_wait :
    query_failed_of fresh_schedule 7
    ≡ record { number = 0; value = 5_000_000_000; schedule = record { query_down = Some (record { until = 5_000_000_007; wait = 5_000_000_000 }) } }
unfolding both ask call_number whole_down whole_schedule schedule_number next_wait query_failed_of
down_for_the_wait = refl

-- 6: "their times within 8 plus 600 s, the wait at most 60 s"
pub whole_up_to_the_limits :
    whole_down (Some (record { until = 4_000_000_600_000_000_000; wait = 60_000_000_000 }))
    ∷ whole_down (Some (record { until = 4_000_000_600_000_000_001; wait = 60_000_000_000 }))
    ∷ whole_down (Some (record { until = 4_000_000_600_000_000_000; wait = 60_000_000_001 }))
    ∷ []
    ≡ true ∷ false ∷ false ∷ []
unfolding both whole_down
whole_up_to_the_limits = refl
