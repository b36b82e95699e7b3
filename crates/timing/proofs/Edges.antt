-- Document 01's sentences about the block clock, each at its edge, computed on the definitions. Assumes nothing.
use mathlib.Core.Path.{◌≡◌, refl}
use mathlib.Core.List.{[], ◌∷◌}
use Rattle.base.specs.Choice.{ask}
use Rattle.timing.specs.Clock.{index_at, time_of, index_number, time_number, index_answer, time_answer}

-- "`index_at` (rounds down)": a sample takes 20,833 1/3 ns
pub index_rounds_down : index_at 48000 20833 ∷ index_at 48000 20834 ∷ index_at 48000 41666 ∷ index_at 48000 41667 ∷ [] ≡ 0 ∷ 1 ∷ 1 ∷ 2 ∷ []
unfolding index_at
index_rounds_down = refl

-- "`time_of` (rounds up)"
pub time_rounds_up : time_of 48000 0 ∷ time_of 48000 1 ∷ time_of 48000 2 ∷ time_of 48000 3 ∷ [] ≡ 0 ∷ 20834 ∷ 41667 ∷ 62500 ∷ []
unfolding time_of
time_rounds_up = refl

-- 8: "Is the time at most 4 times 10^18": a refusal has a zero value
pub index_refused_with_zero :
    index_answer 48000 4_000_000_000_000_000_000 ∷ index_answer 48000 4_000_000_000_000_000_001 ∷ []
    ≡ record { number = 0; value = 192_000_000_000_000 } ∷ record { number = 8; value = 0 } ∷ []
unfolding ask index_at index_number index_answer
index_refused_with_zero = refl

-- 8: "(for `time_of`, does the answer fit a u64)": the last index that has a time, and the next
pub time_refused_with_zero :
    time_answer 48000 885_443_715_538_058 ∷ time_answer 48000 885_443_715_538_059 ∷ []
    ≡ record { number = 0; value = 18_446_744_073_709_541_667 } ∷ record { number = 8; value = 0 } ∷ []
unfolding ask time_of time_number time_answer
time_refused_with_zero = refl
