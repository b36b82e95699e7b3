-- Document 01's checks of `tick`, in their order. Assumes nothing.
use Rattle.std.specs.Prelude.{ℕ, Bool, List, leb, eqb, length}
use Rattle.base.specs.Choice.{both, ask}
use Rattle.base.specs.Limits.{timely}
use Rattle.base.specs.Lists.{all}
use Rattle.rules_window.specs.Checks.{room_for}
use Rattle.rules_record.specs.declared.Inputs.{Inputs}
use Rattle.rules_routing.specs.ReaderCheck.{reader_fits}
use Rattle.rules_record.specs.declared.Output.TheVariants.{Words}
use Rattle.rules_record.specs.Lent.{Lists, window_of}
use Rattle.rules_record.specs.Checks.{record_number}
use Rattle.rules_tick.specs.declared.Look.{Look}
use Rattle.rules_tick.specs.Looks.{look_at, lags_before}

-- 10: "Is each applied delay at most maximum, channels at most 64 .."
abbrev pub look_fits : (maximum : ℕ) (look : Look) → Bool
look_fits maximum look = both (leb look.applied maximum) (reader_fits look.world.reader)

unfoldable pub looks_fit : (s : Inputs) (looks : List Look) → Bool
looks_fit s looks = all (λ i. look_fits s.policy.delay_max (look_at looks i)) s.count

-- 10: ".. and do the lag counts add up to the lags?"
unfoldable pub lags_fit : (s : Inputs) (looks : List Look) (lags : List ℕ) → Bool
lags_fit s looks lags = eqb (lags_before looks s.count) (length lags)

-- 11: "For each input: does the newest total (0 if its tick opens a second) plus its lags stay within 4,294,967,295?"
unfoldable pub rooms_fit : (s : Inputs) (l : Lists) (looks : List Look) (time : ℕ) → Bool
rooms_fit s l looks time = all (λ i. room_for time (look_at looks i).lags (window_of s l i)) s.count

-- 1 to 6, 8, 10, 11
unfoldable pub tick_number : (s : Inputs) (l : Lists) (words : ℕ) (looks : List Look) (lags : List ℕ) (time : ℕ) → ℕ
tick_number s l words looks lags time =
    record_number s l (Words words)
    (ask 8 (timely time)
    (ask 10 (looks_fit s looks)
    (ask 10 (lags_fit s looks lags)
    (ask 11 (rooms_fit s l looks time) 0))))
