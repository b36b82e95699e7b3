-- What `tick` leaves, and the unsaved mark that it reports, each by itself. Assumes nothing.
use Rattle.std.specs.Prelude.{ℕ, Bool, false, List, length}
use Rattle.base.specs.Choice.{accepted}
use Rattle.rules_record.specs.declared.Inputs.{Inputs}
use Rattle.rules_record.specs.Lent.{Lists}
use Rattle.rules_record.specs.Reply.{Reply, replied}
use Rattle.rules_tick.specs.declared.Look.{Look}
use Rattle.rules_tick.specs.TickChecks.{tick_number}
use Rattle.rules_tick.specs.Tick.{ticked, unsaved_at}

unfoldable pub tick_reply : (s : Inputs) (l : Lists) (commands : List ℕ) (looks : List Look) (lags : List ℕ) (time : ℕ) → Reply
tick_reply s l commands looks lags time = replied (tick_number s l (length commands) looks lags time) s l commands (ticked looks lags time s l)

-- "the unsaved mark is reported"; a refused tick reports none
unfoldable pub tick_unsaved : (s : Inputs) (l : Lists) (words : ℕ) (looks : List Look) (lags : List ℕ) (time : ℕ) → Bool
tick_unsaved s l words looks lags time = accepted (tick_number s l words looks lags time) false (unsaved_at looks lags time s l)
