-- What `tick` leaves together with the unsaved mark that it reports: the definition that its contract cites. Assumes nothing.
use Rattle.std.specs.Prelude.{ℕ, List, length}
use Rattle.rules_record.specs.declared.Inputs.{Inputs}
use Rattle.rules_record.specs.Lent.{Lists}
use Rattle.rules_tick.specs.declared.Look.{Look}
use Rattle.rules_tick.specs.TickReply.{tick_reply, tick_unsaved}
use Rattle.rules_tick.specs.TickAnswer.{TickReply}

unfoldable pub tick_leaves : (s : Inputs) (l : Lists) (commands : List ℕ) (looks : List Look) (lags : List ℕ) (time : ℕ) → TickReply
tick_leaves s l commands looks lags time =
    record { reply = tick_reply s l commands looks lags time; unsaved = tick_unsaved s l (length commands) looks lags time }
