-- The record and the lists between the steps of one input's tick. Assumes nothing.
use Prim.Native.Nat.{ℕ}
use mathlib.Core.List.{List}
use Rattle.rules_record.specs.declared.Inputs.{Inputs}
use Rattle.rules_record.specs.Lent.{Lists}
use Rattle.rules_tick.specs.Lags.{arrived}
use Rattle.rules_tick.specs.declared.Look.{Look}
use Rattle.rules_tick.specs.Tick.{heard, looked}

module _ (i : ℕ) (look : Look) (lags : List ℕ) (time : ℕ) (s : Inputs) (l : Lists) where
  -- its lags are pushed
  abbrev pub lagged_inputs : Inputs
  lagged_inputs = (arrived i time lags s l).inputs

  -- .. and a late event counted
  abbrev pub heard_inputs : Inputs
  heard_inputs = (heard i look lags time s l).inputs

  abbrev pub heard_lists : Lists
  heard_lists = (heard i look lags time s l).lists

  -- .. and the input opened or watched
  abbrev pub looked_inputs : Inputs
  looked_inputs = (looked i look time heard_inputs).inputs
