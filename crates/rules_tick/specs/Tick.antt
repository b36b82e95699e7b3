-- Document 01, "Supervision": what `tick` does. Assumes nothing.
use Rattle.std.specs.Prelude.{ℕ, zero, suc, Bool, false, List, None}
use Rattle.base.specs.Choice.{pick}
use Rattle.rules_record.specs.declared.Inputs.{Inputs}
use Rattle.rules_record.specs.States.{is_waiting, is_open}
use Rattle.rules_record.specs.Inputs.{slot_at, with_flows}
use Rattle.rules_record.specs.Commands.{Done, quiet}
use Rattle.rules_record.specs.Prune.{pruned}
use Rattle.rules_routing.specs.TryOpen.{try_open_of}
use Rattle.rules_routing.specs.Watch.{watch_of}
use Rattle.rules_record.specs.Lent.{Lists}
use Rattle.rules_record.specs.Effects.{Effect, silent, beside, followed_by}
use Rattle.rules_tick.specs.Lags.{arrived, largest_of}
use Rattle.rules_tick.specs.LateEvents.{late_event}
use Rattle.rules_tick.specs.AutoDelay.{auto_delayed}
use Rattle.rules_tick.specs.declared.Look.{Look}
use Rattle.rules_tick.specs.Looks.{look_at, lags_of}

-- ---- one input
-- "push lags and keep the last one; a late event when Running before `watch` .."
unfoldable pub heard : (i : ℕ) (look : Look) (lags : List ℕ) (time : ℕ) (s : Inputs) (l : Lists) → Effect
heard i look lags time s l = followed_by (arrived i time lags s l) (λ z m. silent (late_event i look.applied (largest_of lags) z) m)

-- "then Waiting opens, Running or Stalled watches"
unfoldable pub looked : (i : ℕ) (look : Look) (time : ℕ) (s : Inputs) → Done
looked i look time s =
    pick (is_waiting (slot_at s i).state)
    (try_open_of s i time look.world)
    (pick (is_open (slot_at s i).state) (watch_of s i time look.seen look.world) (quiet s))

-- "then `auto_delay`"
unfoldable pub ticked_input : (i : ℕ) (look : Look) (lags : List ℕ) (time : ℕ) (s : Inputs) (l : Lists) → Effect
ticked_input i look lags time s l =
    followed_by
    (followed_by (heard i look lags time s l) (λ z m. beside m (looked i look time z)))
    (auto_delayed i (largest_of lags) time)

-- ---- all inputs
-- "inputs in order": the first n
unfoldable pub ticked_below : (n : ℕ) (looks : List Look) (lags : List ℕ) (time : ℕ) (s : Inputs) (l : Lists) → Effect
ticked_below zero looks lags time s l = silent s l
ticked_below (suc n) looks lags time s l = followed_by (ticked_below n looks lags time s l) (ticked_input n (look_at looks n) (lags_of looks lags n) time)

unfoldable pub ticked_all : (looks : List Look) (lags : List ℕ) (time : ℕ) (s : Inputs) (l : Lists) → Effect
ticked_all looks lags time s l = ticked_below s.count looks lags time s l

-- "the unsaved mark is .. cleared"
abbrev pub saved : Inputs → Inputs
saved s = with_flows s s.flows s.flow_count false

-- "Last, prune; the unsaved mark is reported and cleared."
abbrev pub lastly : Inputs → Inputs
lastly s = saved (pruned s None)

unfoldable pub ticked : (looks : List Look) (lags : List ℕ) (time : ℕ) (s : Inputs) (l : Lists) → Effect
ticked looks lags time s l =
    record {
      inputs = lastly (ticked_all looks lags time s l).inputs;
      lists = (ticked_all looks lags time s l).lists;
      words = (ticked_all looks lags time s l).words;
    }

-- the unsaved mark that the tick reports
unfoldable pub unsaved_at : (looks : List Look) (lags : List ℕ) (time : ℕ) (s : Inputs) (l : Lists) → Bool
unsaved_at looks lags time s l = (ticked_all looks lags time s l).inputs.unsaved
