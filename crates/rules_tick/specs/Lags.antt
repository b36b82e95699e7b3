-- Document 01, "Supervision", the start of an input's tick: "push lags and keep the last one", and the largest of them. Assumes nothing.
use Rattle.std.specs.Prelude.{ℕ, ◌-◌, List, length, get_or, Option}
use Rattle.rules_window.specs.Window.{Window, pushed_all}
use Rattle.delay_hold.specs.Step4Peaks.{worst_of}
use Rattle.rules_record.specs.declared.Slot.{Slot}
use Rattle.rules_record.specs.declared.Inputs.{Inputs}
use Rattle.rules_record.specs.Slots.{with_lag_seconds, with_last_lag}
use Rattle.rules_record.specs.Inputs.{slot_at, put_slot}
use Rattle.rules_record.specs.Lent.{Lists, buckets_in, window_of, with_window}
use Rattle.rules_record.specs.Effects.{Effect, silent}

-- "push lags": the window of input i with the lags of the tick pushed in a row
unfoldable pub window_after : (i time : ℕ) (lags : List ℕ) (s : Inputs) (l : Lists) → Window
window_after i time lags s l = pushed_all time lags (window_of s l i)

-- "and keep the last one": the one before where there are none
unfoldable pub last_lag_of : (lags : List ℕ) (before : ℕ) → ℕ
last_lag_of lags before = get_or lags (length lags - 1) before

-- the slot with these seconds in use and this last lag
abbrev pub arrived_slot : (slot : Slot) (seconds last : ℕ) → Slot
arrived_slot slot seconds last = with_last_lag (with_lag_seconds slot seconds) last

unfoldable pub arrived : (i time : ℕ) (lags : List ℕ) (s : Inputs) (l : Lists) → Effect
arrived i time lags s l =
    silent
    (put_slot s i (arrived_slot (slot_at s i) (window_after i time lags s l).seconds (last_lag_of lags (slot_at s i).last_lag)))
    (with_window (buckets_in s) i (window_after i time lags s l) l)

-- the largest lag of the tick, of all its lags: "one beyond it [the limit] hides the rest"
abbrev pub largest_of : List ℕ → Option ℕ
largest_of lags = worst_of lags
