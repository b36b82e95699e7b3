-- The lags of a tick, as the code takes them in. Assumes nothing.
use Rattle.std.specs.Prelude.{◌≡◌, ℕ, ◌*◌, List}
use mathlib.Core.Path.{ap, ◌∙◌}
use Rattle.base.specs.Lists.{patched}
use Rattle.lag_window.specs.declared.LagWindow.{LagWindow}
use Rattle.rules_window.specs.Window.{pushed_all}
use Rattle.rules_window.specs.ColumnSums.{column_sums}
use Rattle.rules_window.specs.Parts.{part_of, placed}
use Rattle.rules_record.specs.declared.Slot.{Slot}
use Rattle.rules_record.specs.declared.Inputs.{Inputs}
use Rattle.rules_record.specs.Slots.{with_lag_seconds, with_last_lag}
use Rattle.rules_record.specs.Inputs.{slot_at, put_slot}
use Rattle.rules_record.specs.Lent.{Lists, lists, buckets_in}
use Rattle.inputs_window.specs.Windows.{window_in, all_windows}
use Rattle.rules_record.specs.Effects.{silent}
use Rattle.rules_tick.specs.Lags.{window_after, last_lag_of, arrived}

-- ---- the steps of the code
-- m is what the window's push left of the lists
module _ (s : Inputs) (i time : ℕ) (lags : List ℕ) (l m : Lists) {slot : Slot} {before w : LagWindow} {last : ℕ}
    (is-slot : slot ≡ slot_at s i)
    (is-before : before ≡ window_in s.policy s.width slot)
    (is-window : all_windows w m ≡ placed i (pushed_all time lags (part_of i (all_windows before l))) (all_windows before l))
    (is-sums : m.sums ≡ patched (i * before.buckets) before.buckets (column_sums (pushed_all time lags (part_of i (all_windows before l)))) l.sums)
    (is-times : m.times ≡ l.times)
    (is-peaks : m.peaks ≡ l.peaks)
    (is_last : last ≡ last_lag_of lags slot.last_lag) where
  abbrev from : LagWindow
  from = window_in s.policy s.width (slot_at s i)

  from_is : before ≡ from
  from_is = is-before ∙ ap (window_in s.policy s.width) is-slot

  pushed_is : all_windows w m ≡ placed i (pushed_all time lags (part_of i (all_windows from l))) (all_windows from l)
  pushed_is = is-window ∙ ap (λ (x : LagWindow). placed i (pushed_all time lags (part_of i (all_windows x l))) (all_windows x l)) from_is

  sums_is : m.sums ≡ patched (i * from.buckets) from.buckets (column_sums (pushed_all time lags (part_of i (all_windows from l)))) l.sums
  sums_is = is-sums ∙ ap (λ (x : LagWindow). patched (i * x.buckets) x.buckets (column_sums (pushed_all time lags (part_of i (all_windows x l)))) l.sums) from_is

  pub arrived_by : silent (put_slot s i (with_last_lag (with_lag_seconds slot w.seconds) last)) m ≡ arrived i time lags s l
  unfolding arrived window_after buckets_in
  arrived_by =
      (λ t. silent (put_slot s i (with_last_lag (with_lag_seconds slot w.seconds) (is_last t))) m)
      ∙ (λ t. silent (put_slot s i (with_last_lag (with_lag_seconds (is-slot t) (pushed_is t).seconds) (last_lag_of lags (is-slot t).last_lag))) (lists (pushed_is t).starts (pushed_is t).totals (pushed_is t).counts (sums_is t) (is-times t) (is-peaks t)))
