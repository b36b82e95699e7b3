-- What the callees of the steps ask, from what the steps ask of their caller. Assumes nothing.
use Rattle.std.specs.Prelude.{◌≡◌, ℕ, ◌+◌, ◌*◌, ◌≤◌, true, List, [], length}
use mathlib.Core.Path.{sym, ap, subst, ◌∙◌}
use lib.Ieee.{Float}
use Rattle.base.specs.Limits.{time_limit, width_limit, buckets_limit}
use Rattle.base.specs.Lists.{part}
use Rattle.lag_window.specs.declared.LagWindow.{LagWindow}
use Rattle.rules_window.specs.WholeWindow.{whole_window, Sound}
use Rattle.rules_window.specs.Parts as parts
use Rattle.rules_window.specs.Checks.{room_for}
use Rattle.rules_window.specs.Window.{Window}
use Rattle.rules_window.specs.ColumnSums.{column_sums, as_one_second}
use Rattle.rules_window.specs.Quantile.{Placeable, thousandths}
use Rattle.rules_window.proofs.WholeAt.{whole_of}
use Rattle.rules_window.proofs.OneSecond.{row_placeable}
use Rattle.rules_window.proofs.Numbers.{sound_placeable}
use Rattle.rules_window.proofs.Thousandths.{thousandths_in}
use Rattle.rules_record.specs.declared.Slot.{Slot}
use Rattle.rules_record.specs.declared.Inputs.{Inputs}
use Rattle.rules_record.specs.Inputs.{slot_at}
use Rattle.rules_record.specs.Lent.{Lists, lists, buckets_in, window_for}
use Rattle.inputs_window.specs.Windows.{window_in, all_windows}
use Rattle.rules_tick.proofs.Ready.{ready_sound}
use Rattle.rules_tick.specs.InputReady.{ArriveAsked, P999Asked}
use native.Mathlib.Omega.{arith}

module _ (s : Inputs) (l : Lists) (i time : ℕ) (lags : List ℕ) (asked : ArriveAsked s l i time (length lags)) {slot : Slot} {before : LagWindow} (is-slot : slot ≡ slot_at s i) (is-before : before ≡ window_in s.policy s.width slot) where
  -- what `push_all` asks
  abbrev Pushable : LagWindow → Type 0
  Pushable w =
      parts.PartsIn i (all_windows w l)
      × ((i * w.buckets + w.buckets ≤ length l.sums)
      × ((whole_window (parts.part_of i (all_windows w l)) ≡ true)
      × ((part (i * w.buckets) w.buckets l.sums ≡ column_sums (parts.part_of i (all_windows w l)))
      × ((time ≤ time_limit) × (room_for time (length lags) (parts.part_of i (all_windows w l)) ≡ true)))))

  pub push_asks : Pushable before
  unfolding buckets_in
  push_asks =
      subst Pushable (sym (is-before ∙ ap (window_in s.policy s.width) is-slot))
      (asked.window.held, (asked.window.sums_in, (asked.window.whole, (asked.window.sums, (asked.timely, asked.room)))))

module _ (s : Inputs) (slot : Slot) (i : ℕ) (starts sums : List ℕ) (asked : P999Asked s slot i starts sums) {w : LagWindow} (is : w ≡ window_in s.policy s.width slot) where
  abbrev own : Window
  own = window_for s (lists starts asked.totals asked.counts sums [] []) i slot

  sound : Sound own
  sound = ready_sound s (lists starts asked.totals asked.counts sums [] []) i slot asked.window

  pub span_asks : (w.seconds ≤ 11) × (i * 11 + 11 ≤ length starts)
  unfolding buckets_in
  span_asks = subst (λ (x : LagWindow). (x.seconds ≤ 11) × (i * 11 + 11 ≤ length starts)) (sym is) ((whole_of _ sound).few, asked.window.held.starts_in)

  -- what `quantile_upto` asks
  abbrev Readable : Float → ℕ → LagWindow → Type 0
  Readable q limit x =
      ((x.buckets ≤ buckets_limit) × (1 ≤ x.width) × (x.width ≤ width_limit))
      × ((i * x.buckets + x.buckets ≤ length sums) × Placeable q limit (as_one_second x.buckets x.width (part (i * x.buckets) x.buckets sums)))

  pub quantile_asks : {q : Float} → q ≡ thousandths 999 → (limit : ℕ) → Readable q limit w
  unfolding buckets_in
  quantile_asks {q} is-q limit =
      subst (Readable q limit) (sym is) (
        (asked.window.held.buckets_high, asked.window.held.width_low, asked.window.held.width_high),
        (
          asked.window.sums_in,
          row_placeable own limit q asked.window.sums
              (subst (λ (x : Float). Placeable x limit own) (sym is-q) (sound_placeable (thousandths 999) limit _ sound (thousandths_in 999 (omega arith)))),
        ),
      )
