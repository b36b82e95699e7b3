-- Document 01, "Supervision": "window and hold are cleared". Assumes nothing.
use Rattle.std.specs.Prelude.{ℕ}
use Rattle.rules_window.specs.Window.{fresh}
use Rattle.delay_hold.specs.Next.{fresh_hold, cleared_hold}
use Rattle.rules_record.specs.declared.Slot.{Slot}
use Rattle.rules_record.specs.declared.Inputs.{Inputs}
use Rattle.rules_record.specs.Slots.{with_lag_seconds, with_hold}
use Rattle.rules_record.specs.Inputs.{put_slot}
use Rattle.rules_record.specs.Lent.{Lists, buckets_in, held_of, with_window, with_held}
use Rattle.rules_record.specs.Effects.{Effect, silent}

-- "window and hold are cleared": no seconds and a fresh hold in the slot, and every place of the input's lists zero,
-- the sums of a fresh window among them
abbrev pub cleared_slot : Slot → Slot
cleared_slot slot = with_hold (with_lag_seconds slot 0) fresh_hold

abbrev pub cleared_lists : (i : ℕ) (s : Inputs) (l : Lists) → Lists
cleared_lists i s l = with_held i (cleared_hold (held_of s l i)) (with_window (buckets_in s) i (fresh (buckets_in s) s.width) l)

unfoldable pub cleared : (i : ℕ) (slot : Slot) (s : Inputs) (l : Lists) → Effect
cleared i slot s l = silent (put_slot s i (cleared_slot slot)) (cleared_lists i s l)
