-- The `LagWindow` of an input, made at use from its slot and the settings, and the lists of all inputs with it. Assumes nothing.
use Rattle.std.specs.Prelude.{ℕ}
use Rattle.policy.specs.declared.DelayPolicy.{DelayPolicy}
use Rattle.rules_window.specs.Window.{Window}
use Rattle.lag_window.specs.declared.LagWindow.{LagWindow}
use Rattle.lag_window.specs.Lent.{lent}
use Rattle.rules_record.specs.declared.Slot.{Slot}
use Rattle.rules_record.specs.Lent.{Lists, buckets_for}

-- the window of an input with this slot
abbrev pub window_in : (policy : DelayPolicy) (width : ℕ) (slot : Slot) → LagWindow
window_in policy width slot = record { seconds = slot.lag_seconds; buckets = buckets_for policy width; width = width }

-- the lists of all inputs as one window, with the seconds, the buckets and the width that this one says
abbrev pub all_windows : (w : LagWindow) (l : Lists) → Window
all_windows w l = lent w l.starts l.totals l.counts
