-- A `LagWindow` with the lists lent for it, and what a call leaves of them. Assumes nothing.
use Rattle.std.specs.Prelude.{ℕ, List, Result}
use Rattle.rules_window.specs.Window.{Window, windowed}
use Rattle.rules_window.specs.Checks.{Reply}
use Rattle.rules_window.specs.declared.WindowLists.{WindowLists}
use Rattle.rules_window.specs.declared.WindowView.{WindowView}
use Rattle.lag_window.specs.declared.LagWindow.{LagWindow}
use Rattle.refusals.specs.declared.Refusal.{Refusal}
use Rattle.refusals.specs.Numbers.{number_in, value_in}

abbrev pub lent : (w : LagWindow) (starts totals counts : List ℕ) → Window
lent w starts totals counts = windowed w.seconds w.buckets w.width starts totals counts

-- the same with the lists as one, lent and to be read
abbrev pub window_lent : (w : LagWindow) → WindowLists → Window
window_lent w l = lent w l.starts.now l.totals.now l.counts.now

abbrev pub window_seen : (w : LagWindow) → WindowView → Window
window_seen w l = lent w l.starts.now l.totals.now l.counts.now

-- the zero window, which a refused `new` leaves
abbrev pub no_window : LagWindow
no_window = record { seconds = 0; buckets = 0; width = 0 }

-- of each case of what a call gives, with the lists as they are after it; refused, the window as it came
abbrev pub left_window : (came : LagWindow) → Result LagWindow Refusal → WindowLists → Reply
left_window came result l = record { number = number_in result; window = window_lent (value_in came result) l; sums = l.sums.now }
