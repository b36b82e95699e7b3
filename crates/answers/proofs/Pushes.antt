-- Lags pushed by one call after the other leave what the definition of the pushes says, while all is in range. Assumes nothing.
use Prim.Native.Nat.{ℕ, ◌+◌, ◌≤◌, ◌<◌}
use mathlib.Core.Path.{◌≡◌, refl, ap, ◌∙◌}
use mathlib.Core.List.{List, [], ◌∷◌}
use native.Mathlib.Omega.{arith}
use lib.ListN.{length}
use Rattle.base.specs.Limits.{time_limit}
use Rattle.rules_window.specs.Window.{Window, pushed, pushed_all}
use Rattle.rules_window.specs.WholeWindow.{Sound}
use Rattle.rules_window.specs.ColumnSums.{column_sums}
use Rattle.rules_window.specs.Checks.{Reply, newest}
use Rattle.rules_window.proofs.Ticks.{newest_pushed, push_keeps_sound, push_accepted}
use Rattle.answers.specs.Fifteen.{after}

-- what a call leaves that was accepted: the window with its sums
abbrev pub left_of : (w : Window) → Reply
left_of w = record { number = 0; window = w; sums = column_sums w }

pub after_pushed : (lags : List ℕ) (w : Window) → Sound w → newest 5 w + length lags ≤ 4294967295 → after lags (left_of w) ≡ left_of (pushed_all 5 lags w)
unfolding after pushed_all
after_pushed [] w s room = refl
after_pushed (lag ∷ lags) w s room =
    let some : newest 5 w < 4294967295 = omega arith in
    let soon : 5 ≤ time_limit = omega arith in
    ap (after lags) (push_accepted lag 5 w s soon some)
    ∙ after_pushed lags (pushed lag 5 w) (push_keeps_sound lag 5 w s soon some) (omega (arith, newest_pushed lag 5 w s soon))
