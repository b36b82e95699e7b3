-- The timer of step 8 that has met a need: it runs on with the higher of the needs, or starts. Assumes nothing.
use Rattle.std.specs.Prelude.{None, Option, Some}
use Prim.Native.Nat.{ℕ, ◌≤◌}
use mathlib.Core.Path.{◌≡◌, ap}
use native.Mathlib.Omega.{arith}
use Rattle.delay_hold.specs.declared.LowerTimer.{LowerTimer}
use Rattle.delay_hold.specs.Steps5To8.{highest_kept, timer_met}

-- the highest need of a timer that is on is at most n
abbrev pub HighestWithin : (n : ℕ) → Option LowerTimer → Type 0
HighestWithin n None = Unit {0}
HighestWithin n (Some timer) = timer.highest ≤ n

pub runs_on : {timer : Option LowerTimer} {running : LowerTimer} (need time : ℕ) → timer ≡ Some running → timer_met timer need time ≡ highest_kept running need
runs_on need time on = ap (λ (x : Option LowerTimer). timer_met x need time) on

pub starts : {timer : Option LowerTimer} (need time : ℕ) → timer ≡ None → timer_met timer need time ≡ record { since = time; highest = need }
starts need time off = ap (λ (x : Option LowerTimer). timer_met x need time) off

-- it stays at most n where the need is
pub met_most : (timer : Option LowerTimer) (need time n : ℕ) → need ≤ n → HighestWithin n timer → (timer_met timer need time).highest ≤ n
met_most None need time n h k = h
met_most (Some timer) need time n h k = omega arith
