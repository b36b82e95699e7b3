-- What the inner functions of `tick` ask of their caller, who has made the checks. Assumes nothing.
use Rattle.std.specs.Prelude.{ℕ, ◌*◌, ◌<◌, ◌≤◌, true, ◌≡◌, List, length}
use Rattle.base.specs.Limits.{time_limit, counter_limit}
use Rattle.rules_window.specs.Checks.{room_for}
use Rattle.rules_record.specs.declared.Inputs.{Inputs}
use Rattle.rules_record.specs.Inputs.{slot_at}
use Rattle.rules_record.specs.Sized.{Sized}
use Rattle.rules_record.specs.Lent.{Lists, window_of}
use Rattle.rules_tick.specs.InputReady.{Ready}
use Rattle.rules_tick.specs.declared.Look.{Look}
use Rattle.rules_tick.specs.Looks.{look_at, lags_before}

-- what check 11 of the inputs asks of the record and of the lengths of its starts and totals: 1 to 6
pub record RoomsAsked (s : Inputs) (starts totals : ℕ) : Type 0 where
  pub most : s.count ≤ 16
  pub starts_long : starts ≡ s.count * 11
  pub totals_long : totals ≡ s.count * 11
  pub seconds : (i : ℕ) → i < s.count → (slot_at s i).lag_seconds ≤ 11

-- input i before its tick, with so many lags of its own: 6 of what its steps read, 10 of its applied delay, 11. The other inputs may have
-- raised a counter of theirs to 2^63, so the record as a whole need not be one that 6 lets through.
pub record InputAsked (s : Inputs) (l : Lists) (i : ℕ) (look : Look) (lags time : ℕ) : Type 0 where
  pub ready : Ready s l i
  pub room : room_for time lags (window_of s l i) ≡ true
  pub applied : look.applied ≤ s.policy.delay_max
  pub reopens : (slot_at s i).reopens < counter_limit
  pub changes : (slot_at s i).delay_changes < counter_limit
  pub lates : (slot_at s i).late_events < counter_limit

-- all inputs before a tick: 8, 10 of the number of lags, and each input
pub record InputsAsked (s : Inputs) (l : Lists) (looks : List Look) (lags : List ℕ) (time : ℕ) : Type 0 where
  pub sized : Sized s
  pub timely : time ≤ time_limit
  pub most : s.count ≤ 16
  pub lags_in_law : lags_before looks s.count ≡ length lags
  pub inputs : (i : ℕ) → i < s.count → InputAsked s l i (look_at looks i) (look_at looks i).lags time
