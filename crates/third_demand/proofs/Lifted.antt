-- What a call makes of one input, as events of that input's history. Assumes nothing.
use Prim.Native.Nat.{ℕ, ◌≤◌}
use mathlib.Core.Bool.{Bool, true}
use mathlib.Core.Path.{◌≡◌}
use mathlib.Core.List.{List, [], ◌∷◌, ◌++◌}
use Rattle.policy.specs.declared.DelayPolicy.{DelayPolicy}
use Rattle.rules_record.specs.declared.Inputs.{Inputs}
use Rattle.rules_record.specs.declared.Slot.{Slot}
use Rattle.rules_record.specs.Inputs.{slot_at}
use Rattle.rules_record.specs.Lent.{Lists, window_for, held_for}
use Rattle.history.specs.View.{rules_of, InputView, Tick}
use Rattle.history.specs.Events.{Event, ticks, history, Lawful, clock}

-- the window, the hold and the delay of input i, where this is its slot
abbrev pub view_for : Inputs → Lists → ℕ → Slot → InputView
view_for s l i slot = record { window = window_for s l i slot; held = held_for l i slot; delay = slot.delay }

abbrev pub view_of : Inputs → Lists → ℕ → InputView
view_of s l i = view_for s l i (slot_at s i)

-- events at this time, lawful after every earlier one, lead from one view to the next
pub record Lifted (policy : DelayPolicy) (time : ℕ) (view next : InputView) : Type 0 where
  pub events : List Event
  pub leads : history (rules_of policy) view events ≡ next
  pub lawful : (before : ℕ) → before ≤ time → Lawful (rules_of policy) before view events
  pub clocked : (before : ℕ) → before ≤ time → clock before events ≤ time

-- The same of a tick: its last event is that of its lags, `ticks` where it leaves the input running on automatic (`runs`);
-- an input that was Running before (`ran`) is not seeded.
pub record TickLifted (policy : DelayPolicy) (tick : Tick) (ran runs : Bool) (view next : InputView) : Type 0 where
  pub seeding : List Event
  pub last : Event
  pub leads : history (rules_of policy) view (seeding ++ (last ∷ [])) ≡ next
  pub lawful : (before : ℕ) → before ≤ tick.time → Lawful (rules_of policy) before view (seeding ++ (last ∷ []))
  pub clocked : (before : ℕ) → before ≤ tick.time → clock before (seeding ++ (last ∷ [])) ≤ tick.time
  pub runs_on : runs ≡ true → last ≡ ticks tick
  pub unseeded : ran ≡ true → seeding ≡ []
