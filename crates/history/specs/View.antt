-- One input: its window, its hold and its delay, and what a tick that leaves it running on automatic makes of them.
-- Document 01, "Supervision", `tick` and `auto_delay`, without confirmation. Assumes nothing.
use Rattle.std.specs.Prelude.{ℕ, Bool, List}
use Rattle.policy.specs.declared.DelayPolicy.{DelayPolicy}
use Rattle.rules_window.specs.Window.{Window, pushed_all}
use Rattle.delay_hold.specs.Step4Peaks.{worst_of}
use Rattle.delay_hold.specs.Next.{Held, Decided, next_of, delay_after, one_millisecond, always_lower}
use Rattle.rules_tick.specs.AutoDelay.{p999_of}

-- what all calls of a list keep: the policy of `new` and document 01's 48 samples
pub record Rules : Type 0 where
  pub policy : DelayPolicy
  pub millisecond : ℕ

abbrev pub rules_with : (policy : DelayPolicy) (millisecond : ℕ) → Rules
rules_with policy millisecond = record { policy = policy; millisecond = millisecond }

-- document 01's: 48 samples are a millisecond
abbrev pub rules_of : DelayPolicy → Rules
rules_of policy = rules_with policy one_millisecond

-- one input, with the parts of the lent lists that are its own
pub record InputView : Type 0 where
  pub window : Window
  pub held : Held
  pub delay : ℕ

-- what a tick brings to one input: the time, its lags, and whether a due lowering happens at it or waits
pub record Tick : Type 0 where
  pub time : ℕ
  pub lags : List ℕ
  pub may_lower : Bool

-- document 01's: a due lowering never waits
abbrev pub tick_of : (time : ℕ) (lags : List ℕ) → Tick
tick_of time lags = record { time = time; lags = lags; may_lower = always_lower }

-- what `next` decides at a tick, after its lags are pushed: "current is .. the delay"
abbrev pub decided_at : (rules : Rules) (view : InputView) (tick : Tick) → Decided
decided_at rules view tick =
    next_of rules.millisecond tick.may_lower rules.policy view.held
    (p999_of rules.policy (pushed_all tick.time tick.lags view.window))
    (worst_of tick.lags)
    view.delay
    tick.time

-- "push lags .. then `auto_delay`": an answer becomes the delay
unfoldable pub ticked_view : (rules : Rules) (view : InputView) (tick : Tick) → InputView
ticked_view rules view tick =
    record {
      window = pushed_all tick.time tick.lags view.window;
      held = (decided_at rules view tick).held;
      delay = delay_after view.delay (decided_at rules view tick).change;
    }
