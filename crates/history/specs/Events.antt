-- What may happen to one input, from fresh on, and what a list of it leaves (document 01, "Supervision"). Assumes nothing.
use Rattle.std.specs.Prelude.{ℕ, ◌≤◌, Bool, true, ◌≡◌, List, [], ◌∷◌, length, replicate}
use Rattle.base.specs.Limits.{time_limit}
use Rattle.base.specs.Choice.{pick}
use Rattle.policy.specs.declared.DelayPolicy.{DelayPolicy}
use Rattle.rules_window.specs.Window.{fresh, cleared, pushed_all}
use Rattle.rules_record.specs.Lent.{buckets_for}
use Rattle.rules_window.specs.Checks.{room_for}
use Rattle.delay_hold.specs.declared.DelayHold.{DelayHold}
use Rattle.delay_hold.specs.Steps5To8.{timer_off, with_lower}
use Rattle.delay_hold.specs.Next.{held, fresh_hold, cleared_hold, seeded_hold}
use Rattle.history.specs.View.{Rules, InputView, Tick, ticked_view}

pub data Event : Type 0 where
  -- a tick that leaves it running on automatic
  ticks : Tick → Event
  -- any other tick: the lags are pushed; with true it is Stalled, and "Stalled turns the timer off"
  rests : Bool → Tick → Event
  -- "Automatic, was Waiting, delay 0, remembered: set the smaller of it and maximum, and seed", at a time
  seeds : (time delay : ℕ) → Event
  -- a route, or `update` with Auto: "window and hold are cleared"; with true the delay is 0, with false it stays
  clears : (time : ℕ) → Bool → Event
  -- `update` with Ms, or a Ms input of `new`: "`set_delay` of `samples`"
  sets : (time delay : ℕ) → Event

-- an input of an accepted `new`, before any delay is set
unfoldable pub fresh_view : (policy : DelayPolicy) (width : ℕ) → InputView
fresh_view policy width =
    record {
      window = fresh (buckets_for policy width) width;
      held = held fresh_hold (replicate 600 0) (replicate 600 0);
      delay = 0;
    }

-- the hold, with its timer off where the input is Stalled
abbrev pub interrupted : (stalled : Bool) (h : DelayHold) → DelayHold
interrupted stalled h = pick stalled (with_lower h timer_off) h

-- what an event makes of the input
unfoldable pub after : (rules : Rules) (view : InputView) → Event → InputView
after rules view (ticks tick) = ticked_view rules view tick
after rules view (rests stalled tick) =
    record {
      window = pushed_all tick.time tick.lags view.window;
      held = held (interrupted stalled view.held.hold) view.held.times view.held.lags;
      delay = view.delay;
    }
after rules view (seeds time delay) =
    record { window = view.window; held = held (seeded_hold view.held.hold delay time) view.held.times view.held.lags; delay = delay }
after rules view (clears time zeroed) =
    record { window = cleared view.window; held = cleared_hold view.held; delay = pick zeroed 0 view.delay }
after rules view (sets time delay) = record { window = view.window; held = view.held; delay = delay }

-- what a list of them leaves
unfoldable pub history : (rules : Rules) (view : InputView) → List Event → InputView
history rules view [] = view
history rules view (event ∷ events) = history rules (after rules view event) events

-- when it happens
abbrev pub time_of : Event → ℕ
time_of (ticks tick) = tick.time
time_of (rests stalled tick) = tick.time
time_of (seeds time delay) = time
time_of (clears time zeroed) = time
time_of (sets time delay) = time

-- a delay from outside is at most maximum
abbrev pub Fits : ℕ → Event → Type 0
Fits maximum (ticks tick) = Unit {0}
Fits maximum (rests stalled tick) = Unit {0}
Fits maximum (seeds time delay) = delay ≤ maximum
Fits maximum (clears time zeroed) = Unit {0}
Fits maximum (sets time delay) = delay ≤ maximum

-- check 11: the newest total has room for a tick's lags
abbrev pub Room : InputView → Event → Type 0
Room view (ticks tick) = room_for tick.time (length tick.lags) view.window ≡ true
Room view (rests stalled tick) = room_for tick.time (length tick.lags) view.window ≡ true
Room view (seeds time delay) = Unit {0}
Room view (clears time zeroed) = Unit {0}
Room view (sets time delay) = Unit {0}

-- events of accepted calls: "the clock never goes back", each time is within check 8, and the lags within check 11
abbrev pub Lawful : Rules → ℕ → InputView → List Event → Type 0
Lawful rules before view [] = Unit {0}
Lawful rules before view (event ∷ events) =
    (before ≤ time_of event) × (time_of event ≤ time_limit) × Fits rules.policy.delay_max event × Room view event
    × Lawful rules (time_of event) (after rules view event) events

-- the time of the last event
abbrev pub clock : (before : ℕ) → List Event → ℕ
clock before [] = before
clock before (event ∷ events) = clock (time_of event) events
