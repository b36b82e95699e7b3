-- A tick as events of one input's history: seeded perhaps, and then the event of its lags. Assumes nothing.
use Prim.Native.Nat.{ℕ, ◌≤◌}
use mathlib.Core.Bool.{Bool, true, false}
use mathlib.Core.Path.{◌≡◌, refl, ap, ◌∙◌}
use mathlib.Core.List.{List, [], ◌∷◌, ◌++◌}
use native.Mathlib.Omega.{arith}
use lib.ListN.{length}
use Rattle.base.specs.Limits.{time_limit}
use Rattle.policy.specs.declared.DelayPolicy.{DelayPolicy}
use Rattle.rules_window.specs.Window.{Window, pushed_all}
use Rattle.rules_window.specs.Checks.{room_for}
use Rattle.base.proofs.Tests.{not_both}
use Rattle.history.specs.View.{Rules, rules_of, InputView, Tick}
use Rattle.history.specs.Events.{Event, ticks, seeds, after, history, time_of, Fits, Room, Lawful, clock}
use Rattle.history.proofs.Demand.{history_append}
use Rattle.third_demand.proofs.Lifted.{TickLifted}

-- ---- a list of events, and then more of them
pub lawful_then : (rules : Rules) (before : ℕ) (view : InputView) (events more : List Event) → Lawful rules before view events → Lawful rules (clock before events) (history rules view events) more
    → Lawful rules before view (events ++ more)
unfolding history
lawful_then rules before view [] more l m = m
lawful_then rules before view (event ∷ events) more l m = (l.0, l.1, l.2, l.3, lawful_then rules (time_of event) (after rules view event) events more l.4 m)

pub clock_last : (before : ℕ) (events : List Event) (event : Event) → clock before (events ++ (event ∷ [])) ≡ time_of event
clock_last before [] event = refl
clock_last before (first ∷ events) event = clock_last (time_of first) events event

-- ---- the events before the last
-- a view with the lags of a tick pushed
abbrev pub pushed_view : Tick → InputView → InputView
pushed_view tick view = record { window = pushed_all tick.time tick.lags view.window; held = view.held; delay = view.delay }

-- events that seed, at most: they lead to a view that is `next` once the lags are pushed; an input that was Running (`ran`) is not seeded
pub record Seeded (policy : DelayPolicy) (tick : Tick) (ran : Bool) (view next : InputView) : Type 0 where
  pub seeding : List Event
  pub leads : pushed_view tick (history (rules_of policy) view seeding) ≡ next
  pub lawful : (before : ℕ) → before ≤ tick.time → Lawful (rules_of policy) before view seeding
  pub clocked : (before : ℕ) → before ≤ tick.time → clock before seeding ≤ tick.time
  pub window : (history (rules_of policy) view seeding).window ≡ view.window
  pub unseeded : ran ≡ true → seeding ≡ []

module _ (policy : DelayPolicy) (tick : Tick) (ran : Bool) (view next : InputView) where
  pub seeded_none : pushed_view tick view ≡ next → Seeded policy tick ran view next
  unfolding history
  seeded_none e = record { seeding = []; leads = e; lawful = λ before h. tt; clocked = λ before h. h; window = refl; unseeded = λ h. refl }

  pub seeded_once : (delay : ℕ) → tick.time ≤ time_limit → delay ≤ policy.delay_max → ran ≡ false → pushed_view tick (after (rules_of policy) view (seeds tick.time delay)) ≡ next → Seeded policy tick ran view next
  unfolding history after
  seeded_once delay soon most rested e = record {
    seeding = seeds tick.time delay ∷ [];
    leads = e;
    lawful = λ before h. (h, soon, most, tt, tt);
    clocked = λ before h. omega arith;
    window = refl;
    unseeded = λ h. absurd (not_both h rested);
  }

-- ---- the last event
-- the event of a tick's lags, from the view before they are pushed; `ticks` where it leaves the input running on automatic (`runs`)
pub record Last (policy : DelayPolicy) (tick : Tick) (runs : Bool) (view next : InputView) : Type 0 where
  pub event : Event
  pub leads : after (rules_of policy) view event ≡ next
  pub timed : time_of event ≡ tick.time
  pub fits : Fits policy.delay_max event
  pub room : room_for tick.time (length tick.lags) view.window ≡ true → Room view event
  pub runs_on : runs ≡ true → event ≡ ticks tick

-- ---- the two make a tick
module _ (policy : DelayPolicy) (tick : Tick) (ran runs : Bool) (view between next : InputView) (soon : tick.time ≤ time_limit)
    (room : room_for tick.time (length tick.lags) view.window ≡ true)
    (begins : Seeded policy tick ran view between)
    (ends : Last policy tick runs (history (rules_of policy) view begins.seeding) next) where
  last_room : Room (history (rules_of policy) view begins.seeding) ends.event
  last_room = ends.room (ap (λ (w : Window). room_for tick.time (length tick.lags) w) begins.window ∙ room)

  last_leads : history (rules_of policy) view (begins.seeding ++ (ends.event ∷ [])) ≡ next
  unfolding history
  last_leads = history_append (rules_of policy) view begins.seeding (ends.event ∷ []) ∙ ends.leads

  last_lawful : (before : ℕ) → before ≤ tick.time → Lawful (rules_of policy) before view (begins.seeding ++ (ends.event ∷ []))
  last_lawful before h =
      lawful_then (rules_of policy) before view begins.seeding (ends.event ∷ []) (begins.lawful before h)
      (omega (arith, begins.clocked before h, ends.timed), omega (arith, ends.timed), ends.fits, last_room, tt)

  pub seeded_then : TickLifted policy tick ran runs view next
  seeded_then = record {
    seeding = begins.seeding;
    last = ends.event;
    leads = last_leads;
    lawful = last_lawful;
    clocked = λ before h. omega (arith, clock_last before begins.seeding ends.event, ends.timed);
    runs_on = ends.runs_on;
    unseeded = begins.unseeded;
  }

-- .. in other words
pub lifted_as : {policy same_policy : DelayPolicy} {tick : Tick} {ran same-ran runs same_runs : Bool} {view same_view next same_next : InputView}
    → policy ≡ same_policy → ran ≡ same-ran → runs ≡ same_runs → view ≡ same_view → next ≡ same_next → TickLifted policy tick ran runs view next → TickLifted same_policy tick same-ran same_runs same_view same_next
lifted_as {tick = tick} a b c d e lifted = coe 0 1 (k. TickLifted (a k) tick (b k) (c k) (d k) (e k)) lifted
