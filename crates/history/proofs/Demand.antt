-- The third demand of one input, from a fresh input on: floor and ceiling after every list of events whose clock does not go back.
-- Assumes nothing.
use Rattle.std.specs.Prelude.{Option, Some}
use Prim.Native.Nat.{ℕ, ◌+◌, ◌-◌, ◌≤◌}
use mathlib.Core.Path.{◌≡◌, refl, sym, subst, ◌∙◌}
use mathlib.Core.List.{List, [], ◌∷◌, ◌++◌}
use native.Mathlib.Omega.{arith}
use Rattle.policy.specs.declared.DelayPolicy.{DelayPolicy}
use Rattle.policy.specs.Need.{need_of}
use Rattle.delay_hold.specs.Step4Peaks.{worst_of}
use Rattle.delay_hold.specs.Next.{next_of, delay_after, one_millisecond}
use Rattle.delay_hold.proofs.Wholes.{in_use}
use Rattle.delay_hold.proofs.Covers.{next_covers}
use Rattle.rules_window.specs.Window.{pushed_all}
use Rattle.rules_tick.specs.AutoDelay.{p999_of}
use Rattle.history.specs.View.{Rules, InputView, Tick, ticked_view, rules_with}
use Rattle.history.specs.Events.{Event, ticks, fresh_view, after, history, time_of, Lawful, clock}
use Rattle.history.specs.Stretch.{Allowed, running_ticks, bucket_end}
use Rattle.history.specs.Whole.{Kept}
use Rattle.history.specs.Demand.{StaysWhole, Floor, Ceiling, FloorWith, CeilingWith}
use Rattle.history.proofs.Kept.{kept_peaks, kept_fresh, kept_after}
use Rattle.history.proofs.Sanity.{Sane, sane_fresh, sane_after}
use Rattle.history.proofs.Ceiling.{ceiling}

-- ---- a list of events, and then more of them

pub history_append : (rules : Rules) (view : InputView) (events more : List Event) → history rules view (events ++ more) ≡ history rules (history rules view events) more
unfolding history
history_append rules view [] more = refl
history_append rules view (event ∷ events) more = history_append rules (after rules view event) events more

pub lawful_append :
    (rules : Rules) (before : ℕ) (view : InputView) (events more : List Event) → Lawful rules before view (events ++ more) →
    Lawful rules before view events × Lawful rules (clock before events) (history rules view events) more
unfolding history
lawful_append rules before view [] more l = (tt, l)
lawful_append rules before view (event ∷ events) more l =
    let r = lawful_append rules (time_of event) (after rules view event) events more l.4 in
    ((l.0, l.1, l.2, l.3, r.0), r.1)

-- ---- the invariants after every list

module _ (policy : DelayPolicy) (width : ℕ) (allowed : Allowed policy width) (millisecond : ℕ) where
  abbrev rules : Rules
  rules = rules_with policy millisecond

  pub kept_history : (before : ℕ) (view : InputView) (events : List Event) → Lawful rules before view events → Kept policy width view → Kept policy width (history rules view events)
  unfolding history
  kept_history before view [] l k = k
  kept_history before view (event ∷ events) l k =
      kept_history (time_of event) (after rules view event) events l.4 (kept_after policy width allowed millisecond view event l.1 l.2 l.3 k)

  pub sane_history :
      (before : ℕ) (view : InputView) (events : List Event) → Lawful rules before view events → Kept policy width view → Sane before view →
      Sane (clock before events) (history rules view events)
  unfolding history
  sane_history before view [] l k s = s
  sane_history before view (event ∷ events) l k s =
      sane_history (time_of event) (after rules view event) events l.4
      (kept_after policy width allowed millisecond view event l.1 l.2 l.3 k)
      (sane_after policy width allowed millisecond before view event l.0 l.1 l.3 k s)

  -- ---- one tick after them, and a stretch after them
  floor_tick :
      (view : InputView) (tick : Tick) (l : ℕ) → Kept policy width view → worst_of tick.lags ≡ Some l →
      l ≤ policy.read_offset + policy.delay_max → l ≤ policy.read_offset + (ticked_view rules view tick).delay
  unfolding ticked_view
  floor_tick view tick l k e fits =
      let p999 : Option ℕ = p999_of policy (pushed_all tick.time tick.lags view.window) in
      let u = in_use (kept_peaks policy width allowed view k) k.times_long k.lags_long in
      omega (
        arith,
        subst (λ (x : Option ℕ). l ≤ policy.read_offset + delay_after view.delay (next_of millisecond tick.may_lower policy view.held p999 x view.delay tick.time).change)
            (sym e) (next_covers policy view.held (u.1 ∙ sym u.0) allowed.window_least p999 l fits tick.time millisecond tick.may_lower view.delay),
      )

  pub floor_history : FloorWith millisecond policy width
  unfolding history after
  floor_history events tick l law e fits =
      let a = lawful_append rules 0 (fresh_view policy width) events (ticks tick ∷ []) law in
      subst (λ (x : InputView). l ≤ policy.read_offset + x.delay) (sym (history_append rules (fresh_view policy width) events (ticks tick ∷ [])))
      (floor_tick (history rules (fresh_view policy width) events) tick l
      (kept_history 0 (fresh_view policy width) events a.0 (kept_fresh policy width allowed)) e fits)

  pub ceiling_history : 1 ≤ millisecond → CeilingWith millisecond (millisecond - 1) policy width
  ceiling_history one events first later L law may e few r long =
      let a = lawful_append rules 0 (fresh_view policy width) events (running_ticks (first ∷ later)) law in
      let k = kept_fresh policy width allowed in
      subst (λ (x : InputView). x.delay ≤ need_of policy (bucket_end policy width L) + (millisecond - 1)) (sym (history_append rules (fresh_view policy width) events (running_ticks (first ∷ later))))
      (ceiling policy width allowed millisecond one (clock 0 events) L (history rules (fresh_view policy width) events) first later
      (kept_history 0 (fresh_view policy width) events a.0 k)
      (sane_history 0 (fresh_view policy width) events a.0 k (sane_fresh policy width 0))
      a.1 may e few r long)

-- ---- the third demand of one input, with document 01's 48 samples

pub whole_after : (policy : DelayPolicy) (width : ℕ) → Allowed policy width → StaysWhole policy width
whole_after policy width allowed events law =
    (kept_history policy width allowed one_millisecond 0 (fresh_view policy width) events law (kept_fresh policy width allowed)).whole

pub floor_after : (policy : DelayPolicy) (width : ℕ) → Allowed policy width → Floor policy width
floor_after policy width allowed events tick lag law e fits =
    omega (arith, floor_history policy width allowed one_millisecond events tick lag law e (omega arith))

pub ceiling_after : (policy : DelayPolicy) (width : ℕ) → Allowed policy width → Ceiling policy width
ceiling_after policy width allowed events first later L law may e few r long =
    omega (arith, ceiling_history policy width allowed one_millisecond (omega arith) events first later L law may e few r (omega arith))
