-- What the first steps of an input's tick make of its view: its lags are pushed, and then it is opened or watched, which seeds it, at most. Assumes nothing.
use Prim.Native.Nat.{ℕ, ◌*◌, ◌≤◌, ◌<◌}
use mathlib.Core.Bool.{true, false}
use mathlib.Core.Path.{◌≡◌, refl, sym, ap, subst, ◌∙◌}
use mathlib.Core.List.{List}
use native.Mathlib.Omega.{arith}
use borrow.Author.Tests.{eqb-true, ne_eqb}
use lib.ListN.{length}
use Rattle.base.specs.Limits.{time_limit}
use Rattle.base.specs.Lists.{part}
use Rattle.base.proofs.Points.{both_true}
use Rattle.rules_window.specs.Window.{windowed}
use Rattle.rules_window.specs.Parts.{part_of}
use Rattle.rules_window.specs.Checks.{room_for}
use Rattle.delay_hold.specs.Next.{held, seeded_hold}
use Rattle.rules_record.specs.declared.State.TheVariants.{Stalled}
use Rattle.rules_record.specs.declared.Slot.{Slot}
use Rattle.rules_record.specs.declared.Inputs.{Inputs}
use Rattle.rules_record.specs.Slots.{with_state}
use Rattle.rules_record.specs.States.{state_number, is_running}
use Rattle.rules_record.specs.Inputs.{slot_at}
use Rattle.rules_record.specs.Sized.{Sized}
use Rattle.rules_routing.specs.TryOpen.{opened_slot, starts_anew}
use Rattle.rules_routing.proofs.TryOpenOutcomes.{started_slot}
use Rattle.rules_routing.specs.Watch.{lost_slot, moved_slot}
use Rattle.rules_record.specs.Lent.{Lists, buckets_in, window_of, held_of}
use Rattle.rules_record.specs.Effects.{Effect, followed_by}
use Rattle.rules_routing.proofs.TryOpenKeeps.{opened_seconds, opened_hold, opened_delay}
use Rattle.rules_routing.proofs.WatchKeeps.{moved_seconds, moved_hold, moved_delay}
use Rattle.rules_tick.specs.Lags.{window_after, last_lag_of, arrived_slot, arrived, largest_of}
use Rattle.rules_tick.specs.LateEvents.{late_slot}
use Rattle.rules_tick.specs.InputReady.{Ready}
use Rattle.rules_tick.proofs.LagsKeep.{arrived_slot_law}
use Rattle.rules_tick.proofs.LateKeeps.{late_slot_law}
use Rattle.rules_tick.proofs.InputViews.{arrived_window, arrived_held, late_window, late_held}
use Rattle.rules_tick.specs.declared.Look.{Look}
use Rattle.rules_tick.specs.Tick.{heard, looked}
use Rattle.rules_tick.proofs.Looked.{looked_settings, looked_outcomes}
use Rattle.rules_tick.proofs.TickFrames.{arrived_sized}
use Rattle.history.specs.View.{InputView, Tick, tick_of}
use Rattle.history.specs.Events.{after}
use Rattle.third_demand.proofs.Lifted.{view_of, view_for}
use Rattle.third_demand.proofs.Ends.{pushed_view, Seeded, seeded_none, seeded_once}

-- ---- the lags are pushed, and a late event counts
module _ (i : ℕ) (look : Look) (lags : List ℕ) (time : ℕ) (s : Inputs) (l : Lists) (low : i < 16) (sized : Sized s) where
  abbrev pushed : Effect
  pushed = arrived i time lags s l

  pushed_long : length pushed.inputs.slots ≡ 16
  pushed_long = (arrived_sized i look lags time s l sized).slots

  heard_slot : slot_at (heard i look lags time s l).inputs i
      ≡ late_slot pushed.inputs.policy (arrived_slot (slot_at s i) (window_after i time lags s l).seconds (last_lag_of lags (slot_at s i).last_lag)) look.applied (largest_of lags)
  unfolding heard followed_by
  heard_slot =
      late_slot_law i look.applied (largest_of lags) pushed.inputs low pushed_long
      ∙ ap (λ (x : Slot). late_slot pushed.inputs.policy x look.applied (largest_of lags)) (arrived_slot_law i time lags s l low sized.slots)

  -- its state, its kind and its delay stay
  pub heard_state : (slot_at (heard i look lags time s l).inputs i).state ≡ (slot_at s i).state
  heard_state = ap (λ (x : Slot). x.state) heard_slot

  pub heard_config : (slot_at (heard i look lags time s l).inputs i).config ≡ (slot_at s i).config
  heard_config = ap (λ (x : Slot). x.config) heard_slot

  pub heard_delay : (slot_at (heard i look lags time s l).inputs i).delay ≡ (slot_at s i).delay
  heard_delay = ap (λ (x : Slot). x.delay) heard_slot

  pub heard_view : Ready s l i → time ≤ time_limit → room_for time (length lags) (window_of s l i) ≡ true
      → pushed_view (tick_of time lags) (view_of s l i) ≡ view_of (heard i look lags time s l).inputs (heard i look lags time s l).lists i
  unfolding heard followed_by window_after
  heard_view r soon room = sym (λ t. record {
    window = (late_window i look.applied (largest_of lags) pushed.inputs pushed.lists low pushed_long ∙ arrived_window i time lags s l r sized.slots soon room) t;
    held = (late_held i look.applied (largest_of lags) pushed.inputs pushed.lists low pushed_long ∙ arrived_held i time lags s l r sized.slots) t;
    delay = heard_delay t;
  })

-- ---- it is opened or watched

module _ (i : ℕ) (look : Look) (s : Inputs) (l : Lists) (tick : Tick) (input : i < 16) (sized : Sized s) (soon : tick.time ≤ time_limit) where
  abbrev seen : Inputs
  seen = (looked i look tick.time s).inputs

  -- an input that starts anew was Waiting
  anew_rested : starts_anew (slot_at s i) ≡ true → is_running (slot_at s i).state ≡ false
  unfolding starts_anew
  anew_rested anew =
      let waiting : state_number (slot_at s i).state ≡ 1 = eqb-true _ _ (both_true _ _ (both_true _ _ anew).1).0 in
      ne_eqb (state_number (slot_at s i).state) 2 (λ e. omega arith)

  module _ (view : InputView) (is : pushed_view tick view ≡ view_of s l i) where
    abbrev Begins : Slot → Type 0
    Begins new = Seeded s.policy tick (is_running (slot_at s i).state) view (view_for s l i new)

    -- a slot whose seconds, hold and delay stay
    same : (new : Slot) → new.lag_seconds ≡ (slot_at s i).lag_seconds → new.hold ≡ (slot_at s i).hold → new.delay ≡ (slot_at s i).delay → view_for s l i new ≡ view_of s l i
    same new seconds hold delay = λ t. record {
      window = part_of i (windowed (seconds t) (buckets_in s) s.width l.starts l.totals l.counts);
      held = held (hold t) (part (i * 600) 600 l.times) (part (i * 600) 600 l.peaks);
      delay = delay t;
    }

    stays : (new : Slot) → new.lag_seconds ≡ (slot_at s i).lag_seconds → new.hold ≡ (slot_at s i).hold → new.delay ≡ (slot_at s i).delay → Begins new
    stays new seconds hold delay = seeded_none s.policy tick _ view (view_for s l i new) (is ∙ sym (same new seconds hold delay))

    -- its delay is set, and its hold seeded
    starts : (new : Slot) (delay : ℕ) → new.lag_seconds ≡ (slot_at s i).lag_seconds → new.hold ≡ (slot_at s i).hold → starts_anew (slot_at s i) ≡ true → delay ≤ s.policy.delay_max
        → Begins (started_slot new delay tick.time)
    unfolding after
    starts new delay seconds hold anew most =
        seeded_once s.policy tick _ view (view_for s l i (started_slot new delay tick.time)) delay soon most (anew_rested anew)
        (λ t. record {
          window = (ap (λ (x : InputView). x.window) is ∙ (λ k. part_of i (windowed (sym seconds k) (buckets_in s) s.width l.starts l.totals l.counts))) t;
          held = (ap (λ (x : InputView). held (seeded_hold x.held.hold delay tick.time) x.held.times x.held.lags) is ∙ (λ k. held (seeded_hold (sym hold k) delay tick.time) (part (i * 600) 600 l.times) (part (i * 600) 600 l.peaks))) t;
          delay = delay;
        })

    -- an open reader
    module _ (slot : Slot) (inode : ℕ) where
      abbrev opened : Slot
      opened = opened_slot slot inode look.world.head tick.time

      opened_stays : slot.lag_seconds ≡ (slot_at s i).lag_seconds → slot.hold ≡ (slot_at s i).hold → slot.delay ≡ (slot_at s i).delay → Begins opened
      opened_stays seconds hold delay =
          stays opened (opened_seconds slot inode look.world.head tick.time ∙ seconds) (opened_hold slot inode look.world.head tick.time ∙ hold)
          (opened_delay slot inode look.world.head tick.time ∙ delay)

    begins : Begins (slot_at seen i)
    unfolding lost_slot
    begins =
        let slot : Slot = slot_at s i in
        let head : ℕ = look.world.head in
        let time : ℕ = tick.time in
        looked_outcomes i look time s input sized (λ new words. Begins new)
        (stays slot refl refl refl)
        (stays (lost_slot slot) refl refl refl)
        (stays (moved_slot slot head time) (moved_seconds slot head time) (moved_hold slot head time) (moved_delay slot head time))
        (λ inode channels of to. opened_stays slot inode refl refl refl)
        (λ inode channels delay of to anew most. starts (opened slot inode) delay (opened_seconds slot inode head time) (opened_hold slot inode head time) anew most)
        (λ stalls. stays (with_state slot Stalled) refl refl refl)
        (λ inode channels stalls of to. opened_stays (with_state slot Stalled) inode refl refl refl)

    view_under : view_for s l i (slot_at seen i) ≡ view_of seen l i
    unfolding buckets_in
    view_under = sym (λ t. record {
      window = part_of i (windowed (slot_at seen i).lag_seconds (buckets_in (looked_settings i look tick.time s t)) (looked_settings i look tick.time s t).width l.starts l.totals l.counts);
      held = held_of seen l i;
      delay = (slot_at seen i).delay;
    })

    -- it is seeded, or its view stays
    pub looked_seeded : Seeded s.policy tick (is_running (slot_at s i).state) view (view_of seen l i)
    looked_seeded = subst (Seeded s.policy tick (is_running (slot_at s i).state) view) view_under begins
