-- The ceiling of one input: long enough into a stretch that brings no lag above L, the delay is at most the need at the end of L's bucket,
-- plus a millisecond less one sample. Assumes nothing.
use Prim.Native.Nat.{ℕ, ◌+◌, ◌-◌, ◌*◌, ◌/◌, ◌≤◌, ◌<◌, max}
use mathlib.Core.Path.{◌≡◌}
use mathlib.Core.Bool.{Bool, true}
use mathlib.Core.List.{List, [], ◌∷◌}
use native.Mathlib.Nat.{add-mul, lt-div-mul-add, mul-le-mul_right}
use native.Mathlib.Omega.{arith}
use lib.ListN.{length}
use Rattle.base.specs.Limits.{nanos, time_limit}
use Rattle.base.proofs.Choices.{by_le}
use Rattle.buckets.specs.Ranges.{buckets_of, tenth}
use Rattle.buckets.proofs.Told.{buckets_some}
use Rattle.policy.specs.declared.DelayPolicy.{DelayPolicy}
use Rattle.policy.specs.Need.{need_of}
use Rattle.policy.proofs.Laws.{need_covers}
use Rattle.rules_window.specs.Window.{Window, bucket_of, pushed_all}
use Rattle.rules_record.specs.Lent.{buckets_for}
use Rattle.rules_window.specs.Checks.{room_for}
use Rattle.history.specs.View.{Rules, InputView, Tick, ticked_view, rules_with}
use Rattle.history.specs.Events.{ticks, after, history, Lawful}
use Rattle.history.specs.Stretch.{Allowed, running_ticks, NonEmpty, NoneAbove, TickStretch, ending, bucket_end}
use Rattle.history.specs.Whole.{Kept}
use Rattle.history.proofs.Phase.{early, phase_lower, at_last}
use Rattle.history.proofs.Windows.{div_mono, Ready, Windowed, first_windowed, step_windowed}
use Rattle.history.proofs.Steady.{Steady, next_steady}
use Rattle.history.proofs.Kept.{kept_ready, kept_peaks, kept_delay, kept_pushed, kept_ticked, kept_after}
use Rattle.history.proofs.Sanity.{Sane, sane_later}

module _ (policy : DelayPolicy) (width : ℕ) (allowed : Allowed policy width) (millisecond : ℕ) where
  abbrev rules : Rules
  rules = rules_with policy millisecond

  abbrev buckets : ℕ
  buckets = buckets_for policy width

  used : 0 < buckets
  used = omega (arith, buckets_some policy.read_offset policy.delay_max width)

  -- ---- L is at most offset + maximum
  module _
      (one : 1 ≤ millisecond)
      (L : ℕ) (fits : L ≤ policy.read_offset + policy.delay_max) (began : ℕ)
    where
      -- what holds after each tick of the stretch
      record Within (t : ℕ) (view : InputView) : Type 0 where
        kept : Kept policy width view
        windowed : Windowed began L width buckets t view.window
        steady : Steady millisecond policy width allowed L fits began t view.held view.delay

      module _ (may_lower : Bool) (may : may_lower ≡ true) (time : ℕ) (lags : List ℕ) (soon : time ≤ time_limit) (few : NoneAbove L lags) (view : InputView) (k : Kept policy width view) (room : room_for time (length lags) view.window ≡ true) where
        abbrev after_pushes : Window
        after_pushes = pushed_all time lags view.window

        -- a tick, from what holds before it and of the window after its lags
        tick_within :
            (t : ℕ) → t ≤ time → time ≤ t + 5 * nanos → Windowed began L width buckets time after_pushes →
            Steady millisecond policy width allowed L fits began t view.held view.delay →
            Within time (ticked_view rules view (record { time = time; lags = lags; may_lower = may_lower }))
        unfolding ticked_view
        tick_within t a b w st =
            let r = kept_pushed policy width allowed time soon lags view k room in
            let n =
            next_steady millisecond policy width allowed L fits began one may_lower may t time a b lags few after_pushes r.sound r.widths w
            view.held (kept_peaks policy width allowed view k) k.times_long k.lags_long view.delay st
            in
            record {
              kept = kept_ticked policy width allowed time soon lags view k room millisecond may_lower;
              windowed = w;
              steady =
                  record {
                    till = n.till;
                    low = n.low;
                    seed = n.seed;
                    phase = phase_lower millisecond _ policy.hold _ time _ _ _ _ (omega arith) n.phase;
                  };
            }

        ready : Ready width buckets time (length lags) view.window
        ready = kept_ready policy width allowed view k time (length lags) room

      first_within :
          (view : InputView) (lags : List ℕ) (may_lower : Bool) → may_lower ≡ true → began ≤ time_limit → room_for began (length lags) view.window ≡ true →
          Kept policy width view → Sane began view → NonEmpty lags → NoneAbove L lags →
          Within began (ticked_view rules view (record { time = began; lags = lags; may_lower = may_lower }))
      first_within view lags may_lower may soon room k s e few =
          tick_within may_lower may began lags soon few view k room began (omega arith) (omega arith)
          (first_windowed began L width buckets allowed.width_least used soon lags view.window (ready may_lower may began lags soon few view k room) e few s.starts)
          (record {
            till = s.hold;
            low = λ i l g. absurd (omega (arith, s.hold.peaks i l));
            seed = s.hold.seed;
            phase = early (omega (arith, allowed.window_least));
          })

      next_within :
          (t : ℕ) (view : InputView) (tick : Tick) → tick.may_lower ≡ true → t ≤ tick.time → tick.time ≤ t + 5 * nanos → tick.time ≤ time_limit →
          room_for tick.time (length tick.lags) view.window ≡ true → NonEmpty tick.lags → NoneAbove L tick.lags →
          Within t view → Within tick.time (ticked_view rules view tick)
      next_within t view tick may a b soon room e few h =
          tick_within tick.may_lower may tick.time tick.lags soon few view h.kept room t a b
          (step_windowed began L width buckets allowed.width_least used tick.time soon t tick.lags view.window a b (ready tick.may_lower may tick.time tick.lags soon few view h.kept room) e few h.windowed)
          h.steady

      run_within :
          (t : ℕ) (view : InputView) (later : List Tick) → Within t view → TickStretch L t later → Lawful rules t view (running_ticks later) →
          Within (ending t later) (history rules view (running_ticks later))
      unfolding history after
      run_within t view [] k s l = k
      run_within t view (tick ∷ later) k s l =
          run_within tick.time (ticked_view rules view tick) later
          (next_within t view tick s.1 l.0 (omega (arith, s.0)) l.1 l.3 s.2 s.3 k)
          s.4 l.4

      ceiling_low :
          (before : ℕ) (view : InputView) (lags : List ℕ) (may_lower : Bool) (later : List Tick) → Kept policy width view → Sane began view →
          may_lower ≡ true → NonEmpty lags → NoneAbove L lags → TickStretch L began later → Lawful rules before view (running_ticks (record { time = began; lags = lags; may_lower = may_lower } ∷ later)) →
          began + max (10 * nanos + policy.window) policy.hold + 2 * policy.hold + 10 * nanos ≤ ending began later →
          (history rules view (running_ticks (record { time = began; lags = lags; may_lower = may_lower } ∷ later))).delay ≤ need_of policy (bucket_end policy width L) + (millisecond - 1)
      unfolding history after
      ceiling_low before view lags may_lower later k s may e few r l long =
          let d = run_within began (ticked_view rules view (record { time = began; lags = lags; may_lower = may_lower })) later (first_within view lags may_lower may l.1 l.3 k s e few) r l.4 in
          at_last millisecond _ policy.hold (need_of policy (bucket_end policy width L)) (ending began later) _ _ _ long d.steady.phase

  -- ---- L is above offset + maximum: the need at the end of its bucket is the maximum
  run_kept :
      (t : ℕ) (view : InputView) (later : List Tick) → Kept policy width view → Lawful rules t view (running_ticks later) →
      Kept policy width (history rules view (running_ticks later))
  unfolding history
  run_kept t view [] k l = k
  run_kept t view (tick ∷ later) k l =
      run_kept tick.time (after rules view (ticks tick)) later
      (kept_after policy width allowed millisecond view (ticks tick) l.1 l.2 l.3 k) l.4

  end_high : (L : ℕ) → policy.read_offset + policy.delay_max < L → policy.read_offset + policy.delay_max ≤ bucket_end policy width L
  unfolding bucket_end buckets_of
  end_high L h =
      let limit : ℕ = policy.read_offset + policy.delay_max in
      let b : ℕ = limit / width in
      let m : b ≤ L / width = div_mono width limit L allowed.width_least (omega arith) in
      let n : b ≤ (limit + tenth) / width = div_mono width limit (limit + tenth) allowed.width_least (omega arith) in
      let q : b + 1 ≤ bucket_of L width ((limit + tenth) / width + 2) + 1 = omega arith in
      omega (arith, mul-le-mul_right width q, lt-div-mul-add {a = limit} {b = width} allowed.width_least, add-mul b 1 width)

  -- ---- the theorem, for a tick and the ticks after it
  pub ceiling :
      1 ≤ millisecond →
      (before L : ℕ) (view : InputView) (first : Tick) (later : List Tick) → Kept policy width view → Sane before view →
      Lawful rules before view (running_ticks (first ∷ later)) → first.may_lower ≡ true → NonEmpty first.lags → NoneAbove L first.lags → TickStretch L first.time later →
      first.time + (30 * nanos + policy.window + 3 * policy.hold) ≤ ending first.time later →
      (history rules view (running_ticks (first ∷ later))).delay ≤ need_of policy (bucket_end policy width L) + (millisecond - 1)
  ceiling one before L view first later k s l may e few r long =
      by_le L (policy.read_offset + policy.delay_max)
      (λ fits. ceiling_low one L fits first.time before view first.lags first.may_lower later k (sane_later view l.0 s) may e few r l (omega arith))
      (λ high.
      let d : (history rules view (running_ticks (first ∷ later))).delay ≤ policy.delay_max = kept_delay policy width allowed _ (run_kept before view (first ∷ later) k l) in
      omega (arith, need_covers policy (bucket_end policy width L), end_high L high))
