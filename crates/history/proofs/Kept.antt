-- Each event keeps an input whole: check 6 never refuses what the calls themselves leave. Assumes nothing.
use Prim.Native.Nat.{ℕ, ◌+◌, ◌≤◌}
use mathlib.Core.Path.{◌≡◌, refl, ◌∙◌, subst}
use mathlib.Core.Bool.{Bool, true, false}
use mathlib.Core.List.{List}
use native.Mathlib.Omega.{arith}
use borrow.Author.Tests.{le-leb, leb-true}
use lib.ListN.{length, length-replicate}
use Rattle.base.specs.Limits.{time_limit}
use Rattle.base.specs.Choice.{pick}
use Rattle.base.proofs.Points.{both_true, true_both}
use Rattle.buckets.proofs.Told.{buckets_some}
use Rattle.policy.specs.declared.DelayPolicy.{DelayPolicy}
use Rattle.rules_window.specs.Window.{Window, fresh, pushed_all}
use Rattle.rules_record.specs.Lent.{buckets_for}
use Rattle.rules_window.specs.WholeWindow as windows
use Rattle.rules_window.specs.Checks.{room_for, newest}
use Rattle.rules_window.proofs.Laws.{fresh_sound}
use Rattle.delay_hold.specs.Checks.{lag_up_to, AskedFor}
use Rattle.delay_hold.specs.Step4Peaks.{worst_of}
use Rattle.delay_hold.specs.Next.{Held, held, cleared_hold}
use Rattle.delay_hold.specs.Whole.{peak_most, whole_hold}
use Rattle.delay_hold.proofs.Wholes as hold-facts
use Rattle.delay_hold.proofs.Marks as marks
use Rattle.delay_hold.proofs.Keeps.{next_keeps_whole, next_keeps_lengths, next_delay_fits}
use Rattle.rules_tick.specs.AutoDelay.{p999_of}
use Rattle.rules_tick.proofs.P999.{p999_most}
use Rattle.history.specs.View.{InputView, ticked_view}
use Rattle.history.specs.Events.{Event, ticks, rests, seeds, clears, sets, fresh_view, interrupted, after, time_of, Fits, Room}
use Rattle.history.specs.Stretch.{Allowed}
use Rattle.history.specs.Whole.{whole_view, Kept}
use Rattle.history.proofs.Windows.{Ready, ready_all}

-- ---- the parts of a kept input

module _ (policy : DelayPolicy) (width : ℕ) (allowed : Allowed policy width) where
  abbrev buckets : ℕ
  buckets = buckets_for policy width

  module _ (view : InputView) (k : Kept policy width view) where
    parts : (windows.whole_window view.window ≡ true) × (whole_hold policy width view.held ≡ true) × (view.delay ≤ policy.delay_max)
    unfolding whole_view
    parts = let a = both_true _ _ k.whole in let b = both_true _ _ a.1 in (a.0, b.0, leb-true _ _ b.1)

    pub kept_sound : windows.Sound view.window
    kept_sound = record { shaped = k.shaped; whole = parts.0 }

    pub kept_peaks : hold-facts.WholePeaks policy width view.held
    kept_peaks = (hold-facts.whole_of policy width view.held parts.1).0

    pub kept_delay : view.delay ≤ policy.delay_max
    kept_delay = parts.2

    pub kept_ready : (time n : ℕ) → room_for time n view.window ≡ true → Ready width buckets time n view.window
    kept_ready time n r =
        record { sound = kept_sound; widths = k.widths; bucketed = k.bucketed; room = leb-true (newest time view.window + n) 4294967295 r }

  pub kept_of :
      (view : InputView) → windows.Sound view.window → view.window.width ≡ width → view.window.buckets ≡ buckets →
      whole_hold policy width view.held ≡ true → length view.held.times ≡ 600 → length view.held.lags ≡ 600 →
      view.delay ≤ policy.delay_max → Kept policy width view
  unfolding whole_view
  kept_of view sound widths bucketed whole times lags delay =
      record {
        whole = true_both _ _ sound.whole (true_both _ _ whole (le-leb _ _ delay));
        widths = widths;
        bucketed = bucketed;
        shaped = sound.shaped;
        times_long = times;
        lags_long = lags;
      }

  pub kept_fresh : Kept policy width (fresh_view policy width)
  unfolding fresh_view fresh
  kept_fresh =
      kept_of (fresh_view policy width)
      (fresh_sound buckets width allowed.width_least allowed.width_most (omega (arith, buckets_some policy.read_offset policy.delay_max width)) allowed.buckets_most) refl refl
      (marks.fresh_whole policy width (omega (arith, allowed.window_least))) refl refl (omega arith)

  -- ---- the ticks

  p999_up : (w : Window) → w.width ≡ width → lag_up_to (p999_of policy w) (peak_most policy width) ≡ true
  p999_up w e = subst (λ (x : ℕ). lag_up_to (p999_of policy w) (peak_most policy x) ≡ true) e (p999_most policy w)

  module _ (time : ℕ) (soon : time ≤ time_limit) (lags : List ℕ) (view : InputView) (k : Kept policy width view) (room : room_for time (length lags) view.window ≡ true) where
    pub kept_pushed : Ready width buckets time 0 (pushed_all time lags view.window)
    kept_pushed =
        ready_all width buckets time allowed.width_least (omega (arith, buckets_some policy.read_offset policy.delay_max width)) soon lags view.window
        (kept_ready view k time (length lags) room)

    kept_asked : AskedFor width policy view.held (p999_of policy (pushed_all time lags view.window)) view.delay
    kept_asked =
        record {
          sound = allowed.sound;
          window_least = allowed.window_least;
          window_most = allowed.window_most;
          width_most = allowed.width_most;
          times_long = k.times_long;
          lags_long = k.lags_long;
          whole = (parts view k).1;
          current_in = (parts view k).2;
          p999_in = p999_up (pushed_all time lags view.window) kept_pushed.widths;
        }

    pub kept_ticked : (millisecond : ℕ) (may_lower : Bool) → Kept policy width (ticked_view (record { policy = policy; millisecond = millisecond }) view (record { time = time; lags = lags; may_lower = may_lower }))
    unfolding ticked_view
    kept_ticked millisecond may_lower =
        let p999 = p999_of policy (pushed_all time lags view.window) in
        let long = next_keeps_lengths millisecond may_lower width policy view.held p999 (worst_of lags) view.delay time kept_asked soon in
        kept_of (ticked_view (record { policy = policy; millisecond = millisecond }) view (record { time = time; lags = lags; may_lower = may_lower }))
        kept_pushed.sound kept_pushed.widths kept_pushed.bucketed
        (next_keeps_whole millisecond may_lower width policy view.held p999 (worst_of lags) view.delay time kept_asked soon)
        long.0 long.1
        (omega (arith, kept_delay view k, next_delay_fits millisecond may_lower width policy view.held p999 (worst_of lags) view.delay time kept_asked soon))

  -- ---- the hold of the other events

  interrupted_whole : (stalled : Bool) (s : Held) → whole_hold policy width s ≡ true → whole_hold policy width (held (interrupted stalled s.hold) s.times s.lags) ≡ true
  interrupted_whole true s h = marks.interrupted_whole policy width s h
  interrupted_whole false s h = h

  zeroed_fits : (zeroed : Bool) (delay : ℕ) → delay ≤ policy.delay_max → pick zeroed 0 delay ≤ policy.delay_max
  zeroed_fits true delay h = omega arith
  zeroed_fits false delay h = h

  cleared_whole : (s : Held) → length s.times ≡ 600 → length s.lags ≡ 600 → whole_hold policy width (cleared_hold s) ≡ true
  cleared_whole s a b = rw (a, b) (marks.fresh_whole policy width (omega (arith, allowed.window_least)))

  -- ---- every event

  pub kept_after :
      (millisecond : ℕ) (view : InputView) (event : Event) → time_of event ≤ time_limit → Fits policy.delay_max event → Room view event →
      Kept policy width view → Kept policy width (after (record { policy = policy; millisecond = millisecond }) view event)
  unfolding after fresh
  kept_after millisecond view (ticks tick) soon fits room k = kept_ticked tick.time soon tick.lags view k room millisecond tick.may_lower
  kept_after millisecond view (rests stalled tick) soon fits room k =
      let r = kept_pushed tick.time soon tick.lags view k room in
      kept_of _ r.sound r.widths r.bucketed (interrupted_whole stalled view.held (parts view k).1) k.times_long k.lags_long (parts view k).2
  kept_after millisecond view (seeds time delay) soon fits room k =
      kept_of _ (kept_sound view k) k.widths k.bucketed (marks.seeded_whole policy width view.held (parts view k).1 delay time fits soon) k.times_long k.lags_long fits
  kept_after millisecond view (clears time zeroed) soon fits room k =
      kept_of _
      (fresh_sound view.window.buckets view.window.width k.shaped.width_low k.shaped.width_high k.shaped.buckets_low k.shaped.buckets_high)
      k.widths k.bucketed (cleared_whole view.held k.times_long k.lags_long)
      (length-replicate (length view.held.times) 0 ∙ k.times_long) (length-replicate (length view.held.lags) 0 ∙ k.lags_long)
      (zeroed_fits zeroed view.delay (parts view k).2)
  kept_after millisecond view (sets time delay) soon fits room k =
      kept_of _ (kept_sound view k) k.widths k.bucketed (parts view k).1 k.times_long k.lags_long fits
