-- Each event of a clock that does not go back keeps an input sane: no time in it is past the event's. Assumes nothing.
use Prim.Native.Nat.{ℕ, ◌≤◌}
use mathlib.Core.Path.{◌≡◌}
use mathlib.Core.Bool.{Bool, true, false}
use mathlib.Core.List.{List}
use native.Mathlib.Omega.{arith}
use lib.ListN.{length, replicate}
use Rattle.base.specs.Limits.{time_limit}
use Rattle.buckets.proofs.Told.{buckets_some}
use Rattle.policy.specs.declared.DelayPolicy.{DelayPolicy}
use Rattle.rules_window.specs.Window.{fresh, pushed_all}
use Rattle.rules_record.specs.Lent.{buckets_for}
use Rattle.rules_window.specs.Checks.{room_for}
use Rattle.delay_hold.specs.Step4Peaks.{worst_of}
use Rattle.delay_hold.proofs.Later.{HoldTill, hold_later, next_till}
use Rattle.delay_hold.proofs.Marks.{fresh_till, seeded_till, interrupted_till}
use Rattle.rules_tick.specs.AutoDelay.{p999_of}
use Rattle.history.specs.View.{Rules, InputView, ticked_view, rules_with}
use Rattle.history.specs.Events.{Event, ticks, rests, seeds, clears, sets, fresh_view, after, time_of, Room}
use Rattle.history.specs.Stretch.{Allowed}
use Rattle.history.specs.Whole.{Kept}
use Rattle.history.proofs.Seconds.{StartsTill}
use Rattle.history.proofs.Windows.{till_all}
use Rattle.history.proofs.Kept.{kept_ready, kept_peaks}

-- no time of the input is past t
pub record Sane (t : ℕ) (view : InputView) : Type 0 where
  pub starts : StartsTill t view.window
  pub hold : HoldTill t view.held

pub sane_later : {s t : ℕ} (view : InputView) → s ≤ t → Sane s view → Sane t view
sane_later {s} {t} view h k = record { starts = λ r l. omega (arith, k.starts r l); hold = hold_later s t view.held h k.hold }

pub sane_fresh : (policy : DelayPolicy) (width t : ℕ) → Sane t (fresh_view policy width)
unfolding fresh_view fresh
sane_fresh policy width t =
    record {
      starts = λ r l. absurd (omega arith);
      hold = fresh_till t (replicate 600 0) (replicate 600 0);
    }

module _ (policy : DelayPolicy) (width : ℕ) (allowed : Allowed policy width) (millisecond : ℕ) where
  abbrev rules : Rules
  rules = rules_with policy millisecond

  module _
      (time : ℕ) (soon : time ≤ time_limit) (lags : List ℕ) (may_lower : Bool)
      (view : InputView) (k : Kept policy width view) (room : room_for time (length lags) view.window ≡ true) (s : Sane time view)
    where
      starts_pushed : StartsTill time (pushed_all time lags view.window)
      starts_pushed =
          till_all width (buckets_for policy width) time allowed.width_least (omega (arith, buckets_some policy.read_offset policy.delay_max width)) soon
          lags view.window (kept_ready policy width allowed view k time (length lags) room) s.starts

      sane_ticked : Sane time (ticked_view rules view (record { time = time; lags = lags; may_lower = may_lower }))
      unfolding ticked_view
      sane_ticked =
          record {
            starts = starts_pushed;
            hold =
                next_till millisecond may_lower policy view.held (p999_of policy (pushed_all time lags view.window)) (worst_of lags) view.delay time
                (kept_peaks policy width allowed view k) k.times_long k.lags_long time (omega arith) s.hold;
          }

      sane_rested : (stalled : Bool) → Sane time (after rules view (rests stalled (record { time = time; lags = lags; may_lower = may_lower })))
      unfolding after
      sane_rested true = record { starts = starts_pushed; hold = interrupted_till time time view.held s.hold }
      sane_rested false = record { starts = starts_pushed; hold = s.hold }

  pub sane_after :
      (before : ℕ) (view : InputView) (event : Event) → before ≤ time_of event → time_of event ≤ time_limit → Room view event →
      Kept policy width view → Sane before view → Sane (time_of event) (after rules view event)
  unfolding after fresh
  sane_after before view (ticks tick) h soon room k s = sane_ticked tick.time soon tick.lags tick.may_lower view k room (sane_later view h s)
  sane_after before view (rests stalled tick) h soon room k s = sane_rested tick.time soon tick.lags tick.may_lower view k room (sane_later view h s) stalled
  sane_after before view (seeds time delay) h soon room k s =
      record { starts = (sane_later view h s).starts; hold = seeded_till before time view.held s.hold delay h }
  sane_after before view (clears time zeroed) h soon room k s =
      record {
        starts = λ r l. absurd (omega arith);
        hold = fresh_till time _ _;
      }
  sane_after before view (sets time delay) h soon room k s =
      let v = sane_later view h s in record { starts = v.starts; hold = v.hold }
