-- Document 01, "Supervision": "`status` is given applied delay and channels. For an input it shows ..", in that order. Assumes nothing.
use Rattle.std.specs.Prelude.{Result, Ok, Err, ℕ, ◌+◌, ◌*◌, false, List, pos, Float, take, None, Option, Some}
use Rattle.std.specs.Float.{fin}
use Rattle.base.specs.Choice.{pick, accepted}
use Rattle.base.specs.Lists.{part}
use Rattle.doubles.specs.Doubles.{ms_of}
use Rattle.rules_window.specs.Quantile.{Quantile}
use Rattle.rules_window.specs.Window.{Window}
use Rattle.rules_window.specs.Quantile.{quantile_of, thousandths}
use Rattle.delay_hold.specs.Step4Peaks.{worst_of}
use Rattle.rules_record.specs.declared.AutoTag.TheVariants as AutoTag
use Rattle.rules_record.specs.declared.ExtraDelay.{ExtraDelay}
use Rattle.rules_record.specs.declared.ExtraDelay.TheVariants.{Auto}
use Rattle.rules_record.specs.declared.State.{State}
use Rattle.rules_record.specs.declared.Slot.{Slot}
use Rattle.rules_record.specs.declared.Inputs.{Inputs}
use Rattle.rules_record.specs.Slots.{is_auto}
use Rattle.rules_record.specs.States.{state_number, is_unrouted}
use Rattle.rules_record.specs.Inputs.{slot_at}
use Rattle.rules_record.specs.Flows.{flow_at}
use Rattle.rules_record.specs.Lent.{Lists, window_for}
use Rattle.rules_calls.specs.declared.InputStatus.{InputStatus}
use Rattle.refusals.specs.declared.Refusal.{Refusal}
use Rattle.refusals.specs.Numbers as refusals
use Rattle.rules_calls.specs.StatusChecks.{status_number}
use Rattle.rules_calls.specs.declared.ArrivalLag.{ArrivalLag}
use Rattle.rules_calls.specs.declared.Source.{Source}
use Rattle.rules_record.specs.declared.Route.{Route}

-- "flow, domain": those of the route, or none
abbrev pub source_of : (s : Inputs) → Option Route → Option Source
source_of s None = None
source_of s (Some route) = Some (record { flow = flow_at s route.flow; domain = route.domain })

-- "channels (0 if Unrouted)"
unfoldable pub channels_shown : (state : State) (channels : ℕ) → ℕ
channels_shown state channels = pick (is_unrouted state) 0 channels

-- "`ms` .. of the proposal"
abbrev pub proposed_ms : Option ℕ → Option Float
proposed_ms None = None
proposed_ms (Some delay) = Some (ms_of delay)

-- "of the quantiles 0.5, 0.99 and 0.999 .. (all three or none)"
abbrev pub arrival_by : (p50 p99 : ℕ) → Quantile → Option ArrivalLag
arrival_by p50 p99 (Quantile.End p999) = Some (record { p50 = ms_of p50; p99 = ms_of p99; p999 = ms_of p999 })
arrival_by p50 p99 Quantile.NoLags = None
arrival_by p50 p99 (Quantile.Refused number) = None

abbrev pub arrival_with : (p50 : ℕ) → Quantile → (highest : Quantile) → Option ArrivalLag
arrival_with p50 (Quantile.End p99) highest = arrival_by p50 p99 highest
arrival_with p50 Quantile.NoLags highest = None
arrival_with p50 (Quantile.Refused number) highest = None

abbrev pub arrival_of : Quantile → (high highest : Quantile) → Option ArrivalLag
arrival_of (Quantile.End p50) high highest = arrival_with p50 high highest
arrival_of Quantile.NoLags high highest = None
arrival_of (Quantile.Refused number) high highest = None

-- "without limit"
unfoldable pub arrival_in : Window → Option ArrivalLag
arrival_in w = arrival_of (quantile_of (thousandths 500) w) (quantile_of (thousandths 990) w) (quantile_of (thousandths 999) w)

-- "of the greatest peak if automatic"; the peaks stand first in the input's 600 lags
abbrev pub lag_in_ms : Option ℕ → Option Float
lag_in_ms None = None
lag_in_ms (Some lag) = Some (ms_of lag)

unfoldable pub worst_ms : (slot : Slot) (lags : List ℕ) → Option Float
worst_ms slot lags = pick (is_auto slot.config.extra_delay) (lag_in_ms (worst_of (take slot.hold.peaks lags))) None

-- the status of one input as the papers have it, its state by its number; an accepted call has number 0, a refused one the number of its check and a zero value
pub record StatusReply : Type 0 where
  pub number : ℕ
  pub state : ℕ
  pub source : Option Source
  pub channels : ℕ
  pub extra_delay : ExtraDelay
  pub extra_delay_ms : Float
  pub effective_delay_ms : Float
  pub proposed_delay_ms : Option Float
  pub lag_ms : Float
  pub arrival_lag_ms : Option ArrivalLag
  pub worst_lag_ms : Option Float
  pub delay_changes : ℕ
  pub late_events : ℕ
  pub reopens : ℕ

abbrev pub shown : InputStatus → StatusReply
shown status =
    record {
      number = 0;
      state = state_number status.state;
      source = status.source;
      channels = status.channels;
      extra_delay = status.extra_delay;
      extra_delay_ms = status.extra_delay_ms;
      effective_delay_ms = status.effective_delay_ms;
      proposed_delay_ms = status.proposed_delay_ms;
      lag_ms = status.lag_ms;
      arrival_lag_ms = status.arrival_lag_ms;
      worst_lag_ms = status.worst_lag_ms;
      delay_changes = status.delay_changes;
      late_events = status.late_events;
      reopens = status.reopens;
    }

-- the status of input i, whose slot this is
unfoldable pub status_for : (s : Inputs) (l : Lists) (i applied channels : ℕ) (slot : Slot) → StatusReply
status_for s l i applied channels slot =
    record {
      number = 0;
      state = state_number slot.state;
      source = source_of s slot.route;
      channels = channels_shown slot.state channels;
      extra_delay = slot.config.extra_delay;
      extra_delay_ms = ms_of applied;
      effective_delay_ms = ms_of (s.policy.read_offset + applied);
      proposed_delay_ms = proposed_ms slot.proposed;
      lag_ms = ms_of slot.last_lag;
      arrival_lag_ms = arrival_in (window_for s l i slot);
      worst_lag_ms = worst_ms slot (part (i * 600) 600 l.peaks);
      delay_changes = slot.delay_changes;
      late_events = slot.late_events;
      reopens = slot.reopens;
    }

abbrev pub status_of : (s : Inputs) (l : Lists) (i applied channels : ℕ) → StatusReply
status_of s l i applied channels = status_for s l i applied channels (slot_at s i)

-- a refusal: the number, and every value zero or none
abbrev pub no_ms : Float
no_ms = fin false 0 (pos 0)

unfoldable pub no_status : ℕ → StatusReply
no_status number =
    record {
      number = number;
      state = 0;
      source = None;
      channels = 0;
      extra_delay = Auto AutoTag.Auto;
      extra_delay_ms = no_ms;
      effective_delay_ms = no_ms;
      proposed_delay_ms = None;
      lag_ms = no_ms;
      arrival_lag_ms = None;
      worst_lag_ms = None;
      delay_changes = 0;
      late_events = 0;
      reopens = 0;
    }

abbrev pub status_by : (number : ℕ) (status : StatusReply) → StatusReply
status_by number status = accepted number (no_status number) status

-- .. of each case of what the call gives
abbrev pub told : Result InputStatus Refusal → StatusReply
told (Ok status) = shown status
told (Err refusal) = no_status (refusals.number_of refusal)

-- `status`
unfoldable pub status_reply : (s : Inputs) (l : Lists) (input applied channels : ℕ) → StatusReply
status_reply s l input applied channels = status_by (status_number s l input applied channels) (status_of s l input applied channels)
