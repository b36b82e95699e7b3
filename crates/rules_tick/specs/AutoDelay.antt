-- Document 01, "Supervision": `auto_delay` of one input. Assumes nothing.
use Rattle.std.specs.Prelude.{ℕ, ◌+◌, Bool, ◌≡◌, leb, None, Option, Some}
use Rattle.base.specs.Choice.{pick, both}
use Rattle.base.specs.Limits.{nanos}
use Rattle.rules_window.specs.Quantile.{Quantile}
use Rattle.base.specs.Rows.{span_of}
use Rattle.rules_window.specs.Window.{Window}
use Rattle.rules_window.specs.Quantile.{quantile_upto, thousandths}
use Rattle.policy.specs.declared.DelayPolicy.{DelayPolicy}
use Rattle.delay_hold.specs.declared.Next.{Next}
use Rattle.delay_hold.specs.Steps5To8.{timer_off, with_lower}
use Rattle.delay_hold.specs.Next.{Decided, next_of, one_millisecond, always_lower}
use Rattle.rules_record.specs.declared.Slot.{Slot}
use Rattle.rules_record.specs.declared.Inputs.{Inputs}
use Rattle.rules_record.specs.Slots.{is_auto, with_hold, with_proposed, with_delay_changes}
use Rattle.rules_record.specs.States.{is_running, is_stalled}
use Rattle.rules_record.specs.Inputs.{slot_at, put_slot}
use Rattle.rules_record.specs.Commands.{Done, quiet}
use Rattle.rules_routing.specs.SetDelay.{set_delay_of}
use Rattle.rules_record.specs.Lent.{Lists, window_of, held_of, with_held}
use Rattle.rules_record.specs.Effects.{Effect, silent, beside}

-- "offset + maximum"
abbrev pub reach_of : DelayPolicy → ℕ
reach_of policy = policy.read_offset + policy.delay_max

-- a quantile, where there is one, as a lag
abbrev pub quantile_lag : Quantile → Option ℕ
quantile_lag (Quantile.End end) = Some end
quantile_lag Quantile.NoLags = None
quantile_lag (Quantile.Refused number) = None

-- "p999 is 0.999 up to offset + maximum where span is at least 1 s"
unfoldable pub p999_of : (policy : DelayPolicy) (w : Window) → Option ℕ
p999_of policy w = pick (leb nanos (span_of w.seconds w.starts)) (quantile_lag (quantile_upto (thousandths 999) (reach_of policy) w)) None

-- "current is the proposal or else the delay"
abbrev pub proposed_or : Option ℕ → (delay : ℕ) → ℕ
proposed_or None delay = delay
proposed_or (Some proposed) delay = proposed

abbrev pub current_of : Slot → ℕ
current_of slot = proposed_or slot.proposed slot.delay

-- what `next` decides for input i
unfoldable pub next_for : (i : ℕ) (largest : Option ℕ) (time : ℕ) (s : Inputs) (l : Lists) → Decided
next_for i largest time s l =
    next_of one_millisecond always_lower s.policy (held_of s l i) (p999_of s.policy (window_of s l i)) largest (current_of (slot_at s i)) time

-- the answer of `next` for input i, with the lists that it leaves
pub record Answered (i : ℕ) (d : Decided) (answer : Next) (l m : Lists) : Type 0 where
  pub change : answer.change ≡ d.change
  pub hold : answer.hold ≡ d.held.hold
  pub lists : m ≡ with_held i d.held l

-- "an answer becomes the proposal (confirmation on)"
abbrev pub proposing : (i delay : ℕ) (slot : Slot) (s : Inputs) → Inputs
proposing i delay slot s = put_slot s i (with_proposed slot (Some delay))

-- "or delay changes + 1"
abbrev pub changing : (i : ℕ) (slot : Slot) (s : Inputs) → Inputs
changing i slot s = put_slot s i (with_delay_changes slot (slot.delay_changes + 1))

-- ".. and `set_delay`": input i, whose slot this is now, carries the answer out
unfoldable pub answered : Option ℕ → (i time : ℕ) (slot : Slot) (s : Inputs) → Done
answered None i time slot s = quiet (put_slot s i slot)
answered (Some delay) i time slot s =
    pick s.confirm
    (quiet (proposing i delay slot s))
    (set_delay_of (changing i slot s) i delay time)

-- the hold is kept in the slot and in the lists, and the answer is carried out
unfoldable pub decided_for : (d : Decided) (i time : ℕ) (s : Inputs) (l : Lists) → Effect
decided_for d i time s l = beside (with_held i d.held l) (answered d.change i time (with_hold (slot_at s i) d.held.hold) s)

-- "Stalled turns the timer off"
abbrev pub interrupted : (i : ℕ) (s : Inputs) → Inputs
interrupted i s = put_slot s i (with_hold (slot_at s i) (with_lower (slot_at s i).hold timer_off))

-- "only automatic and Running go on"
unfoldable pub goes_on : Slot → Bool
goes_on slot = both (is_running slot.state) (is_auto slot.config.extra_delay)

unfoldable pub auto_delayed : (i : ℕ) (largest : Option ℕ) (time : ℕ) (s : Inputs) (l : Lists) → Effect
auto_delayed i largest time s l =
    pick (is_stalled (slot_at s i).state)
    (silent (interrupted i s) l)
    (pick (goes_on (slot_at s i)) (decided_for (next_for i largest time s l) i time s l) (silent s l))
