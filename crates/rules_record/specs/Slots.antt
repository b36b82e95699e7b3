-- One input: its empty slot, and a slot with one part changed. Assumes nothing.
use Rattle.std.specs.Prelude.{ℕ, Bool, true, false, None, Option, Some}
use Rattle.delay_hold.specs.declared.DelayHold.{DelayHold}
use Rattle.delay_hold.specs.Next.{fresh_hold}
use Rattle.rules_record.specs.declared.AutoTag.TheVariants as AutoTag
use Rattle.rules_record.specs.declared.ExtraDelay.{ExtraDelay}
use Rattle.rules_record.specs.declared.ExtraDelay.TheVariants.{Auto, Ms}
use Rattle.rules_record.specs.declared.InputConfig.{InputConfig}
use Rattle.rules_record.specs.declared.State.{State}
use Rattle.rules_record.specs.declared.State.TheVariants.{Unrouted}
use Rattle.rules_record.specs.declared.Slot.{Slot}
use Rattle.rules_record.specs.declared.Route.{Route}

-- "`ExtraDelay` is Auto with its tag, or Ms with a double"
abbrev pub is_auto : ExtraDelay → Bool
is_auto (Auto tag) = true
is_auto (Ms delay) = false

-- an unused place
unfoldable pub empty_slot : Slot
empty_slot = record {
  config = record { extra_delay = Auto AutoTag.Auto };
  state = Unrouted;
  route = None;
  inode = None;
  last_head = 0;
  head_changed = 0;
  reopens = 0;
  lag_seconds = 0;
  last_lag = 0;
  delay = 0;
  proposed = None;
  hold = fresh_hold;
  delay_changes = 0;
  late_events = 0;
  late_before = false;
  last_set = None;
  last_input = None;
}

abbrev pub with_config : (slot : Slot) (config : InputConfig) → Slot
with_config slot config = record {
  config = config;
  state = slot.state;
  route = slot.route;
  inode = slot.inode;
  last_head = slot.last_head;
  head_changed = slot.head_changed;
  reopens = slot.reopens;
  lag_seconds = slot.lag_seconds;
  last_lag = slot.last_lag;
  delay = slot.delay;
  proposed = slot.proposed;
  hold = slot.hold;
  delay_changes = slot.delay_changes;
  late_events = slot.late_events;
  late_before = slot.late_before;
  last_set = slot.last_set;
  last_input = slot.last_input;
}

abbrev pub with_state : (slot : Slot) (state : State) → Slot
with_state slot state = record {
  config = slot.config;
  state = state;
  route = slot.route;
  inode = slot.inode;
  last_head = slot.last_head;
  head_changed = slot.head_changed;
  reopens = slot.reopens;
  lag_seconds = slot.lag_seconds;
  last_lag = slot.last_lag;
  delay = slot.delay;
  proposed = slot.proposed;
  hold = slot.hold;
  delay_changes = slot.delay_changes;
  late_events = slot.late_events;
  late_before = slot.late_before;
  last_set = slot.last_set;
  last_input = slot.last_input;
}

abbrev pub with_route : (slot : Slot) (route : Option Route) → Slot
with_route slot route = record {
  config = slot.config;
  state = slot.state;
  route = route;
  inode = slot.inode;
  last_head = slot.last_head;
  head_changed = slot.head_changed;
  reopens = slot.reopens;
  lag_seconds = slot.lag_seconds;
  last_lag = slot.last_lag;
  delay = slot.delay;
  proposed = slot.proposed;
  hold = slot.hold;
  delay_changes = slot.delay_changes;
  late_events = slot.late_events;
  late_before = slot.late_before;
  last_set = slot.last_set;
  last_input = slot.last_input;
}

abbrev pub with_inode : (slot : Slot) (inode : Option ℕ) → Slot
with_inode slot inode = record {
  config = slot.config;
  state = slot.state;
  route = slot.route;
  inode = inode;
  last_head = slot.last_head;
  head_changed = slot.head_changed;
  reopens = slot.reopens;
  lag_seconds = slot.lag_seconds;
  last_lag = slot.last_lag;
  delay = slot.delay;
  proposed = slot.proposed;
  hold = slot.hold;
  delay_changes = slot.delay_changes;
  late_events = slot.late_events;
  late_before = slot.late_before;
  last_set = slot.last_set;
  last_input = slot.last_input;
}

abbrev pub with_head : (slot : Slot) (head time : ℕ) → Slot
with_head slot head time = record {
  config = slot.config;
  state = slot.state;
  route = slot.route;
  inode = slot.inode;
  last_head = head;
  head_changed = time;
  reopens = slot.reopens;
  lag_seconds = slot.lag_seconds;
  last_lag = slot.last_lag;
  delay = slot.delay;
  proposed = slot.proposed;
  hold = slot.hold;
  delay_changes = slot.delay_changes;
  late_events = slot.late_events;
  late_before = slot.late_before;
  last_set = slot.last_set;
  last_input = slot.last_input;
}

abbrev pub with_reopens : (slot : Slot) (reopens : ℕ) → Slot
with_reopens slot reopens = record {
  config = slot.config;
  state = slot.state;
  route = slot.route;
  inode = slot.inode;
  last_head = slot.last_head;
  head_changed = slot.head_changed;
  reopens = reopens;
  lag_seconds = slot.lag_seconds;
  last_lag = slot.last_lag;
  delay = slot.delay;
  proposed = slot.proposed;
  hold = slot.hold;
  delay_changes = slot.delay_changes;
  late_events = slot.late_events;
  late_before = slot.late_before;
  last_set = slot.last_set;
  last_input = slot.last_input;
}

abbrev pub with_lag_seconds : (slot : Slot) → ℕ → Slot
with_lag_seconds slot lag_seconds = record {
  config = slot.config;
  state = slot.state;
  route = slot.route;
  inode = slot.inode;
  last_head = slot.last_head;
  head_changed = slot.head_changed;
  reopens = slot.reopens;
  lag_seconds = lag_seconds;
  last_lag = slot.last_lag;
  delay = slot.delay;
  proposed = slot.proposed;
  hold = slot.hold;
  delay_changes = slot.delay_changes;
  late_events = slot.late_events;
  late_before = slot.late_before;
  last_set = slot.last_set;
  last_input = slot.last_input;
}

abbrev pub with_last_lag : (slot : Slot) → ℕ → Slot
with_last_lag slot last_lag = record {
  config = slot.config;
  state = slot.state;
  route = slot.route;
  inode = slot.inode;
  last_head = slot.last_head;
  head_changed = slot.head_changed;
  reopens = slot.reopens;
  lag_seconds = slot.lag_seconds;
  last_lag = last_lag;
  delay = slot.delay;
  proposed = slot.proposed;
  hold = slot.hold;
  delay_changes = slot.delay_changes;
  late_events = slot.late_events;
  late_before = slot.late_before;
  last_set = slot.last_set;
  last_input = slot.last_input;
}

abbrev pub with_delay : (slot : Slot) (delay time : ℕ) → Slot
with_delay slot delay time = record {
  config = slot.config;
  state = slot.state;
  route = slot.route;
  inode = slot.inode;
  last_head = slot.last_head;
  head_changed = slot.head_changed;
  reopens = slot.reopens;
  lag_seconds = slot.lag_seconds;
  last_lag = slot.last_lag;
  delay = delay;
  proposed = slot.proposed;
  hold = slot.hold;
  delay_changes = slot.delay_changes;
  late_events = slot.late_events;
  late_before = slot.late_before;
  last_set = Some time;
  last_input = slot.last_input;
}

abbrev pub with_proposed : (slot : Slot) (proposed : Option ℕ) → Slot
with_proposed slot proposed = record {
  config = slot.config;
  state = slot.state;
  route = slot.route;
  inode = slot.inode;
  last_head = slot.last_head;
  head_changed = slot.head_changed;
  reopens = slot.reopens;
  lag_seconds = slot.lag_seconds;
  last_lag = slot.last_lag;
  delay = slot.delay;
  proposed = proposed;
  hold = slot.hold;
  delay_changes = slot.delay_changes;
  late_events = slot.late_events;
  late_before = slot.late_before;
  last_set = slot.last_set;
  last_input = slot.last_input;
}

abbrev pub with_hold : (slot : Slot) (hold : DelayHold) → Slot
with_hold slot hold = record {
  config = slot.config;
  state = slot.state;
  route = slot.route;
  inode = slot.inode;
  last_head = slot.last_head;
  head_changed = slot.head_changed;
  reopens = slot.reopens;
  lag_seconds = slot.lag_seconds;
  last_lag = slot.last_lag;
  delay = slot.delay;
  proposed = slot.proposed;
  hold = hold;
  delay_changes = slot.delay_changes;
  late_events = slot.late_events;
  late_before = slot.late_before;
  last_set = slot.last_set;
  last_input = slot.last_input;
}

abbrev pub with_delay_changes : (slot : Slot) → ℕ → Slot
with_delay_changes slot delay_changes = record {
  config = slot.config;
  state = slot.state;
  route = slot.route;
  inode = slot.inode;
  last_head = slot.last_head;
  head_changed = slot.head_changed;
  reopens = slot.reopens;
  lag_seconds = slot.lag_seconds;
  last_lag = slot.last_lag;
  delay = slot.delay;
  proposed = slot.proposed;
  hold = slot.hold;
  delay_changes = delay_changes;
  late_events = slot.late_events;
  late_before = slot.late_before;
  last_set = slot.last_set;
  last_input = slot.last_input;
}

abbrev pub with_late : (slot : Slot) → ℕ → Bool → Slot
with_late slot late_events late_before = record {
  config = slot.config;
  state = slot.state;
  route = slot.route;
  inode = slot.inode;
  last_head = slot.last_head;
  head_changed = slot.head_changed;
  reopens = slot.reopens;
  lag_seconds = slot.lag_seconds;
  last_lag = slot.last_lag;
  delay = slot.delay;
  proposed = slot.proposed;
  hold = slot.hold;
  delay_changes = slot.delay_changes;
  late_events = late_events;
  late_before = late_before;
  last_set = slot.last_set;
  last_input = slot.last_input;
}

-- a SetInput went to the input at this time
abbrev pub with_last_input : (slot : Slot) (time : ℕ) → Slot
with_last_input slot time = record {
  config = slot.config;
  state = slot.state;
  route = slot.route;
  inode = slot.inode;
  last_head = slot.last_head;
  head_changed = slot.head_changed;
  reopens = slot.reopens;
  lag_seconds = slot.lag_seconds;
  last_lag = slot.last_lag;
  delay = slot.delay;
  proposed = slot.proposed;
  hold = slot.hold;
  delay_changes = slot.delay_changes;
  late_events = slot.late_events;
  late_before = slot.late_before;
  last_set = slot.last_set;
  last_input = Some time;
}
