-- A slot or a record with one part changed has that part, and with the part that it had it is what it was. Assumes nothing.
use Rattle.std.specs.Prelude.{◌≡◌, ℕ, Bool, List, Option, Some}
use mathlib.Core.Path.{refl, sym, ap}
use Rattle.delay_hold.specs.declared.DelayHold.{DelayHold}
use Rattle.rules_record.specs.declared.InputConfig.{InputConfig}
use Rattle.rules_record.specs.declared.State.{State}
use Rattle.rules_record.specs.declared.Slot.{Slot}
use Rattle.rules_record.specs.declared.FlowEntry.{FlowEntry}
use Rattle.rules_record.specs.declared.Instance.{Instance}
use Rattle.rules_record.specs.declared.Inputs.{Inputs}
use Rattle.rules_record.specs.Slots.{with_config, with_state, with_route, with_inode, with_head, with_reopens, with_lag_seconds, with_last_lag, with_delay, with_proposed, with_hold, with_delay_changes, with_late, with_last_input}
use Rattle.rules_record.specs.Inputs.{with_slots, with_flows, with_instances}
use Rattle.rules_record.specs.declared.Route.{Route}

-- ---- a slot
module _ (slot : Slot) where
  pub config_alone : (config : InputConfig) → ((with_config slot config).config ≡ config) × (with_config slot slot.config ≡ slot)
  config_alone config = (refl, refl)

  pub state_alone : (state : State) → ((with_state slot state).state ≡ state) × (with_state slot slot.state ≡ slot)
  state_alone state = (refl, refl)

  pub route_alone : (route : Option Route) → ((with_route slot route).route ≡ route) × (with_route slot slot.route ≡ slot)
  route_alone route = (refl, refl)

  pub inode_alone : (inode : Option ℕ) → ((with_inode slot inode).inode ≡ inode) × (with_inode slot slot.inode ≡ slot)
  inode_alone inode = (refl, refl)

  pub head_alone : (head time : ℕ) → ((with_head slot head time).last_head ≡ head) × ((with_head slot head time).head_changed ≡ time) × (with_head slot slot.last_head slot.head_changed ≡ slot)
  head_alone head time = (refl, refl, refl)

  pub reopens_alone : (reopens : ℕ) → ((with_reopens slot reopens).reopens ≡ reopens) × (with_reopens slot slot.reopens ≡ slot)
  reopens_alone reopens = (refl, refl)

  pub seconds_alone : (seconds : ℕ) → ((with_lag_seconds slot seconds).lag_seconds ≡ seconds) × (with_lag_seconds slot slot.lag_seconds ≡ slot)
  seconds_alone seconds = (refl, refl)

  pub lag_alone : (lag : ℕ) → ((with_last_lag slot lag).last_lag ≡ lag) × (with_last_lag slot slot.last_lag ≡ slot)
  lag_alone lag = (refl, refl)

  -- the delay, with the time at which it was set
  pub delay_alone : (delay time : ℕ) → ((with_delay slot delay time).delay ≡ delay) × ((with_delay slot delay time).last_set ≡ Some time)
  delay_alone delay time = (refl, refl)

  pub same_delay_again : (time : ℕ) → slot.last_set ≡ Some time → with_delay slot slot.delay time ≡ slot
  same_delay_again time e = ap (λ (set : Option ℕ). again set) (sym e)
    where
      again : Option ℕ → Slot
      again set = record {
        config = slot.config;
        state = slot.state;
        route = slot.route;
        inode = slot.inode;
        last_head = slot.last_head;
        head_changed = slot.head_changed;
        reopens = slot.reopens;
        lag_seconds = slot.lag_seconds;
        last_lag = slot.last_lag;
        delay = slot.delay;
        proposed = slot.proposed;
        hold = slot.hold;
        delay_changes = slot.delay_changes;
        late_events = slot.late_events;
        late_before = slot.late_before;
        last_set = set;
        last_input = slot.last_input;
      }

  pub proposal_alone : (proposed : Option ℕ) → ((with_proposed slot proposed).proposed ≡ proposed) × (with_proposed slot slot.proposed ≡ slot)
  proposal_alone proposed = (refl, refl)

  pub hold_alone : (hold : DelayHold) → ((with_hold slot hold).hold ≡ hold) × (with_hold slot slot.hold ≡ slot)
  hold_alone hold = (refl, refl)

  pub changes_alone : (changes : ℕ) → ((with_delay_changes slot changes).delay_changes ≡ changes) × (with_delay_changes slot slot.delay_changes ≡ slot)
  changes_alone changes = (refl, refl)

  pub late_alone : (events : ℕ) (before : Bool) → ((with_late slot events before).late_events ≡ events) × ((with_late slot events before).late_before ≡ before) × (with_late slot slot.late_events slot.late_before ≡ slot)
  late_alone events before = (refl, refl, refl)

  -- the time of a SetInput
  pub input_alone : (time : ℕ) → (with_last_input slot time).last_input ≡ Some time
  input_alone time = refl

  pub same_input_again : (time : ℕ) → slot.last_input ≡ Some time → with_last_input slot time ≡ slot
  same_input_again time e = ap (λ (opened : Option ℕ). again opened) (sym e)
    where
      again : Option ℕ → Slot
      again opened = record {
        config = slot.config;
        state = slot.state;
        route = slot.route;
        inode = slot.inode;
        last_head = slot.last_head;
        head_changed = slot.head_changed;
        reopens = slot.reopens;
        lag_seconds = slot.lag_seconds;
        last_lag = slot.last_lag;
        delay = slot.delay;
        proposed = slot.proposed;
        hold = slot.hold;
        delay_changes = slot.delay_changes;
        late_events = slot.late_events;
        late_before = slot.late_before;
        last_set = slot.last_set;
        last_input = opened;
      }

-- ---- a record
module _ (s : Inputs) where
  pub slots_alone : (slots : List Slot) → ((with_slots s slots).slots ≡ slots) × (with_slots s s.slots ≡ s)
  slots_alone slots = (refl, refl)

  pub flows_alone : (flows : List FlowEntry) (count : ℕ) (unsaved : Bool) → ((with_flows s flows count unsaved).flows ≡ flows) × ((with_flows s flows count unsaved).flow_count ≡ count) × ((with_flows s flows count unsaved).unsaved ≡ unsaved) × (with_flows s s.flows s.flow_count s.unsaved ≡ s)
  flows_alone flows count unsaved = (refl, refl, refl, refl)

  pub instances_alone : (instances : List Instance) (count : ℕ) → ((with_instances s instances count).instances ≡ instances) × ((with_instances s instances count).instance_count ≡ count) × (with_instances s s.instances s.instance_count ≡ s)
  instances_alone instances count = (refl, refl, refl)
