-- What a step on one input leaves alone: settings, the other inputs, the flows; keys stay distinct and few. Assumes nothing.
use Rattle.std.specs.Prelude.{None, Option, Some}
use Prim.Native.Nat.{ℕ, ◌≤◌}
use mathlib.Core.Bool.{false}
use mathlib.Core.Path.{◌≡◌, refl, sym, ap, subst, ◌∙◌}
use Rattle.base.proofs.Choices.{pick_all, pick_rule}
use Rattle.rules_record.specs.declared.Slot.{Slot}
use Rattle.rules_record.specs.declared.Instance.{Instance}
use Rattle.rules_record.specs.declared.Inputs.{Inputs}
use Rattle.rules_record.specs.Slots.{with_delay}
use Rattle.rules_record.specs.Inputs.{slot_at, put_slot, with_slots, with_flows, with_instances}
use Rattle.rules_record.proofs.SlotFrame.{slot_other, put_rest}
use Rattle.rules_record.proofs.Sized.{sized_put}
use Rattle.rules_record.specs.Sized.{Sized}
use Rattle.rules_record.specs.Commands.{Done, quiet, send_first, changed}
use Rattle.rules_record.specs.Flows.{entry_at, flow_at, recalled}
use Rattle.rules_record.proofs.FlowTable.{for_flow}
use Rattle.rules_record.specs.Instances.{key_at, keys_held, found_key, made}
use Rattle.rules_record.specs.Prune.{pruned}
use Rattle.rules_record.proofs.InstanceKeys.{Distinct, made_rest, made_sized, made_distinct, pruned_rest, pruned_sized, pruned_distinct}
use Rattle.rules_record.proofs.FewInstances.{pruned_few}
use Rattle.rules_routing.specs.SetDelay.{delay_stored, set_delay_of}
use Rattle.rules_routing.proofs.SetDelayStored.{stored_rest, stored_other, stored_sized}
use Rattle.rules_routing.specs.declared.World.{World}
use Rattle.rules_routing.specs.TryOpen.{opened_slot, starts_anew, seeded_at, start_at, start_of, start_by, recall_of, open_with, open_reader, open_at, open_seen, open_routed, try_open_of}
use Rattle.rules_routing.proofs.TryOpenCases.{slot_pruned, slot_made}
use Rattle.rules_record.specs.declared.Route.{Route}

-- every flow keeps its place
stored_flow : (s : Inputs) (i delay time : ℕ) → Sized s → (place : ℕ) → flow_at (delay_stored s i delay time) place ≡ flow_at s place
unfolding delay_stored flow_at entry_at
stored_flow s i delay time h place =
    let slot : Slot = with_delay (slot_at s i) delay time in
    for_flow (put_slot s i slot) (slot_at s i) delay (sized_put s i slot h) place ∙ ap (λ (z : Inputs). flow_at z place) (put_rest s i slot)

-- z is what a step on input i leaves of s
pub record Frame (i : ℕ) (s z : Inputs) : Type 0 where
  pub count : z.count ≡ s.count
  pub policy : z.policy ≡ s.policy
  pub width : z.width ≡ s.width
  pub stall : z.stall ≡ s.stall
  pub confirm : z.confirm ≡ s.confirm
  pub flow_count_law : z.flow_count ≡ s.flow_count
  pub others : (j : ℕ) → (j ≡ i → ⊥) → slot_at z j ≡ slot_at s j
  pub sized : Sized s → Sized z
  pub flow : Sized s → (place : ℕ) → flow_at z place ≡ flow_at s place
  pub keys : Sized s → Distinct s → Distinct z
  pub few : Sized s → Distinct s → s.instance_count ≤ 17 → z.instance_count ≤ 17

module _ (i : ℕ) where
  pub frame_none : (s : Inputs) → Frame i s s
  frame_none s = record {
    count = refl;
    policy = refl;
    width = refl;
    stall = refl;
    confirm = refl;
    flow_count_law = refl;
    others = λ j apart. refl;
    sized = λ h. h;
    flow = λ h place. refl;
    keys = λ h d. d;
    few = λ h d l. l;
  }

  pub frame_then : {s m z : Inputs} → Frame i s m → Frame i m z → Frame i s z
  frame_then f g = record {
    count = g.count ∙ f.count;
    policy = g.policy ∙ f.policy;
    width = g.width ∙ f.width;
    stall = g.stall ∙ f.stall;
    confirm = g.confirm ∙ f.confirm;
    flow_count_law = g.flow_count_law ∙ f.flow_count_law;
    others = λ j apart. g.others j apart ∙ f.others j apart;
    sized = λ h. g.sized (f.sized h);
    flow = λ h place. g.flow (f.sized h) place ∙ f.flow h place;
    keys = λ h d. g.keys (f.sized h) (f.keys h d);
    few = λ h d l. g.few (f.sized h) (f.keys h d) (f.few h d l);
  }

  -- the slot of input i is written
  pub frame_put : (s : Inputs) (slot : Slot) → Frame i s (put_slot s i slot)
  unfolding flow_at entry_at Distinct keys_held key_at
  frame_put s slot =
      let e : put_slot s i slot ≡ with_slots s (put_slot s i slot).slots = put_rest s i slot in
      record {
        count = ap (λ (z : Inputs). z.count) e;
        policy = ap (λ (z : Inputs). z.policy) e;
        width = ap (λ (z : Inputs). z.width) e;
        stall = ap (λ (z : Inputs). z.stall) e;
        confirm = ap (λ (z : Inputs). z.confirm) e;
        flow_count_law = ap (λ (z : Inputs). z.flow_count) e;
        others = slot_other s i slot;
        sized = sized_put s i slot;
        flow = λ h place. ap (λ (z : Inputs). flow_at z place) e;
        keys = λ h d. subst Distinct (sym e) d;
        few = λ h d l. subst (λ (z : Inputs). z.instance_count ≤ 17) (sym e) l;
      }

  -- a delay is stored
  pub frame_stored : (s : Inputs) (delay time : ℕ) → Frame i s (delay_stored s i delay time)
  unfolding Distinct keys_held key_at
  frame_stored s delay time =
      let after : Inputs = delay_stored s i delay time in
      let e : after ≡ with_flows (with_slots s after.slots) after.flows s.flow_count after.unsaved = stored_rest s i delay time in
      record {
        count = ap (λ (z : Inputs). z.count) e;
        policy = ap (λ (z : Inputs). z.policy) e;
        width = ap (λ (z : Inputs). z.width) e;
        stall = ap (λ (z : Inputs). z.stall) e;
        confirm = ap (λ (z : Inputs). z.confirm) e;
        flow_count_law = ap (λ (z : Inputs). z.flow_count) e;
        others = stored_other s i delay time;
        sized = stored_sized s i delay time;
        flow = stored_flow s i delay time;
        keys = λ h d. subst Distinct (sym e) d;
        few = λ h d l. subst (λ (z : Inputs). z.instance_count ≤ 17) (sym e) l;
      }

  pub frame_pruned : (s : Inputs) (extra : Option Instance) → Frame i s (pruned s extra)
  unfolding flow_at entry_at
  frame_pruned s extra =
      let e : pruned s extra ≡ with_instances s (pruned s extra).instances (pruned s extra).instance_count = pruned_rest s extra in
      record {
        count = ap (λ (z : Inputs). z.count) e;
        policy = ap (λ (z : Inputs). z.policy) e;
        width = ap (λ (z : Inputs). z.width) e;
        stall = ap (λ (z : Inputs). z.stall) e;
        confirm = ap (λ (z : Inputs). z.confirm) e;
        flow_count_law = ap (λ (z : Inputs). z.flow_count) e;
        others = λ j apart. slot_pruned s extra j;
        sized = pruned_sized s extra;
        flow = λ h place. ap (λ (z : Inputs). flow_at z place) e;
        keys = λ h. pruned_distinct s extra;
        few = λ h d l. pruned_few s extra d;
      }

  -- a key that is not found is made, and the table is pruned at once
  pub frame_made : (s : Inputs) (key : Instance) (extra : Option Instance) → found_key s key ≡ false → Frame i s (pruned (made s key) extra)
  unfolding flow_at entry_at
  frame_made s key extra none =
      let more : Inputs = made s key in
      let e : more ≡ with_instances s more.instances more.instance_count = made_rest s key in
      let f : Frame i more (pruned more extra) = frame_pruned more extra in
      record {
        count = f.count ∙ ap (λ (z : Inputs). z.count) e;
        policy = f.policy ∙ ap (λ (z : Inputs). z.policy) e;
        width = f.width ∙ ap (λ (z : Inputs). z.width) e;
        stall = f.stall ∙ ap (λ (z : Inputs). z.stall) e;
        confirm = f.confirm ∙ ap (λ (z : Inputs). z.confirm) e;
        flow_count_law = f.flow_count_law ∙ ap (λ (z : Inputs). z.flow_count) e;
        others = λ j apart. f.others j apart ∙ slot_made s key j;
        sized = λ h. f.sized (made_sized s key h);
        flow = λ h place. f.flow (made_sized s key h) place ∙ ap (λ (z : Inputs). flow_at z place) e;
        keys = λ h d. f.keys (made_sized s key h) (made_distinct s key h none d);
        few = λ h d l. pruned_few more extra (made_distinct s key h none d);
      }

  -- ---- `try_open`
  abbrev pub Leaves : Inputs → Done → Type 0
  Leaves s done = Frame i s done.inputs

  pub leaves_quiet : (s : Inputs) → Leaves s (quiet s)
  unfolding quiet
  leaves_quiet s = frame_none s

  start_leaves : (delay : ℕ) (s : Inputs) (time : ℕ) → Leaves s (start_at delay s i time)
  unfolding start_at seeded_at changed set_delay_of send_first quiet
  start_leaves delay s time = frame_then (frame_stored s delay time) (frame_put (delay_stored s i delay time) _)

  by_leaves : (remembered : Option ℕ) (s : Inputs) (time : ℕ) → Leaves s (start_by remembered s i time)
  unfolding start_by start_of
  by_leaves None s time = leaves_quiet s
  by_leaves (Some last) s time = start_leaves _ s time

  reader_leaves : (reader : Option ℕ) (place inode : ℕ) (s : Inputs) (time : ℕ) (world : World) → Leaves s (open_reader reader place inode s i time world)
  unfolding open_reader open_with send_first recall_of
  reader_leaves None place inode s time world = leaves_quiet s
  reader_leaves (Some channels) place inode s time world =
      let after : Inputs = put_slot s i (opened_slot (slot_at s i) inode world.head time) in
      frame_then (frame_put s _) (pick_all (Leaves after) (starts_anew (slot_at s i)) (by_leaves (recalled after place) after time) (leaves_quiet after))

  at_leaves : (key : Instance) (s : Inputs) (time : ℕ) (world : World) → Leaves s (open_at key s i time world)
  unfolding open_at
  at_leaves key s time world =
      pick_rule (Leaves s) (found_key s key) _ _
      (λ e. frame_then (frame_pruned s (Some key)) (reader_leaves world.reader _ _ _ time world))
      (λ e. pick_all (Leaves s) world.made (frame_then (frame_made s key (Some key) e) (reader_leaves world.reader _ _ _ time world)) (leaves_quiet s))

  seen_leaves : (inode : Option ℕ) (place : ℕ) (s : Inputs) (time : ℕ) (world : World) → Leaves s (open_seen inode place s i time world)
  unfolding open_seen
  seen_leaves None place s time world = leaves_quiet s
  seen_leaves (Some inode) place s time world = at_leaves _ s time world

  routed_leaves : (to : Option Route) (s : Inputs) (time : ℕ) (world : World) → Leaves s (open_routed to s i time world)
  unfolding open_routed
  routed_leaves None s time world = leaves_quiet s
  routed_leaves (Some route) s time world = seen_leaves world.inode route.flow s time world

  pub open_leaves : (s : Inputs) (time : ℕ) (world : World) → Frame i s (try_open_of s i time world).inputs
  unfolding try_open_of
  open_leaves s time world = routed_leaves (slot_at s i).route s time world
