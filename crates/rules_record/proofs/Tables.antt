-- The flow table or the instance table changed: a record that was checked stays so. Assumes nothing.
use Rattle.std.specs.Prelude.{◌≡◌, ℕ, ◌+◌, ◌<◌, ◌≤◌, Bool, true, ltb, List, length, set, None, Option, Some}
use mathlib.Core.Path.{sym, ap, subst, ◌∙◌}
use native.Mathlib.Omega.{arith}
use lib.Seq.{get_or-set_other}
use borrow.Author.Tests.{lt-ltb, ltb-true}
use Rattle.base.specs.Choice.{pick}
use Rattle.base.proofs.Choices.{lt_rule, pick_rule}
use Rattle.base.proofs.Points.{both_true, true_both}
use Rattle.rules_record.specs.declared.Flow.{Flow}
use Rattle.rules_record.specs.declared.State.{State}
use Rattle.rules_record.specs.declared.Slot.{Slot}
use Rattle.rules_record.specs.declared.FlowEntry.{FlowEntry}
use Rattle.rules_record.specs.declared.Inputs.{Inputs}
use Rattle.rules_record.specs.Slots.{is_auto}
use Rattle.rules_record.specs.Inputs.{slot_at, with_flows}
use Rattle.rules_record.specs.Flows.{empty_entry, entry_at, flow_at, known, place_below, flow_place, distinct_flows, added, enrolled_at, enrolled, recalled, remembered, remembered_by, remembered_for}
use Rattle.rules_record.proofs.FlowTable.{enrolled_within, enrolled_more, enrolled_distinct, enrolled_rest, enrolled_sized, remember_other, remember_rest, remember_flow, remember_distinct, remember_sized}
use Rattle.rules_record.specs.Instances as keys
use Rattle.rules_record.specs.Instances.{key_at, key_below, distinct_keys}
use Rattle.rules_record.specs.Lent.{Lists, buckets_in}
use Rattle.rules_record.specs.WholePlaces.{route_fits}
use Rattle.rules_record.specs.Facts.{WholeSlot, WholeInput, WholeFlows, WholeInstances, Checked}
use Rattle.rules_record.specs.declared.Route.{Route}

-- ---- more flows known
route_more : (to : Option Route) (state : State) (n m : ℕ) → n ≤ m → route_fits to state n ≡ true → route_fits to state m ≡ true
unfolding route_fits
route_more None state n m h fits = fits
route_more (Some route) state n m h fits =
    let t = both_true (ltb route.flow n) _ fits in
    let low : route.flow < n = ltb-true _ _ t.0 in
    true_both (ltb route.flow m) _ (lt-ltb route.flow m (omega arith)) t.1

pub slot_more : (maximum n m : ℕ) (slot : Slot) → n ≤ m → WholeSlot maximum n slot → WholeSlot maximum m slot
slot_more maximum n m slot h w = record {
  delay = w.delay;
  proposed = w.proposed;
  route = route_more slot.route slot.state n m h w.route;
  reopens = w.reopens;
  changes = w.changes;
  lates = w.lates;
  head = w.head;
  set = w.set;
  opened = w.opened;
}

-- an entry is stored elsewhere
entry_other : (s : Inputs) (j place : ℕ) (entry : FlowEntry) (n : ℕ) (unsaved : Bool) → (j ≡ place → ⊥) → entry_at (with_flows s (set s.flows place entry) n unsaved) j ≡ entry_at s j
unfolding entry_at
entry_other s j place entry n unsaved apart = ap (λ (x : FlowEntry). pick (ltb j 64) x empty_entry) (get_or-set_other s.flows place j entry empty_entry apart)

-- ---- the flow table
module _ (s : Inputs) (l : Lists) (c : Checked s l) where
  module _ (flows : List FlowEntry) (n : ℕ) (unsaved : Bool) (more : s.flow_count ≤ n) where
    abbrev after : Inputs
    after = with_flows s flows n unsaved

    same_inputs : (i : ℕ) → i < s.count → WholeInput after l i
    unfolding slot_at buckets_in
    same_inputs i h =
        let w : WholeInput s l i = c.whole.inputs i h in
        record { window = w.window; sums = w.sums; hold = w.hold; slot = slot_more s.policy.delay_max s.flow_count n (slot_at s i) more w.slot }

    more_instances : WholeInstances after
    unfolding key_at distinct_keys key_below keys.keys_held
    more_instances = record {
      most = c.whole.instances.most;
      distinct = c.whole.instances.distinct;
      known = λ place h. omega (arith, c.whole.instances.known place h);
      unused = c.whole.instances.unused;
    }

    -- the table is replaced by a whole one with no fewer flows
    pub flows_keep : length flows ≡ 64 → WholeFlows after → Checked after l
    unfolding slot_at buckets_in
    flows_keep long whole = record {
      fitting = record { allowed = c.fitting.allowed; long = c.fitting.long };
      sized = record { slots = c.sized.slots; flows = long; instances = c.sized.instances };
      whole = record { inputs = same_inputs; unused = c.whole.unused; flows = whole; instances = more_instances };
    }

  -- the unsaved mark does not matter
  pub mark_keeps : (unsaved : Bool) → Checked (with_flows s s.flows s.flow_count unsaved) l
  unfolding distinct_flows known flow_at entry_at place_below
  mark_keeps unsaved =
      flows_keep s.flows s.flow_count unsaved (omega arith) c.sized.flows
      (record { most = c.whole.flows.most; distinct = c.whole.flows.distinct; unused = c.whole.flows.unused })

  -- ---- a flow is enrolled
  module _ (flow : Flow) where
    new_unused : (place : ℕ) → (enrolled s flow).flow_count ≤ place → entry_at (enrolled s flow) place ≡ empty_entry
    unfolding enrolled enrolled_at
    new_unused place =
        lt_rule (flow_place s flow) s.flow_count _ _ (λ z. z.flow_count ≤ place → entry_at z place ≡ empty_entry) (λ k h. c.whole.flows.unused place h)
        (λ k. lt_rule (flow_place s flow) 64 _ _ (λ z. z.flow_count ≤ place → entry_at z place ≡ empty_entry) (λ m h. beyond k h) (λ m h. c.whole.flows.unused place h))
      where
        beyond : s.flow_count ≤ flow_place s flow → flow_place s flow + 1 ≤ place → entry_at (added (flow_place s flow) s flow) place ≡ empty_entry
        beyond k h = entry_other s place (flow_place s flow) _ _ _ (λ e. omega arith) ∙ c.whole.flows.unused place (omega arith)

    pub enrol_keeps : Checked (enrolled s flow) l
    enrol_keeps =
        subst (λ (z : Inputs). Checked z l) (sym (enrolled_rest s flow))
        (flows_keep (enrolled s flow).flows (enrolled s flow).flow_count s.unsaved (enrolled_more s flow c.whole.flows.most) (enrolled_sized s flow c.sized).flows
        (subst WholeFlows (enrolled_rest s flow)
        (record {
          most = enrolled_within s flow c.whole.flows.most;
          distinct = enrolled_distinct s flow c.whole.flows.most c.sized c.whole.flows.distinct;
          unused = new_unused;
        })))

  -- ---- a delay is remembered for a known flow
  module _ (place delay : ℕ) (h : place < s.flow_count) where
    still_unused : (j : ℕ) → s.flow_count ≤ j → entry_at (remembered s place delay) j ≡ empty_entry
    unfolding flow_at recalled
    still_unused j k = (λ t. record { flow = remember_flow s place delay c.sized j t; remembered = remember_other s place delay j (λ e. omega arith) t }) ∙ c.whole.flows.unused j k

    pub remember_keeps : Checked (remembered s place delay) l
    remember_keeps =
        subst (λ (z : Inputs). Checked z l) (sym (remember_rest s place delay))
        (flows_keep (remembered s place delay).flows s.flow_count (remembered s place delay).unsaved (omega arith) (remember_sized s place delay c.sized).flows
        (subst WholeFlows (remember_rest s place delay)
        (record {
          most = omega (arith, c.whole.flows.most, ap (λ (z : Inputs). z.flow_count) (remember_rest s place delay));
          distinct = remember_distinct s place delay c.sized ∙ c.whole.flows.distinct;
          unused = λ j k. still_unused j (omega (arith, ap (λ (z : Inputs). z.flow_count) (remember_rest s place delay)));
        })))

  -- .. for the flow of a whole slot
  pub remember_for_keeps : (slot : Slot) (delay : ℕ) → WholeSlot s.policy.delay_max s.flow_count slot → Checked (remembered_for s slot delay) l
  unfolding remembered_for remembered_by route_fits
  remember_for_keeps slot delay w = by slot.route w.route
    where
      by : (to : Option Route) → route_fits to slot.state s.flow_count ≡ true → Checked (remembered_by to (is_auto slot.config.extra_delay) s delay) l
      by None fits = c
      by (Some route) fits =
          let low : route.flow < s.flow_count = ltb-true _ _ (both_true (ltb route.flow s.flow_count) _ fits).0 in
          pick_rule (λ (z : Inputs). Checked z l) (is_auto slot.config.extra_delay) (remembered s route.flow delay) s (λ e. remember_keeps route.flow delay low) (λ e. c)
