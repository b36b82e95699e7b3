-- The definitions of the flow table as the code comes to them. Assumes nothing.
use Rattle.std.specs.Prelude.{◌≡◌, ℕ, ◌+◌, ◌<◌, ◌≤◌, Bool, true, false, not, nat_eq, length, take, get_or, None, Option, Some}
use Rattle.std.specs.List.{list_any, position}
use Rattle.std.specs.Option.{unwrap_or, option_eq}
use Rattle.std.proofs.lemmas.List.{get_or-take, length-take-le, take-take}
use mathlib.Core.Path.{sym, ap, ap₂, ◌∙◌, refl}
use native.Mathlib.Omega.{arith}
use borrow.Author.Tests.{lt-ltb, le-ltb}
use Rattle.base.specs.Choice.{pick}
use Rattle.base.specs.First.{first}
use Rattle.base.specs.Lists.{all}
use Rattle.base.proofs.All.{all_more, all_stop, all_end}
use Rattle.base.proofs.Any.{any_cong}
use Rattle.base.proofs.First.{first_cong}
use Rattle.base.proofs.Choices.{yes_pick, no_pick}
use Rattle.rules_record.specs.contracts.FlowPartialEq.TheImpl as flow
use Rattle.rules_record.proofs.Derived.{flow_eq}
use Rattle.rules_record.proofs.Searched.{any_places, position_places, first_of_any}
use Rattle.rules_record.specs.declared.Flow.{Flow}
use Rattle.rules_record.specs.declared.FlowEntry.{FlowEntry}
use Rattle.rules_record.specs.declared.Route.{Route}
use Rattle.rules_record.specs.declared.Slot.{Slot}
use Rattle.rules_record.specs.declared.Inputs.{Inputs}
use Rattle.rules_record.specs.Slots.{is_auto}
use Rattle.rules_record.specs.Flows.{empty_entry, entry_at, same_flow, flow_at, known, place_below, flow_place, distinct_flows, new_at, added, enrolled_at, enrolled, recalled, kept, differs, marked, remembered, remembered_by, remembered_for}

module _ (s : Inputs) (place : ℕ) where
  pub entry_in : place < 64 → entry_at s place ≡ get_or s.flows place empty_entry
  unfolding entry_at
  entry_in h = yes_pick _ _ (lt-ltb _ _ h)

  pub entry_past : 64 ≤ place → entry_at s place ≡ empty_entry
  unfolding entry_at
  entry_past h = no_pick _ _ (le-ltb _ _ h)

-- the loops read the table alone: of its places the first that holds the flow
module _ (s : Inputs) where
  pub table_flow : (place : ℕ) → place < 64 → (get_or s.flows place empty_entry).flow ≡ flow_at s place
  unfolding flow_at
  table_flow place l = ap (λ (e : FlowEntry). e.flow) (sym (entry_in s place l))

  pub table_below : (flow : Flow) (n : ℕ) → n ≤ 64 → first (λ place. same_flow (get_or s.flows place empty_entry).flow flow) n ≡ place_below n s flow
  unfolding place_below
  table_below flow n h = first_cong _ _ n (λ k l. ap (λ (at : Flow). same_flow at flow) (table_flow k (omega arith)))

pub known_most : (s : Inputs) → known s ≤ 64
unfolding known
known_most s = omega arith

-- what the code's searches tell of the table
module _ (s : Inputs) (wide : length s.flows ≡ 64) {n : ℕ} (e : n ≡ known s) where
  few : n ≤ 64
  few = rw e (known_most s)

  pub found_flow : (sought : Flow) {r : Option ℕ} → r ≡ position (λ (entry : FlowEntry). (flow.eq-value).it entry.flow sought) (take n s.flows) → unwrap_or r n ≡ flow_place s sought
  unfolding flow_place
  found_flow sought h =
      position_places _ s.flows empty_entry n (rw wide few) h
      ∙ first_cong _ _ n (λ k l. flow_eq (get_or s.flows k empty_entry).flow sought)
      ∙ table_below s sought n few
      ∙ ap (λ (m : ℕ). place_below m s sought) e

  module _ {i : ℕ} (l : i < length (take n s.flows)) {r : Bool} (h : r ≡ list_any (λ (entry : FlowEntry). (flow.eq-value).it entry.flow (get_or (take n s.flows) i empty_entry).flow) (take i (take n s.flows))) where
    within : i < n
    within = rw (length-take-le n s.flows (rw wide few)) at l

    here : (get_or (take n s.flows) i empty_entry).flow ≡ flow_at s i
    here = ap (λ (entry : FlowEntry). entry.flow) (get_or-take n s.flows i empty_entry within) ∙ table_flow s i (omega (arith, few, within))

    told : new_at s i ≡ not r
    unfolding place_below
    told =
        first_of_any _ i
        ∙ ap not
        (sym
        (h
        ∙ ap (list_any (λ (entry : FlowEntry). (flow.eq-value).it entry.flow (get_or (take n s.flows) i empty_entry).flow)) (take-take i n s.flows (omega (arith, within)))
        ∙ any_places _ s.flows empty_entry i (rw wide (omega (arith, few, within)))
        ∙ any_cong _ _ i (λ k m. flow_eq (get_or s.flows k empty_entry).flow _ ∙ ap₂ same_flow (table_flow s k (omega (arith, few, within))) here)))

    pub told_new : r ≡ false → all (new_at s) i ≡ true → all (new_at s) (i + 1) ≡ true
    told_new g before = all_more _ _ before (told ∙ ap not g)

    pub told_twice : r ≡ true → false ≡ distinct_flows s
    unfolding distinct_flows
    told_twice g = all_stop _ _ i (rw (← e) within) (told ∙ ap not g)

  pub told_distinct : {i : ℕ} → all (new_at s) i ≡ true → i ≤ length (take n s.flows) → length (take n s.flows) ≤ i → true ≡ distinct_flows s
  unfolding distinct_flows
  told_distinct {i} h k l = all_end _ _ i h (rw (← e, ← length-take-le n s.flows (rw wide few)) k) (rw (← e, ← length-take-le n s.flows (rw wide few)) l)

module _ (s : Inputs) (flow : Flow) {place : ℕ} (e : place ≡ flow_place s flow) where
  by : enrolled s flow ≡ enrolled_at place s flow
  unfolding enrolled
  by = ap (λ (p : ℕ). enrolled_at p s flow) (sym e)

  pub enrol_known : place < s.flow_count → s ≡ enrolled s flow
  unfolding enrolled_at
  enrol_known h = sym (by ∙ yes_pick _ _ (lt-ltb _ _ h))

  module _ (h : s.flow_count ≤ place) where
    pub enrol_full : 64 ≤ place → s ≡ enrolled s flow
    unfolding enrolled_at
    enrol_full k = sym (by ∙ no_pick _ _ (le-ltb _ _ h) ∙ no_pick _ _ (le-ltb _ _ k))

    pub enrol_new : place < 64 → added place s flow ≡ enrolled s flow
    unfolding enrolled_at
    enrol_new k = sym (by ∙ no_pick _ _ (le-ltb _ _ h) ∙ yes_pick _ _ (lt-ltb _ _ k))

-- whether what was remembered is another delay, as std compares
unlike : (last : Option ℕ) (delay : ℕ) → not (option_eq nat_eq last (Some delay)) ≡ differs last delay
unlike None delay = refl
unlike (Some before) delay = refl

module _ (s : Inputs) (place delay : ℕ) {last : Option ℕ} {all : Inputs} {r : Bool} (e : last ≡ recalled s place) (f : all ≡ kept s place delay) (h : r ≡ not (option_eq nat_eq last (Some delay))) where
  test : differs (recalled s place) delay ≡ r
  test = ap (λ (x : Option ℕ). differs x delay) (sym e) ∙ sym (h ∙ unlike last delay)

  pub remember_other : r ≡ true → marked all ≡ remembered s place delay
  unfolding remembered
  remember_other g = ap marked f ∙ sym (yes_pick _ _ (test ∙ g))

  pub remember_same : r ≡ false → all ≡ remembered s place delay
  unfolding remembered
  remember_same g = f ∙ sym (no_pick _ _ (test ∙ g))

module _ (s : Inputs) (slot : Slot) (delay : ℕ) where
  pub for_nowhere : slot.route ≡ None → remembered_for s slot delay ≡ s
  unfolding remembered_for remembered_by
  for_nowhere e = ap (λ (x : Option Route). remembered_by x (is_auto slot.config.extra_delay) s delay) e

  module _ {route : Route} (e : slot.route ≡ Some route) where
    routed : remembered_for s slot delay ≡ pick (is_auto slot.config.extra_delay) (remembered s route.flow delay) s
    unfolding remembered_for remembered_by
    routed = ap (λ (x : Option Route). remembered_by x (is_auto slot.config.extra_delay) s delay) e

    pub for_automatic : is_auto slot.config.extra_delay ≡ true → remembered_for s slot delay ≡ remembered s route.flow delay
    for_automatic h = routed ∙ yes_pick _ _ h

-- a delay of an input that is not automatic is not remembered
pub unremembered : (route : Option Route) (automatic : Bool) (s : Inputs) (delay : ℕ) → automatic ≡ false → remembered_by route automatic s delay ≡ s
unfolding remembered_by
unremembered None automatic s delay e = refl
unremembered (Some route) automatic s delay e = ap (λ (b : Bool). remembered_by (Some route) b s delay) e

pub for_manual : (s : Inputs) (slot : Slot) (delay : ℕ) → is_auto slot.config.extra_delay ≡ false → remembered_for s slot delay ≡ s
unfolding remembered_for
for_manual s slot delay h = unremembered slot.route _ s delay h
