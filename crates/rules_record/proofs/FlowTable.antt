-- What the flow table keeps: places are stable, flows stay distinct, what was enrolled is found, and a remembered delay concerns one flow. Assumes nothing.
use Rattle.std.specs.Prelude.{◌≡◌, ℕ, suc, ◌<◌, ◌≤◌, min, Bool, true, eqb, ltb, length, set, None, Option, Some}
use mathlib.Core.Path.{refl, sym, ap, ap₂, ◌∙◌}
use mathlib.Core.Logic.{⊎_elim}
use native.Mathlib.Nat.{eq-or-lt_of_le, le_of_suc-le-suc}
use native.Mathlib.Omega.{arith}
use lib.ListN.{length-set}
use lib.Seq.{get_or-set_same, get_or-set_other}
use borrow.Author.Tests.{eq-eqb, eqb-true, eqb-false, lt-ltb, le-ltb, ltb-true}
use Rattle.base.specs.Choice.{pick}
use Rattle.base.specs.Lists.{all}
use Rattle.base.proofs.Choices.{by_bool, by_le, lt_rule, pick_all, yes_pick, no_pick}
use Rattle.base.proofs.Points.{both_true, true_both, all_at, all_intro}
use Rattle.rules_record.specs.declared.Flow.{Flow}
use Rattle.rules_record.specs.declared.FlowEntry.{FlowEntry}
use Rattle.rules_record.specs.declared.Route.{Route}
use Rattle.rules_record.specs.declared.Slot.{Slot}
use Rattle.rules_record.specs.declared.Inputs.{Inputs}
use Rattle.base.specs.First.{first}
use Rattle.rules_record.specs.Slots.{is_auto}
use Rattle.rules_record.specs.Inputs.{slot_at, with_flows}
use Rattle.base.proofs.First.{first_at_most, first_holds, first_before, first_only, first_cong, first_distinct}
use Rattle.rules_record.specs.Sized.{Sized}
use Rattle.base.proofs.Tests.{not_both, all_cong}
use Rattle.rules_record.specs.Flows.{empty_entry, entry_at, same_flow, flow_at, holds_flow, known, place_below, flow_place, new_at, distinct_flows, admits, added, enrolled_at, enrolled, recalled, kept, differs, marked, remembered, remembered_by, remembered_for}
use Rattle.rules_record.proofs.FlowCases.{entry_in, entry_past}

-- ---- one flow
pub same_flow_law : (a b : Flow) → same_flow a b ≡ true → a ≡ b
unfolding same_flow
same_flow_law a b h =
    let e = both_true (eqb a.high b.high) (eqb a.low b.low) h in
    ap₂ (λ (x y : ℕ). record { high = x; low = y }) (eqb-true _ _ e.0) (eqb-true _ _ e.1)

pub flow_same : (a : Flow) → same_flow a a ≡ true
unfolding same_flow
flow_same a = true_both (eqb a.high a.high) (eqb a.low a.low) (eq-eqb a.high a.high refl) (eq-eqb a.low a.low refl)

-- ---- where a flow stands
module _ (s : Inputs) (flow : Flow) where
  pub place_most : flow_place s flow ≤ known s
  unfolding flow_place place_below
  place_most = first_at_most (holds_flow s flow) (known s)

  pub place_holds : flow_place s flow < known s → flow_at s (flow_place s flow) ≡ flow
  unfolding flow_place place_below
  place_holds l = same_flow_law _ _ (first_holds (holds_flow s flow) (known s) l)

  pub place_before : (place : ℕ) → place < flow_place s flow → flow_at s place ≡ flow → ⊥
  unfolding flow_place place_below
  place_before place l e = not_both (ap (λ (x : Flow). same_flow x flow) e ∙ flow_same flow) (first_before (holds_flow s flow) (known s) place l)

-- ---- distinct flows
pub distinct_places : (s : Inputs) → distinct_flows s ≡ true → (a b : ℕ) → a < known s → b < known s → flow_at s a ≡ flow_at s b → a ≡ b
unfolding distinct_flows place_below
distinct_places s h = first_distinct (flow_at s) same_flow flow_same (known s) h

-- a place is new by the flows up to it
new_cong : (s z : Inputs) (place : ℕ) → ((j : ℕ) → j ≤ place → flow_at z j ≡ flow_at s j) → new_at z place ≡ new_at s place
unfolding place_below
new_cong s z place f =
    ap (λ (r : ℕ). eqb r place)
    (first_cong _ _ place (λ j l. ap₂ same_flow (f j (omega arith)) (f place (omega arith))))

pub distinct_cong : (s z : Inputs) → known z ≡ known s → ((j : ℕ) → flow_at z j ≡ flow_at s j) → distinct_flows z ≡ distinct_flows s
unfolding distinct_flows
distinct_cong s z e f = ap (all (new_at z)) e ∙ all_cong (new_at z) (new_at s) (known s) (λ j l. new_cong s z j (λ k m. f k))

-- ---- one entry written
module _ (s : Inputs) (place : ℕ) (entry : FlowEntry) (n : ℕ) (unsaved : Bool) where
  abbrev after : Inputs
  after = with_flows s (set s.flows place entry) n unsaved

  entry_same : place < 64 → length s.flows ≡ 64 → entry_at after place ≡ entry
  entry_same l h = entry_in after place l ∙ get_or-set_same s.flows place entry empty_entry (rw h l)

  entry_other : (j : ℕ) → (j ≡ place → ⊥) → entry_at after j ≡ entry_at s j
  unfolding entry_at
  entry_other j apart = ap (λ (x : FlowEntry). pick (ltb j 64) x empty_entry) (get_or-set_other s.flows place j entry empty_entry apart)

-- ---- enrolling
module _ (s : Inputs) (flow : Flow) (within : s.flow_count ≤ 64) where
  known_count : known s ≡ s.flow_count
  unfolding known
  known_count = omega arith

  place_count : flow_place s flow ≤ s.flow_count
  place_count = omega (arith, place_most s flow, known_count)

  -- a flow is known, or takes the next place, or the table is full
  enrol_rule : (P : Inputs → Type 0) → (flow_place s flow < s.flow_count → P s) → (flow_place s flow ≡ s.flow_count → s.flow_count < 64 → P (added (flow_place s flow) s flow)) → (s.flow_count ≡ 64 → P s) → P (enrolled s flow)
  unfolding enrolled enrolled_at
  enrol_rule P f g k =
      lt_rule (flow_place s flow) s.flow_count _ _ P f
      (λ l. lt_rule (flow_place s flow) 64 _ _ P (λ m. g (omega (arith, place_count)) (omega (arith, place_count))) (λ m. k (omega (arith, place_count))))

  pub enrolled_within : (enrolled s flow).flow_count ≤ 64
  enrolled_within = enrol_rule (λ z. z.flow_count ≤ 64) (λ l. within) (λ e l. omega (arith, e)) (λ e. within)

  pub enrolled_more : s.flow_count ≤ (enrolled s flow).flow_count
  enrolled_more = enrol_rule (λ z. s.flow_count ≤ z.flow_count) (λ l. omega arith) (λ e l. omega (arith, e)) (λ e. omega arith)

  -- a flow never leaves its place, nor does its delay
  pub enrolled_stable : (place : ℕ) → place < s.flow_count → entry_at (enrolled s flow) place ≡ entry_at s place
  enrolled_stable place l = enrol_rule (λ z. entry_at z place ≡ entry_at s place) (λ k. refl) (λ e k. entry_other s (flow_place s flow) _ _ _ place (λ q. omega (arith, q, e))) (λ e. refl)

  -- the table with the flow at the next place
  module _ (h : Sized s) (e : flow_place s flow ≡ s.flow_count) (room : s.flow_count < 64) where
    abbrev more : Inputs
    more = added (flow_place s flow) s flow

    more_known : known more ≡ suc (known s)
    unfolding known
    more_known = omega (arith, e)

    more_here : flow_at more (flow_place s flow) ≡ flow
    unfolding flow_at
    more_here = ap (λ (x : FlowEntry). x.flow) (entry_same s (flow_place s flow) _ _ _ (omega (arith, e)) h.flows)

    more_before : (j : ℕ) → j < known s → flow_at more j ≡ flow_at s j
    unfolding flow_at
    more_before j l = ap (λ (x : FlowEntry). x.flow) (entry_other s (flow_place s flow) _ _ _ j (λ q. omega (arith, q, e, known_count)))

    -- the new flow stands nowhere before
    more_last : new_at more (known s) ≡ true
    unfolding place_below flow_place
    more_last =
        let at : flow_at more (known s) ≡ flow = ap (flow_at more) (known_count ∙ sym e) ∙ more_here in
        let same : first (holds_flow more (flow_at more (known s))) (known s) ≡ flow_place s flow = first_cong _ _ (known s) (λ j l. ap₂ same_flow (more_before j l) at) in
        eq-eqb _ _ (same ∙ e ∙ sym known_count)

    more_distinct : distinct_flows s ≡ true → distinct_flows more ≡ true
    unfolding distinct_flows
    more_distinct d = rw more_known (all_intro (new_at more) (suc (known s)) (λ j l. ⊎_elim (λ q. rw q more_last) (λ k. new_cong s more j (λ i m. more_before i (omega arith)) ∙ all_at (new_at s) (known s) d j k) (eq-or-lt_of_le (le_of_suc-le-suc l))))

    more_place : flow_place more flow ≡ flow_place s flow
    unfolding flow_place place_below
    more_place =
        first_only (holds_flow more flow) (known more) (flow_place s flow) (omega (arith, e, known_count, more_known))
        (ap (λ (x : Flow). same_flow x flow) more_here ∙ flow_same flow)
        (λ j l. ap (λ (x : Flow). same_flow x flow) (more_before j (omega (arith, e, known_count))) ∙ first_before (holds_flow s flow) (known s) j l)

  pub enrolled_distinct : Sized s → distinct_flows s ≡ true → distinct_flows (enrolled s flow) ≡ true
  enrolled_distinct h d = enrol_rule (λ z. distinct_flows z ≡ true) (λ l. d) (λ e l. more_distinct h e l d) (λ e. d)

  -- what was enrolled is found, at the place that was free
  module _ (h : Sized s) (admitted : admits s flow ≡ true) where
    room_or_known : s.flow_count ≡ 64 → flow_place s flow < s.flow_count
    unfolding admits
    room_or_known e = by_bool (ltb (flow_place s flow) s.flow_count) (λ h. ltb-true _ _ h) (λ h. absurd (not_both (sym (no_pick _ _ h) ∙ admitted) (le-ltb s.flow_count 64 (omega arith))))

    pub enrolled_place : flow_place (enrolled s flow) flow ≡ flow_place s flow
    enrolled_place = enrol_rule (λ z. flow_place z flow ≡ flow_place s flow) (λ l. refl) (λ e l. more_place h e l) (λ e. refl)

    pub enrolled_known : flow_place s flow < (enrolled s flow).flow_count
    enrolled_known = enrol_rule (λ z. flow_place s flow < z.flow_count) (λ l. l) (λ e l. omega arith) (λ e. room_or_known e)

    pub enrolled_holds : flow_at (enrolled s flow) (flow_place s flow) ≡ flow
    enrolled_holds = enrol_rule (λ z. flow_at z (flow_place s flow) ≡ flow) (λ l. place_holds s flow (omega (arith, known_count))) (λ e l. more_here h e l) (λ e. place_holds s flow (omega (arith, known_count, room_or_known e)))

-- only the flow table changes, and the unsaved mark stays
pub enrolled_rest : (s : Inputs) (flow : Flow) → enrolled s flow ≡ with_flows s (enrolled s flow).flows (enrolled s flow).flow_count s.unsaved
unfolding enrolled enrolled_at
enrolled_rest s flow =
    pick_all (λ (z : Inputs). z ≡ with_flows s z.flows z.flow_count s.unsaved) (ltb (flow_place s flow) s.flow_count) refl
    (pick_all (λ (z : Inputs). z ≡ with_flows s z.flows z.flow_count s.unsaved) (ltb (flow_place s flow) 64) refl refl)

pub enrolled_sized : (s : Inputs) (flow : Flow) → Sized s → Sized (enrolled s flow)
unfolding enrolled enrolled_at
enrolled_sized s flow h =
    pick_all Sized (ltb (flow_place s flow) s.flow_count) h
    (pick_all Sized (ltb (flow_place s flow) 64) (record { slots = h.slots; flows = length-set s.flows _ _ ∙ h.flows; instances = h.instances }) h)

-- ---- remembering
module _ (s : Inputs) (place delay : ℕ) where
  kept_rule : (P : Inputs → Type 0) → P (kept s place delay) → P (marked (kept s place delay)) → P (remembered s place delay)
  unfolding remembered
  kept_rule P p q = pick_all P (differs (recalled s place) delay) q p

  -- the place has the delay then, and its flow
  entry_kept : place < 64 → Sized s → entry_at (remembered s place delay) place ≡ record { flow = flow_at s place; remembered = Some delay }
  unfolding kept entry_at
  entry_kept l h =
      let here : entry_at (kept s place delay) place ≡ record { flow = flow_at s place; remembered = Some delay } =
      ap (λ (z : Inputs). entry_at z place) (yes_pick _ _ (lt-ltb _ _ l)) ∙ entry_same s place _ s.flow_count s.unsaved l h.flows in
      kept_rule (λ z. entry_at z place ≡ record { flow = flow_at s place; remembered = Some delay }) here here

  entry_left : (j : ℕ) → (j ≡ place → ⊥) → entry_at (remembered s place delay) j ≡ entry_at s j
  unfolding kept entry_at
  entry_left j apart =
      let there : entry_at (kept s place delay) j ≡ entry_at s j = pick_all (λ (z : Inputs). entry_at z j ≡ entry_at s j) (ltb place 64) (entry_other s place _ s.flow_count s.unsaved j apart) refl in
      kept_rule (λ z. entry_at z j ≡ entry_at s j) there there

  pub remember_same : place < 64 → Sized s → recalled (remembered s place delay) place ≡ Some delay
  unfolding recalled
  remember_same l h = ap (λ (x : FlowEntry). x.remembered) (entry_kept l h)

  -- another flow's delay stays
  pub remember_other : (j : ℕ) → (j ≡ place → ⊥) → recalled (remembered s place delay) j ≡ recalled s j
  unfolding recalled
  remember_other j apart = ap (λ (x : FlowEntry). x.remembered) (entry_left j apart)

  -- only the flow table changes
  pub remember_rest : remembered s place delay ≡ with_flows s (remembered s place delay).flows s.flow_count (remembered s place delay).unsaved
  unfolding kept
  remember_rest =
      let here : kept s place delay ≡ with_flows s (kept s place delay).flows s.flow_count (kept s place delay).unsaved =
      pick_all (λ (z : Inputs). z ≡ with_flows s z.flows s.flow_count z.unsaved) (ltb place 64) refl refl in
      kept_rule (λ z. z ≡ with_flows s z.flows s.flow_count z.unsaved) here (ap marked here)

  -- every flow stays at its place
  pub remember_flow : Sized s → (j : ℕ) → flow_at (remembered s place delay) j ≡ flow_at s j
  unfolding flow_at
  remember_flow h j =
      by_le 64 j
      (λ l. ap (λ (x : FlowEntry). x.flow) (entry_past (remembered s place delay) j l ∙ sym (entry_past s j l)))
      (λ l. by_bool (eqb j place) (λ e. at (eqb-true j place e) l) (λ e. ap (λ (x : FlowEntry). x.flow) (entry_left j (eqb-false j place e))))
    where
      at : j ≡ place → j < 64 → (entry_at (remembered s place delay) j).flow ≡ (entry_at s j).flow
      at e l = rw e (ap (λ (x : FlowEntry). x.flow) (entry_kept (rw (← e) l) h))

  pub remember_distinct : Sized s → distinct_flows (remembered s place delay) ≡ distinct_flows s
  unfolding known
  remember_distinct h = distinct_cong s (remembered s place delay) (ap (λ (z : Inputs). min z.flow_count 64) remember_rest) (remember_flow h)

  pub remember_sized : Sized s → Sized (remembered s place delay)
  unfolding kept
  remember_sized h =
      let here : Sized (kept s place delay) = pick_all Sized (ltb place 64) (record { slots = h.slots; flows = length-set s.flows _ _ ∙ h.flows; instances = h.instances }) h in
      kept_rule Sized here (record { slots = here.slots; flows = here.flows; instances = here.instances })

-- ---- remembering for an input
module _ (s : Inputs) (slot : Slot) (delay : ℕ) where
  for_rule : (P : Inputs → Type 0) → P s → ((route : Route) → P (remembered s route.flow delay)) → P (remembered_for s slot delay)
  unfolding remembered_for remembered_by
  for_rule P p q = go slot.route
    where
      go : (to : Option Route) → P (remembered_by to (is_auto slot.config.extra_delay) s delay)
      go None = p
      go (Some route) = pick_all P (is_auto slot.config.extra_delay) (q route) p

  pub for_rest : remembered_for s slot delay ≡ with_flows s (remembered_for s slot delay).flows s.flow_count (remembered_for s slot delay).unsaved
  for_rest = for_rule (λ z. z ≡ with_flows s z.flows s.flow_count z.unsaved) refl (λ route. remember_rest s route.flow delay)

  pub for_distinct : Sized s → distinct_flows (remembered_for s slot delay) ≡ distinct_flows s
  for_distinct h = for_rule (λ z. distinct_flows z ≡ distinct_flows s) refl (λ route. remember_distinct s route.flow delay h)

  pub for_sized : Sized s → Sized (remembered_for s slot delay)
  for_sized h = for_rule Sized h (λ route. remember_sized s route.flow delay h)

  -- every flow stays at its place
  pub for_flow : Sized s → (place : ℕ) → flow_at (remembered_for s slot delay) place ≡ flow_at s place
  for_flow h place = for_rule (λ z. flow_at z place ≡ flow_at s place) refl (λ route. remember_flow s route.flow delay h place)

  -- a slot stays
  pub for_slot : (i : ℕ) → slot_at (remembered_for s slot delay) i ≡ slot_at s i
  unfolding slot_at
  for_slot i = ap (λ (z : Inputs). slot_at z i) for_rest
