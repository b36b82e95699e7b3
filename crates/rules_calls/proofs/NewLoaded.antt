-- Loading delays: a flow named twice keeps the last, the record stays checked, and only the flow table changes, not its unsaved mark. Assumes nothing.
use Rattle.std.specs.Prelude.{Some}
use Prim.Native.Nat.{ℕ, zero, suc, ◌<◌}
use mathlib.Core.Bool.{Bool, true}
use mathlib.Core.Path.{◌≡◌, refl, sym, ap, subst, ◌∙◌}
use mathlib.Core.Logic.{⊎_elim}
use mathlib.Core.List.{List}
use native.Mathlib.Nat.{eq-or-lt_of_le, le_of_suc-le-suc}
use native.Mathlib.Omega.{arith}
use lib.Dec.{ltb}
use lib.ListN.{get_or}
use Rattle.base.proofs.Choices.{pick_all}
use Rattle.base.proofs.Points.{all_at}
use Rattle.rules_record.specs.declared.Flow.{Flow}
use Rattle.rules_record.specs.declared.FlowEntry.{FlowEntry}
use Rattle.rules_record.specs.declared.Inputs.{Inputs}
use Rattle.rules_record.specs.Inputs.{with_flows}
use Rattle.rules_record.specs.Sized.{Sized}
use Rattle.rules_record.specs.Flows.{entry_at, flow_at, admits, enrolled, flow_place, recalled, kept, differs, remembered}
use Rattle.rules_record.proofs.FlowTable.{enrolled_within, enrolled_more, enrolled_stable, enrolled_rest, enrolled_place, enrolled_known, enrolled_holds, remember_same, remember_other, remember_flow}
use Rattle.rules_record.specs.Lent.{Lists}
use Rattle.rules_record.specs.Facts.{Checked}
use Rattle.rules_record.proofs.Tables.{enrol_keeps, remember_keeps, mark_keeps}
use Rattle.rules_calls.specs.NewLoading.{loaded_flow, loaded_one, loaded_below, load_fits, Remembers}

pub entry_flow : (s z : Inputs) (place : ℕ) → entry_at s place ≡ entry_at z place → flow_at s place ≡ flow_at z place
unfolding flow_at
entry_flow s z place e = ap (λ (x : FlowEntry). x.flow) e

pub entry_delay : (s z : Inputs) (place : ℕ) → entry_at s place ≡ entry_at z place → recalled s place ≡ recalled z place
unfolding recalled
entry_delay s z place e = ap (λ (x : FlowEntry). x.remembered) e

-- ---- a delay is stored
module _ (s : Inputs) (place delay : ℕ) where
  -- only the flow table changes, and the unsaved mark stays
  pub kept_rest : kept s place delay ≡ with_flows s (kept s place delay).flows s.flow_count s.unsaved
  unfolding kept
  kept_rest = pick_all (λ (z : Inputs). z ≡ with_flows s z.flows s.flow_count s.unsaved) (ltb place 64) refl refl

  -- it is what is remembered, without the mark
  unmarked : kept s place delay ≡ with_flows (remembered s place delay) (remembered s place delay).flows (remembered s place delay).flow_count s.unsaved
  unfolding remembered
  unmarked = pick_all (λ (z : Inputs). kept s place delay ≡ with_flows z z.flows z.flow_count s.unsaved) (differs (recalled s place) delay) same same
    where
      same : kept s place delay ≡ with_flows (kept s place delay) (kept s place delay).flows (kept s place delay).flow_count s.unsaved
      same = ap (λ (mark : Bool). with_flows (kept s place delay) (kept s place delay).flows (kept s place delay).flow_count mark) (ap (λ (z : Inputs). z.unsaved) kept_rest)

  -- the place has the delay then; another place's stays, and every flow
  pub kept_recalled : place < 64 → Sized s → recalled (kept s place delay) place ≡ Some delay
  unfolding recalled entry_at
  kept_recalled low sized = ap (λ (z : Inputs). recalled z place) unmarked ∙ remember_same s place delay low sized

  pub kept_other : (j : ℕ) → (j ≡ place → ⊥) → recalled (kept s place delay) j ≡ recalled s j
  unfolding recalled entry_at
  kept_other j apart = ap (λ (z : Inputs). recalled z j) unmarked ∙ remember_other s place delay j apart

  pub kept_flow : Sized s → (j : ℕ) → flow_at (kept s place delay) j ≡ flow_at s j
  unfolding flow_at entry_at
  kept_flow sized j = ap (λ (z : Inputs). flow_at z j) unmarked ∙ remember_flow s place delay sized j

  pub kept_keeps : (l : Lists) → Checked s l → place < s.flow_count → Checked (kept s place delay) l
  kept_keeps l c h = subst (λ (z : Inputs). Checked z l) (sym unmarked) (mark_keeps (remembered s place delay) l (remember_keeps s l c place delay h) s.unsaved)

-- ---- one loaded delay
module _ (s : Inputs) (flow : Flow) (delay : ℕ) where
  -- only the flow table changes, and the unsaved mark stays
  pub loaded_one_rest : loaded_one flow delay s ≡ with_flows s (loaded_one flow delay s).flows (enrolled s flow).flow_count s.unsaved
  unfolding loaded_one
  loaded_one_rest =
      kept_rest (enrolled s flow) _ delay
      ∙ ap (λ (z : Inputs). with_flows z (loaded_one flow delay s).flows z.flow_count z.unsaved) (enrolled_rest s flow)

  loaded_one_count : (loaded_one flow delay s).flow_count ≡ (enrolled s flow).flow_count
  loaded_one_count = ap (λ (z : Inputs). z.flow_count) loaded_one_rest

  loaded_one_flow : Sized (enrolled s flow) → (j : ℕ) → flow_at (loaded_one flow delay s) j ≡ flow_at (enrolled s flow) j
  unfolding loaded_one
  loaded_one_flow sized j = kept_flow (enrolled s flow) _ delay sized j

  module _ (l : Lists) (c : Checked s l) (room : admits s flow ≡ true) where
    enrolled_at_law : flow_place (enrolled s flow) flow ≡ flow_place s flow
    enrolled_at_law = enrolled_place s flow c.whole.flows.most c.sized room

    enrolled_there : flow_place (enrolled s flow) flow < (enrolled s flow).flow_count
    enrolled_there = rw enrolled_at_law (enrolled_known s flow c.whole.flows.most c.sized room)

    -- the flow has the loaded delay, whatever it had
    pub loaded_one_remembers : Remembers (loaded_one flow delay s) flow delay
    unfolding loaded_one
    loaded_one_remembers = record {
      place = flow_place (enrolled s flow) flow;
      known = omega (arith, loaded_one_count, enrolled_there);
      holds =
          loaded_one_flow (enrol_keeps s l c flow).sized (flow_place (enrolled s flow) flow)
          ∙ ap (flow_at (enrolled s flow)) enrolled_at_law
          ∙ enrolled_holds s flow c.whole.flows.most c.sized room;
      has = kept_recalled (enrolled s flow) (flow_place (enrolled s flow) flow) delay (omega (arith, enrolled_there, enrolled_within s flow c.whole.flows.most)) (enrol_keeps s l c flow).sized;
    }

    -- another flow's delay stays
    pub loaded_one_leaves : (other : Flow) (had : ℕ) → (flow ≡ other → ⊥) → Remembers s other had → Remembers (loaded_one flow delay s) other had
    unfolding loaded_one
    loaded_one_leaves other had apart r = record {
      place = r.place;
      known = omega (arith, loaded_one_count, r.known, enrolled_more s flow c.whole.flows.most);
      holds = loaded_one_flow (enrol_keeps s l c flow).sized r.place ∙ still_flow ∙ r.holds;
      has = kept_other (enrolled s flow) (flow_place (enrolled s flow) flow) delay r.place elsewhere ∙ still_delay ∙ r.has;
    }
      where
        still : entry_at (enrolled s flow) r.place ≡ entry_at s r.place
        still = enrolled_stable s flow c.whole.flows.most r.place r.known

        still_flow : flow_at (enrolled s flow) r.place ≡ flow_at s r.place
        still_flow = entry_flow (enrolled s flow) s r.place still

        still_delay : recalled (enrolled s flow) r.place ≡ recalled s r.place
        still_delay = entry_delay (enrolled s flow) s r.place still

        elsewhere : r.place ≡ flow_place (enrolled s flow) flow → ⊥
        elsewhere e = apart (sym (enrolled_holds s flow c.whole.flows.most c.sized room) ∙ ap (flow_at (enrolled s flow)) (sym (e ∙ enrolled_at_law)) ∙ still_flow ∙ r.holds)

    pub loaded_one_keeps : Checked (loaded_one flow delay s) l
    unfolding loaded_one
    loaded_one_keeps = kept_keeps (enrolled s flow) (flow_place (enrolled s flow) flow) delay l (enrol_keeps s l c flow) enrolled_there

-- ---- all of them
module _ (bytes delays : List ℕ) (s : Inputs) where
  -- only the flow table changes, and the unsaved mark stays
  pub loaded_rest : (n : ℕ) → loaded_below n bytes delays s ≡ with_flows s (loaded_below n bytes delays s).flows (loaded_below n bytes delays s).flow_count s.unsaved
  unfolding loaded_below
  loaded_rest zero = refl
  loaded_rest (suc n) =
      let rest = loaded_one_rest (loaded_below n bytes delays s) (loaded_flow bytes n) (get_or delays n 0) in
      rest
      ∙ ap (λ (z : Inputs). with_flows z (loaded_below (suc n) bytes delays s).flows (enrolled (loaded_below n bytes delays s) (loaded_flow bytes n)).flow_count z.unsaved) (loaded_rest n)
      ∙ ap (λ (k : ℕ). with_flows s (loaded_below (suc n) bytes delays s).flows k s.unsaved) (sym (ap (λ (z : Inputs). z.flow_count) rest))

  -- the flows that had room among n delays had it among fewer
  pub loads_below : (n k : ℕ) → k < n → load_fits n bytes delays s ≡ true → admits (loaded_below k bytes delays s) (loaded_flow bytes k) ≡ true
  unfolding load_fits
  loads_below n k h fits = all_at (λ k. admits (loaded_below k bytes delays s) (loaded_flow bytes k)) n fits k h

  pub loaded_keeps : (l : Lists) → Checked s l → (n : ℕ) → ((k : ℕ) → k < n → admits (loaded_below k bytes delays s) (loaded_flow bytes k) ≡ true) → Checked (loaded_below n bytes delays s) l
  unfolding loaded_below
  loaded_keeps l c zero fits = c
  loaded_keeps l c (suc n) fits =
      loaded_one_keeps (loaded_below n bytes delays s) (loaded_flow bytes n) (get_or delays n 0) l (loaded_keeps l c n (λ k h. fits k (omega arith))) (fits n (omega arith))

  -- "a flow named twice keeps the last": the flow of loaded delay k, if none after it names that flow too
  pub loaded_last : (l : Lists) → Checked s l → (n : ℕ) → ((k : ℕ) → k < n → admits (loaded_below k bytes delays s) (loaded_flow bytes k) ≡ true)
      → (k : ℕ) → k < n → ((j : ℕ) → k < j → j < n → loaded_flow bytes j ≡ loaded_flow bytes k → ⊥) → Remembers (loaded_below n bytes delays s) (loaded_flow bytes k) (get_or delays k 0)
  unfolding loaded_below
  loaded_last l c zero fits k h none = absurd (omega arith)
  loaded_last l c (suc n) fits k h none =
      ⊎_elim (λ e. here e) (λ m. there m (loaded_last l c n (λ j g. fits j (omega arith)) k m (λ j g i. none j g (omega arith)))) (eq-or-lt_of_le (le_of_suc-le-suc h))
    where
      before : Checked (loaded_below n bytes delays s) l
      before = loaded_keeps l c n (λ j g. fits j (omega arith))

      here : k ≡ n → Remembers (loaded_one (loaded_flow bytes n) (get_or delays n 0) (loaded_below n bytes delays s)) (loaded_flow bytes k) (get_or delays k 0)
      here e = rw e (loaded_one_remembers (loaded_below n bytes delays s) (loaded_flow bytes n) (get_or delays n 0) l before (fits n (omega arith)))

      there : k < n → Remembers (loaded_below n bytes delays s) (loaded_flow bytes k) (get_or delays k 0) → Remembers (loaded_one (loaded_flow bytes n) (get_or delays n 0) (loaded_below n bytes delays s)) (loaded_flow bytes k) (get_or delays k 0)
      there m r = loaded_one_leaves (loaded_below n bytes delays s) (loaded_flow bytes n) (get_or delays n 0) l before (fits n (omega arith)) (loaded_flow bytes k) (get_or delays k 0) (none n m (omega arith)) r
