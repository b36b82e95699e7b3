-- Loaded delays whose flows differ stand in the order of the load. Assumes nothing.
use Rattle.std.specs.Prelude.{Some}
use Prim.Native.Nat.{ℕ, zero, suc, ◌+◌, ◌<◌, ◌≤◌}
use mathlib.Core.Bool.{Bool, true, false}
use mathlib.Core.Path.{◌≡◌, refl, sym, ap, ◌∙◌}
use mathlib.Core.Logic.{⊎_elim}
use mathlib.Core.List.{List}
use native.Mathlib.Nat.{eq-or-lt_of_le, le_of_suc-le-suc}
use native.Mathlib.Omega.{arith}
use lib.Dec.{eqb, ltb}
use lib.ListN.{length, get_or}
use borrow.Author.Tests.{lt-ltb, eqb-false}
use Rattle.base.specs.Choice.{ask}
use Rattle.base.specs.Limits.{time_limit}
use Rattle.base.proofs.Choices.{lt_yes, lt_no, pick_all, by_le, by_bool, by_zero}
use Rattle.base.proofs.Points.{all_intro}
use Rattle.buckets.specs.Ranges.{ranges_number}
use Rattle.rules_record.specs.declared.Flow.{Flow}
use Rattle.rules_record.specs.declared.Inputs.{Inputs}
use Rattle.rules_record.specs.Sized.{Sized}
use Rattle.rules_record.specs.Flows.{entry_at, flow_at, recalled, known, flow_place, admits, added, enrolled_at, enrolled, kept}
use Rattle.rules_record.proofs.FlowTable.{place_most, place_holds, enrolled_stable, enrolled_place, enrolled_holds}
use Rattle.rules_record.specs.Lent.{Lists}
use Rattle.rules_record.specs.Facts.{Checked}
use Rattle.rules_record.proofs.Tables.{enrol_keeps}
use Rattle.rules_calls.specs.declared.Settings.{Settings}
use Rattle.rules_calls.specs.NewRecord.{blank_for}
use Rattle.rules_calls.specs.NewLoading.{loaded_flow, loaded_one, loaded_below, load_fits}
use Rattle.rules_calls.specs.NewChecks.{settings_number, new_number}
use Rattle.rules_calls.proofs.NewNumbers.{number_refused, number_late, number_none}
use Rattle.rules_calls.proofs.NewLoaded.{entry_flow, entry_delay, kept_recalled, kept_other, kept_flow, loaded_one_rest, loaded_one_keeps}

-- n flows are known, each at its place with its delay
pub record Loads (n : ℕ) (flows : ℕ → Flow) (delays : ℕ → ℕ) (s : Inputs) (l : Lists) : Type 0 where
  pub checked : Checked s l
  pub count : s.flow_count ≡ n
  pub flow : (k : ℕ) → k < n → flow_at s k ≡ flows k
  pub delay : (k : ℕ) → k < n → recalled s k ≡ Some (delays k)

module _ (flows : ℕ → Flow) (delays : ℕ → ℕ) (n : ℕ) (s : Inputs) (l : Lists) (h : Loads n flows delays s l) (room : n < 64) (apart : (k : ℕ) → k < n → flows k ≡ flows n → ⊥) where
  -- a table that is not full takes any flow
  pub admits_more : admits s (flows n) ≡ true
  unfolding admits
  admits_more = pick_all (λ (b : Bool). b ≡ true) (ltb (flow_place s (flows n)) s.flow_count) refl (lt-ltb s.flow_count 64 (omega (arith, h.count)))

  known_n : known s ≡ n
  unfolding known
  known_n = omega (arith, h.count)

  new_place : flow_place s (flows n) ≡ n
  new_place =
      by_le n (flow_place s (flows n))
      (λ m. omega (arith, place_most s (flows n), known_n))
      (λ m. absurd (apart (flow_place s (flows n)) m (sym (h.flow (flow_place s (flows n)) m) ∙ place_holds s (flows n) (omega (arith, known_n)))))

  abbrev more : Inputs
  more = enrolled s (flows n)

  more_is : more ≡ added (flow_place s (flows n)) s (flows n)
  unfolding enrolled enrolled_at
  more_is =
      let a : s.flow_count ≤ flow_place s (flows n) = omega (arith, new_place, h.count) in
      let b : flow_place s (flows n) < 64 = omega (arith, new_place) in
      lt_no (flow_place s (flows n)) s.flow_count _ _ a ∙ lt_yes (flow_place s (flows n)) 64 _ _ b

  more_count : more.flow_count ≡ n + 1
  more_count = ap (λ (z : Inputs). z.flow_count) more_is ∙ ap (λ (k : ℕ). k + 1) new_place

  within : s.flow_count ≤ 64
  within = omega (arith, h.count)

  more_place : flow_place more (flows n) ≡ n
  more_place = enrolled_place s (flows n) within h.checked.sized admits_more ∙ new_place

  more_sized : Sized more
  more_sized = (enrol_keeps s l h.checked (flows n)).sized

  more_before : (k : ℕ) → k < n → entry_at more k ≡ entry_at s k
  more_before k m = enrolled_stable s (flows n) within k (omega (arith, h.count))

  pub loads_more : Loads (suc n) flows delays (loaded_one (flows n) (delays n) s) l
  unfolding loaded_one
  loads_more = record {
    checked = loaded_one_keeps s (flows n) (delays n) l h.checked admits_more;
    count = ap (λ (z : Inputs). z.flow_count) (loaded_one_rest s (flows n) (delays n)) ∙ (let e : more.flow_count ≡ suc n = omega (arith, more_count) in e);
    flow = λ k m. kept_flow more (flow_place more (flows n)) (delays n) more_sized k ∙ ⊎_elim (λ e. last_flow k e) (λ i. entry_flow more s k (more_before k i) ∙ h.flow k i) (eq-or-lt_of_le (le_of_suc-le-suc m));
    delay = λ k m. ⊎_elim (λ e. last_delay_law k e) (λ i. kept_other more (flow_place more (flows n)) (delays n) k (λ e. omega (arith, e, more_place)) ∙ entry_delay more s k (more_before k i) ∙ h.delay k i) (eq-or-lt_of_le (le_of_suc-le-suc m));
  }
    where
      last_flow : (k : ℕ) → k ≡ n → flow_at more k ≡ flows k
      last_flow k e = ap (flow_at more) (e ∙ sym new_place) ∙ enrolled_holds s (flows n) within h.checked.sized admits_more ∙ ap flows (sym e)

      last_delay_law : (k : ℕ) → k ≡ n → recalled (kept more (flow_place more (flows n)) (delays n)) k ≡ Some (delays k)
      last_delay_law k e = ap (recalled (kept more (flow_place more (flows n)) (delays n))) (e ∙ sym more_place) ∙ kept_recalled more (flow_place more (flows n)) (delays n) (omega (arith, more_place)) more_sized ∙ ap (λ (k : ℕ). Some (delays k)) (sym e)

-- ---- all of them
module _ (bytes delays : List ℕ) (s : Inputs) (l : Lists) (start : Checked s l) (empty : s.flow_count ≡ 0) (n : ℕ) (few : n ≤ 64) (apart : (j k : ℕ) → j < k → k < n → loaded_flow bytes j ≡ loaded_flow bytes k → ⊥) where
  pub loads_all : (m : ℕ) → m ≤ n → Loads m (loaded_flow bytes) (λ k. get_or delays k 0) (loaded_below m bytes delays s) l
  unfolding loaded_below
  loads_all zero i = record { checked = start; count = empty; flow = λ k h. absurd (omega arith); delay = λ k h. absurd (omega arith) }
  loads_all (suc m) i = loads_more (loaded_flow bytes) (λ k. get_or delays k 0) m (loaded_below m bytes delays s) l (loads_all m (omega arith)) (omega arith) (λ k h e. apart k m h (omega arith) e)

  -- never refused by 9
  pub loads_fit : load_fits n bytes delays s ≡ true
  unfolding load_fits
  loads_fit = all_intro _ n (λ k i. admits_more (loaded_flow bytes) (λ k. get_or delays k 0) k (loaded_below k bytes delays s) l (loads_all k (omega arith)) (omega arith) (λ j h e. apart j k h i e))

-- ---- check 9 refuses only a load that has no room
not_nine : (k : ℕ) (b : Bool) (rest : ℕ) → eqb k 9 ≡ false → (rest ≡ 9 → ⊥) → ask k b rest ≡ 9 → ⊥
unfolding ask
not_nine k true rest h later z = later z
not_nine k false rest h later z = eqb-false k 9 h z

not_zero_nine : ◌≡◌ {A = ℕ} 0 9 → ⊥
not_zero_nine z = omega (arith, z)

settings_not_nine : (settings : Settings) (bytes delays : ℕ) (l : Lists) (words : ℕ) → settings_number settings bytes delays l words 0 ≡ 9 → ⊥
unfolding settings_number ranges_number
settings_not_nine settings bytes delays l words = search (not_nine, not_zero_nine) depth 50

pub full_by_nine : (settings : Settings) (bytes delays : List ℕ) (time : ℕ) (l : Lists) (words : ℕ) → new_number settings bytes delays time l words ≡ 9
    → (settings_number settings (length bytes) (length delays) l words 0 ≡ 0) × (load_fits (length delays) bytes delays (blank_for settings) ≡ false)
full_by_nine settings bytes delays time l words nine =
    by_zero (settings_number settings (length bytes) (length delays) l words 0)
    (λ passed. (passed, by_bool (load_fits (length delays) bytes delays (blank_for settings)) (λ fits. absurd (not_room passed fits)) (λ full. full)))
    (λ refused. absurd (settings_not_nine settings (length bytes) (length delays) l words (sym (number_refused settings bytes delays time l words refused) ∙ nine)))
  where
    not_room : settings_number settings (length bytes) (length delays) l words 0 ≡ 0 → load_fits (length delays) bytes delays (blank_for settings) ≡ true → ⊥
    not_room passed fits =
        by_le time time_limit
        (λ soon. omega (arith, nine, number_none settings bytes delays time l words passed soon fits))
        (λ late. omega (arith, nine, number_late settings bytes delays time l words passed late))
