-- Document 01's sentences about one input and the two tables, each at its edge. Assumes nothing.
use Rattle.std.specs.Prelude.{◌≡◌, ℕ, ◌<◌, ◌≤◌, Bool, true, false, not, ltb, [], ◌∷◌, replicate, None, Option, Some}
use mathlib.Core.Path.{refl, sym, ap, ◌∙◌}
use Rattle.base.specs.Choice.{pick, both}
use Rattle.policy.specs.declared.DelayPolicy.{DelayPolicy}
use Rattle.policy.specs.Settings.{times_allowed}
use Rattle.rules_record.specs.declared.Output.TheVariants.{Absent, Words, Bytes}
use Rattle.rules_record.specs.Lent.{Lists, lists, window_of, sums_of}
use Rattle.rules_record.specs.WholeRecord.{whole_input}
use Rattle.rules_window.specs.WholeWindow.{whole_window, whole_with_sums}
use Rattle.rules_window.specs.ColumnSums.{right_sums}
use Rattle.rules_record.specs.Checks.{pauses_allowed, lists_fit, output_fits, inputs_allowed}
use lib.Ieee.{Float}
use borrow.Author.Tests.{eq-eqb, ne_eqb, lt-ltb, le-ltb}
use Rattle.base.proofs.All.{both_no}
use Rattle.base.proofs.Choices.{yes_pick, no_pick, pick_all}
use Rattle.rules_record.specs.declared.AutoTag.{AutoTag}
use Rattle.rules_record.specs.declared.ExtraDelay.TheVariants.{Auto, Ms}
use Rattle.rules_record.specs.declared.State.{State}
use Rattle.rules_record.specs.declared.State.TheVariants.{Unrouted, Waiting, Running, Stalled}
use Rattle.rules_record.specs.declared.Route.{Route}
use Rattle.rules_record.specs.declared.Flow.{Flow}
use Rattle.rules_record.specs.declared.Slot.{Slot}
use Rattle.rules_record.specs.declared.Instance.{Instance}
use Rattle.rules_record.specs.declared.Inputs.{Inputs}
use Rattle.rules_record.specs.Slots.{is_auto, empty_slot, with_state, with_route, with_inode, with_delay, with_last_input}
use Rattle.rules_record.specs.States.{state_number}
use Rattle.rules_record.specs.Commands.{set_input, clear_input, set_delay}
use Rattle.rules_record.specs.Flows.{flow_place, admits, recalled, kept, differs, marked, remembered}
use Rattle.rules_record.specs.Instances.{same_key}
use Rattle.rules_record.specs.Prune.{uses_key, is_extra, any_uses, wanted_key}
use Rattle.rules_record.specs.WholePlaces.{route_fits, whole_slot, unused_hold, unused_parts, unused_numbers, unused_slot}

-- "States: 0 Unrouted, 1 Waiting, 2 Running, 3 Stalled."
pub states_numbered : state_number Unrouted ∷ state_number Waiting ∷ state_number Running ∷ state_number Stalled ∷ [] ≡ 0 ∷ 1 ∷ 2 ∷ 3 ∷ []
states_numbered = refl

-- "remembers the delay for the flow .. (marking the table unsaved if it differs)"
module _ (s : Inputs) (place delay : ℕ) where
  -- a flow's first delay, 0 too, marks the table
  pub first_delay_marks : recalled s place ≡ None → (remembered s place delay).unsaved ≡ true
  unfolding remembered
  first_delay_marks e = ap (λ (z : Inputs). z.unsaved) (yes_pick (marked (kept s place delay)) (kept s place delay) (ap (λ (x : Option ℕ). differs x delay) e))

  -- the same delay leaves the mark as it is
  pub same_delay_leaves_the_mark : recalled s place ≡ Some delay → (remembered s place delay).unsaved ≡ s.unsaved
  unfolding remembered kept
  same_delay_leaves_the_mark e =
      ap (λ (z : Inputs). z.unsaved) (no_pick (marked (kept s place delay)) (kept s place delay) (ap (λ (x : Option ℕ). differs x delay) e ∙ ap not (eq-eqb delay delay refl)))
      ∙ pick_all (λ (z : Inputs). z.unsaved ≡ s.unsaved) (ltb place 64) refl refl

  -- another delay than the one before marks it
  pub another_delay_marks : (before : ℕ) → recalled s place ≡ Some before → (before ≡ delay → ⊥) → (remembered s place delay).unsaved ≡ true
  unfolding remembered
  another_delay_marks before e other =
      ap (λ (z : Inputs). z.unsaved)
      (yes_pick (marked (kept s place delay)) (kept s place delay) (ap (λ (x : Option ℕ). differs x delay) e ∙ ap not (ne_eqb before delay other)))

-- "Pruning keeps keys of Running and Stalled inputs and this one": no other
module _ (s : Inputs) (extra : Option Instance) (key : Instance) where
  pub this_key_stays : is_extra extra key ≡ true → wanted_key s extra key ≡ true
  unfolding wanted_key
  this_key_stays e = yes_pick true (any_uses s key) e

  pub used_key_stays : any_uses s key ≡ true → wanted_key s extra key ≡ true
  unfolding wanted_key
  used_key_stays f = pick_all (λ (b : Bool). b ≡ true) (is_extra extra key) refl f

  pub other_keys_go : is_extra extra key ≡ false → any_uses s key ≡ false → wanted_key s extra key ≡ false
  unfolding wanted_key
  other_keys_go e f = no_pick true (any_uses s key) e ∙ f

-- 1: "Are there 1 to 16 inputs?"
pub inputs_from_1_to_16 : inputs_allowed 0 ∷ inputs_allowed 1 ∷ inputs_allowed 16 ∷ inputs_allowed 17 ∷ [] ≡ false ∷ true ∷ true ∷ false ∷ []
unfolding both inputs_allowed
inputs_from_1_to_16 = refl

-- 6: "routed flows known; Unrouted exactly if no route": of 3 flows the routes to places 2 and 3
abbrev to : ℕ → Route
to place = record { domain = 0; flow = place }

pub unrouted_exactly_without_a_route :
    route_fits None Unrouted 3
    ∷ route_fits None Waiting 3
    ∷ route_fits None Running 3
    ∷ route_fits None Stalled 3
    ∷ route_fits (Some (to 2)) Unrouted 3
    ∷ route_fits (Some (to 2)) Waiting 3
    ∷ route_fits (Some (to 2)) Running 3
    ∷ route_fits (Some (to 2)) Stalled 3
    ∷ route_fits (Some (to 3)) Running 3
    ∷ []
    ≡ true ∷ false ∷ false ∷ false ∷ false ∷ true ∷ true ∷ true ∷ false ∷ []
unfolding both route_fits
unrouted_exactly_without_a_route = refl

-- 6: "requires each sum to be right": an input with a wrong one is not whole, whatever else it is
pub wrong_sum_breaks : (s : Inputs) (l : Lists) (i : ℕ) → right_sums (window_of s l i) (sums_of s l i) ≡ false → whole_input s l i ≡ false
unfolding whole_input both
wrong_sum_breaks s l i wrong =
    let broken : whole_with_sums (window_of s l i) (sums_of s l i) ≡ false = rw wrong (pick_all (λ (b : Bool). b ≡ false) (whole_window (window_of s l i)) refl refl) in
    sym (both_no _ _ broken)

-- 6: "times within 8", of the last SetDelay and (document 02, §4) of the last SetInput: the limit passes, a nanosecond more does not
pub times_up_to_the_limit :
    whole_slot 0 0 (with_delay empty_slot 0 4_000_000_000_000_000_000)
    ∷ whole_slot 0 0 (with_delay empty_slot 0 4_000_000_000_000_000_001)
    ∷ whole_slot 0 0 (with_last_input empty_slot 4_000_000_000_000_000_000)
    ∷ whole_slot 0 0 (with_last_input empty_slot 4_000_000_000_000_000_001)
    ∷ []
    ≡ true ∷ false ∷ true ∷ false ∷ []
unfolding both route_fits whole_slot empty_slot
times_up_to_the_limit = refl

-- 6: "unused places zero": a slot to which a command went, even at time 0, is not unused
pub unused_slots_have_no_times : unused_slot empty_slot ∷ unused_slot (with_delay empty_slot 0 0) ∷ unused_slot (with_last_input empty_slot 0) ∷ [] ≡ true ∷ false ∷ false ∷ []
unfolding both unused_hold unused_parts unused_numbers unused_slot empty_slot
unused_slots_have_no_times = refl

-- "three u32 words a command: kind (1 SetInput, 2 ClearInput, 3 SetDelay), input from 0, then channels, forget as 0 or 1, or samples"
pub commands_of_three_words : set_input 4 2 ∷ clear_input 4 1 ∷ set_delay 4 96 ∷ [] ≡ (1 ∷ 4 ∷ 2 ∷ []) ∷ (2 ∷ 4 ∷ 1 ∷ []) ∷ (3 ∷ 4 ∷ 96 ∷ []) ∷ []
commands_of_three_words = refl

-- 9: "Is the flow known, or the flow table short of 64?"
module _ (s : Inputs) (flow : Flow) where
  pub known_flow_admitted : flow_place s flow < s.flow_count → admits s flow ≡ true
  unfolding admits
  known_flow_admitted h = yes_pick true _ (lt-ltb _ _ h)

  pub full_table_refuses : 64 ≤ s.flow_count → s.flow_count ≤ flow_place s flow → admits s flow ≡ false
  unfolding admits
  full_table_refuses full unknown = no_pick true _ (le-ltb _ _ unknown) ∙ le-ltb _ _ full

  pub short_table_admits : s.flow_count < 64 → admits s flow ≡ true
  unfolding admits
  short_table_admits h = pick_all (λ (b : Bool). b ≡ true) (ltb (flow_place s flow) s.flow_count) refl (lt-ltb _ _ h)

-- "`ExtraDelay` is Auto with its tag, or Ms with a double"
pub auto_or_manual : (tag : AutoTag) (delay : Float) → (is_auto (Auto tag) ≡ true) × (is_auto (Ms delay) ≡ false)
auto_or_manual tag delay = (refl, refl)

-- a slot in this state that is routed to place 2 and has seen inode 9
abbrev reading : State → Option ℕ → Slot
reading state inode = with_inode (with_route (with_state empty_slot state) (Some (to 2))) inode

-- "Pruning keeps keys of Running and Stalled inputs": not of others, nor of another inode or flow
pub running_and_stalled_use_their_key :
    uses_key (reading Running (Some 9)) (record { flow = 2; inode = 9 })
    ∷ uses_key (reading Stalled (Some 9)) (record { flow = 2; inode = 9 })
    ∷ uses_key (reading Waiting (Some 9)) (record { flow = 2; inode = 9 })
    ∷ uses_key (reading Running None) (record { flow = 2; inode = 9 })
    ∷ uses_key (reading Running (Some 9)) (record { flow = 2; inode = 8 })
    ∷ uses_key (reading Running (Some 9)) (record { flow = 1; inode = 9 })
    ∷ uses_key (with_route (reading Running (Some 9)) None) (record { flow = 2; inode = 9 })
    ∷ []
    ≡ true ∷ true ∷ false ∷ false ∷ false ∷ false ∷ false ∷ []
unfolding both same_key empty_slot uses_key
running_and_stalled_use_their_key = refl

-- 3: "Are .. stall at most 600 s", with times of the policy that are allowed
pub stall_up_to_600_s : (policy : DelayPolicy) → times_allowed policy ≡ true
    → pauses_allowed policy 600_000_000_000 ∷ pauses_allowed policy 600_000_000_001 ∷ [] ≡ true ∷ false ∷ []
unfolding pauses_allowed both
stall_up_to_600_s policy fine = λ t. pick (fine t) true false ∷ pick (fine t) false false ∷ []

-- 5: "11 seconds and 600 peaks an input", "one more row for each input", and "commands 12 words an input": of 2 inputs with 3 buckets
abbrev lengths : (starts totals counts sums times peaks : ℕ) → Lists
lengths starts totals counts sums times peaks = lists (replicate starts 0) (replicate totals 0) (replicate counts 0) (replicate sums 0) (replicate times 0) (replicate peaks 0)

pub exact_lengths :
    lists_fit 2 3 (lengths 22 22 66 6 1200 1200)
    ∷ lists_fit 2 3 (lengths 21 22 66 6 1200 1200)
    ∷ lists_fit 2 3 (lengths 22 23 66 6 1200 1200)
    ∷ lists_fit 2 3 (lengths 22 22 65 6 1200 1200)
    ∷ lists_fit 2 3 (lengths 22 22 66 5 1200 1200)
    ∷ lists_fit 2 3 (lengths 22 22 66 7 1200 1200)
    ∷ lists_fit 2 3 (lengths 22 22 66 6 1201 1200)
    ∷ lists_fit 2 3 (lengths 22 22 66 6 1200 1199)
    ∷ []
    ≡ true ∷ false ∷ false ∷ false ∷ false ∷ false ∷ false ∷ false ∷ []
unfolding lists_fit both
exact_lengths = refl

pub twelve_words : output_fits 2 (Words 24) ∷ output_fits 2 (Words 23) ∷ output_fits 2 (Words 25) ∷ output_fits 2 Absent ∷ [] ≡ true ∷ false ∷ false ∷ true ∷ []
twelve_words = refl

pub exact_bytes : output_fits 2 (Bytes 1287 1287) ∷ output_fits 2 (Bytes 1286 1287) ∷ output_fits 2 (Bytes 1288 1287) ∷ [] ≡ true ∷ false ∷ false ∷ []
exact_bytes = refl
