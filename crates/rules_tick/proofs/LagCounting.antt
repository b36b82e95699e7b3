-- Checks 10 and 11 of all inputs, as the loops go. Assumes nothing.
use Prim.Native.Nat.{ℕ, ◌+◌, ◌-◌, ◌*◌, ◌<◌, ◌≤◌}
use mathlib.Core.Bool.{Bool, true, false}
use mathlib.Core.Path.{◌≡◌, sym, ap, subst, ◌∙◌}
use mathlib.Core.List.{List}
use native.Mathlib.Numerals.{add-one}
use native.Mathlib.Omega.{arith}
use borrow.Author.Tests.{eq-eqb, ne_eqb}
use lib.Dec.{eqb}
use lib.ListN.{length}
use Rattle.base.specs.Lists.{part, sum, all}
use Rattle.base.proofs.All.{all_none, all_more, all_stop, all_end, told_no, told_yes}
use Rattle.rules_window.specs.Checks.{room_of, room_for}
use Rattle.rules_record.specs.declared.Slot.{Slot}
use Rattle.rules_record.specs.declared.Inputs.{Inputs}
use Rattle.rules_record.specs.Inputs.{slot_at}
use Rattle.rules_record.specs.Lent.{lists, window_of}
use Rattle.base.proofs.Choices.{by_zero}
use Rattle.base.proofs.Blocks.{block_within}
use Rattle.rules_tick.specs.declared.Look.{Look}
use Rattle.rules_tick.specs.Looks.{look_at, lags_before}
use Rattle.rules_tick.specs.TickChecks.{look_fits, looks_fit, lags_fit, rooms_fit}
use Rattle.rules_tick.specs.TickAsked.{RoomsAsked}
use Rattle.rules_tick.proofs.TickAccepted.{before_more, before_within}

-- ---- 10 of the looks
module _ (s : Inputs) (looks : List Look) where
  -- the first i looks fit
  abbrev pub LooksBelow : ℕ → Type 0
  LooksBelow i = (i ≤ s.count) × (all (λ k. look_fits s.policy.delay_max (look_at looks k)) i ≡ true)

  pub looks_none : LooksBelow 0
  looks_none = (omega arith, all_none _)

  module _ (i : ℕ) (h : i < s.count) {fits : Bool} (is : fits ≡ look_fits s.policy.delay_max (look_at looks i)) where
    pub looks_more : LooksBelow i → fits ≡ true → LooksBelow (i + 1)
    looks_more below fit = (omega arith, all_more (λ k. look_fits s.policy.delay_max (look_at looks k)) i below.1 (told_yes _ _ is fit))

    pub looks_stop : fits ≡ false → false ≡ looks_fit s looks
    unfolding looks_fit
    looks_stop unfit = all_stop (λ k. look_fits s.policy.delay_max (look_at looks k)) s.count i h (told_no _ _ is unfit)

  pub looks_end_law : (i : ℕ) → LooksBelow i → s.count ≤ i → true ≡ looks_fit s looks
  unfolding looks_fit
  looks_end_law i below h = all_end (λ k. look_fits s.policy.delay_max (look_at looks k)) s.count i below.1 below.0 h

-- ---- 10 of the lags
module _ (s : Inputs) (looks : List Look) (lags : List ℕ) where
  -- so many lags are left for the inputs from i on
  abbrev pub LagsLeft : ℕ → ℕ → Type 0
  LagsLeft i left = (i ≤ s.count) × (lags_before looks i + left ≡ length lags)

  pub lags_none : LagsLeft 0 (length lags)
  unfolding lags_before sum
  lags_none = (omega arith, omega arith)

  module _ (i left : ℕ) (before : LagsLeft i left) where
    module _ (h : i < s.count) {own : ℕ} (is : own ≡ (look_at looks i).lags) where
      pub lags_more : own ≤ left → LagsLeft (i + 1) (left - own)
      lags_more g = (omega arith, ap (λ (k : ℕ). lags_before looks k + (left - own)) (add-one i) ∙ omega (arith, before.1, before_more looks i, is))

      pub lags_stop : left < own → false ≡ lags_fit s looks lags
      unfolding lags_fit
      lags_stop g = sym (ne_eqb (lags_before looks s.count) (length lags) (λ e. omega (arith, e, before.1, before_within looks s.count i h, is)))

    pub lags_end : s.count ≤ i → eqb left 0 ≡ lags_fit s looks lags
    unfolding lags_fit
    lags_end h =
        by_zero left
        (λ none. eq-eqb left 0 none ∙ sym (eq-eqb (lags_before looks s.count) (length lags) (omega (arith, none, total))))
        (λ some. ne_eqb left 0 some ∙ sym (ne_eqb (lags_before looks s.count) (length lags) (λ e. some (omega (arith, e, total)))))
      where
        same : i ≡ s.count
        same = omega (arith, before.0)

        total : lags_before looks s.count + left ≡ length lags
        total = ap (λ (k : ℕ). lags_before looks k + left) (sym same) ∙ before.1

-- ---- 11
-- the test reads neither the counts, the sums nor the width
module _ (s : Inputs) (i : ℕ) {slot : Slot} (is-slot : slot ≡ slot_at s i) where
  pub room_asks : (slot_at s i).lag_seconds ≤ 11 → slot.lag_seconds ≤ 11
  room_asks h = subst (λ (x : Slot). x.lag_seconds ≤ 11) (sym is-slot) h

  pub room_by : (time lags : ℕ) (starts totals : List ℕ) {r : Bool} → r ≡ room_of time lags slot.lag_seconds (part (i * 11) 11 starts) (part (i * 11) 11 totals) → (counts sums times peaks : List ℕ)
      → r ≡ room_for time lags (window_of s (lists starts totals counts sums times peaks) i)
  room_by time lags starts totals e counts sums times peaks = e ∙ ap (λ (x : Slot). room_of time lags x.lag_seconds (part (i * 11) 11 starts) (part (i * 11) 11 totals)) is-slot

module _ (s : Inputs) (looks : List Look) (time : ℕ) (starts totals : List ℕ) where
  -- the first i inputs have room, whatever the other lists are
  abbrev pub RoomsBelow : ℕ → Type 0
  RoomsBelow i = (i ≤ s.count) × ((counts sums times peaks : List ℕ) → all (λ k. room_for time (look_at looks k).lags (window_of s (lists starts totals counts sums times peaks) k)) i ≡ true)

  pub rooms_none : RoomsBelow 0
  rooms_none = (omega arith, λ counts sums times peaks. all_none _)

  module _ (i : ℕ) (h : i < s.count) where
    pub rooms_ask : RoomsAsked s (length starts) (length totals) → ((slot_at s i).lag_seconds ≤ 11) × (i * 11 + 11 ≤ length starts) × (i * 11 + 11 ≤ length totals)
    rooms_ask asked = (
      asked.seconds i h,
      omega (arith, block_within i s.count 11 h, asked.starts_long),
      omega (arith, block_within i s.count 11 h, asked.totals_long),
    )

    module _ {fits : Bool} (is : (counts sums times peaks : List ℕ) → fits ≡ room_for time (look_at looks i).lags (window_of s (lists starts totals counts sums times peaks) i)) where
      pub rooms_more : RoomsBelow i → fits ≡ true → RoomsBelow (i + 1)
      rooms_more below fit = (
        omega arith,
        λ counts sums times peaks. all_more (λ k. room_for time (look_at looks k).lags (window_of s (lists starts totals counts sums times peaks) k)) i (below.1 counts sums times peaks) (told_yes _ _ (is counts sums times peaks) fit),
      )

      pub rooms_stop : fits ≡ false → (counts sums times peaks : List ℕ) → false ≡ rooms_fit s (lists starts totals counts sums times peaks) looks time
      unfolding rooms_fit
      rooms_stop unfit counts sums times peaks =
          all_stop (λ k. room_for time (look_at looks k).lags (window_of s (lists starts totals counts sums times peaks) k)) s.count i h (told_no _ _ (is counts sums times peaks) unfit)

  pub rooms_end : (i : ℕ) → RoomsBelow i → s.count ≤ i → (counts sums times peaks : List ℕ) → true ≡ rooms_fit s (lists starts totals counts sums times peaks) looks time
  unfolding rooms_fit
  rooms_end i below h counts sums times peaks =
      all_end (λ k. room_for time (look_at looks k).lags (window_of s (lists starts totals counts sums times peaks) k)) s.count i (below.1 counts sums times peaks) below.0 h
