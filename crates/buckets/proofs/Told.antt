-- What the number of checks 2, 17 and 18 says, as facts, and back; and the number with other checks after them. Assumes nothing.
use Rattle.std.specs.Prelude.{◌≡◌, ℕ, ◌≤◌, true, false}
use mathlib.Core.Path.{refl, sym, ◌∙◌}
use native.Mathlib.Omega.{arith}
use borrow.Author.Tests.{leb-true, le-leb}
use Rattle.base.specs.Limits.{samples_limit, width_limit, buckets_limit}
use Rattle.base.proofs.Choices.{yes_ask, no_ask, asked, same_refusal}
use Rattle.base.proofs.Points.{both_true, true_both}
use Rattle.buckets.specs.Ranges.{reaches_allowed, width_allowed, buckets_of, buckets_few, buckets_allowed, ranges_number, Ranged}

-- ---- each range as facts, and back
module _ (offset maximum : ℕ) where
  pub reaches_told : reaches_allowed offset maximum ≡ true → (offset ≤ samples_limit) × (maximum ≤ samples_limit)
  unfolding reaches_allowed
  reaches_told h = let a = both_true _ _ h in (leb-true _ _ a.0, leb-true _ _ a.1)

  pub reaches_yes : offset ≤ samples_limit → maximum ≤ samples_limit → reaches_allowed offset maximum ≡ true
  unfolding reaches_allowed
  reaches_yes a b = true_both _ _ (le-leb _ _ a) (le-leb _ _ b)

module _ (width : ℕ) where
  pub width_told : width_allowed width ≡ true → (1 ≤ width) × (width ≤ width_limit)
  unfolding width_allowed
  width_told h = let a = both_true _ _ h in (leb-true _ _ a.0, leb-true _ _ a.1)

  pub width_yes : 1 ≤ width → width ≤ width_limit → width_allowed width ≡ true
  unfolding width_allowed
  width_yes a b = true_both _ _ (le-leb _ _ a) (le-leb _ _ b)

module _ (buckets : ℕ) where
  pub few_told : buckets_few buckets ≡ true → buckets ≤ buckets_limit
  unfolding buckets_few
  few_told h = leb-true _ _ h

  pub few_yes : buckets ≤ buckets_limit → buckets_few buckets ≡ true
  unfolding buckets_few
  few_yes h = le-leb _ _ h

  pub buckets_told : buckets_allowed buckets ≡ true → (1 ≤ buckets) × (buckets ≤ buckets_limit)
  unfolding buckets_allowed
  buckets_told h = let a = both_true _ _ h in (leb-true _ _ a.0, few_told a.1)

  pub buckets_yes : 1 ≤ buckets → buckets ≤ buckets_limit → buckets_allowed buckets ≡ true
  unfolding buckets_allowed
  buckets_yes a b = true_both _ _ (le-leb _ _ a) (few_yes b)

-- ---- 2, 17 and 18
module _ (offset maximum width : ℕ) where
  -- settings give 2 buckets and more
  pub buckets_some : 2 ≤ buckets_of offset maximum width
  unfolding buckets_of
  buckets_some = omega arith

  -- what `inner::buckets_of` asks
  pub buckets_asked : Ranged offset maximum width → (offset ≤ samples_limit) × (maximum ≤ samples_limit) × (1 ≤ width)
  buckets_asked r = (r.offset_most, r.maximum_most, r.width_least)

  -- number 0 says that each of them held, and that those after them gave 0
  pub ranges_told : (rest : ℕ) → ranges_number offset maximum width rest ≡ 0 → Ranged offset maximum width × (rest ≡ 0)
  unfolding ranges_number
  ranges_told rest h =
      let two = asked _ _ _ h in
      let seventeen = asked _ _ _ two.1 in
      let eighteen = asked _ _ _ seventeen.1 in
      let reaches = reaches_told _ _ two.0 in
      let wide = width_told _ seventeen.0 in
      (record { offset_most = reaches.0; maximum_most = reaches.1; width_least = wide.0; width_most = wide.1; buckets_most = few_told _ eighteen.0 }, eighteen.1)

  -- where they let it through, the number is that of the checks after them
  pub ranges_passed : Ranged offset maximum width → (rest : ℕ) → ranges_number offset maximum width rest ≡ rest
  unfolding ranges_number
  ranges_passed r rest =
      yes_ask 2 _ (reaches_yes _ _ r.offset_most r.maximum_most)
      ∙ yes_ask 17 _ (width_yes _ r.width_least r.width_most)
      ∙ yes_ask 18 _ (few_yes _ r.buckets_most)

  -- "a no ends it with that number", in their order, whatever the checks after them say
  module _ (rest : ℕ) where
    pub reaches_first : reaches_allowed offset maximum ≡ false → ranges_number offset maximum width rest ≡ 2
    unfolding ranges_number
    reaches_first far = no_ask 2 _ far

    module _ (near : reaches_allowed offset maximum ≡ true) where
      pub width_next : width_allowed width ≡ false → ranges_number offset maximum width rest ≡ 17
      unfolding ranges_number
      width_next outside = yes_ask 2 _ near ∙ no_ask 17 _ outside

      pub buckets_last : width_allowed width ≡ true → buckets_few (buckets_of offset maximum width) ≡ false → ranges_number offset maximum width rest ≡ 18
      unfolding ranges_number
      buckets_last inside many = yes_ask 2 _ near ∙ yes_ask 17 _ inside ∙ no_ask 18 _ many

  -- they refuse alike, whatever comes after them
  pub same_ranges : {m n : ℕ} → ((n ≡ 0 → ⊥) → m ≡ n) → (ranges_number offset maximum width n ≡ 0 → ⊥) → ranges_number offset maximum width m ≡ ranges_number offset maximum width n
  unfolding ranges_number
  same_ranges same = same_refusal 2 _ (same_refusal 17 _ (same_refusal 18 _ same))

  -- as a call goes that has their number: it stops there, or goes on with the checks after them
  module _ {n : ℕ} (e : n ≡ ranges_number offset maximum width 0) where
    pub ranges_stop : (n ≡ 0 → ⊥) → (rest : ℕ) → ranges_number offset maximum width rest ≡ n
    ranges_stop h rest = same_ranges (λ none. absurd (none refl)) (λ z. h (e ∙ z)) ∙ sym e

    pub ranges_let : n ≡ 0 → Ranged offset maximum width
    ranges_let z = (ranges_told 0 (sym e ∙ z)).0

    pub ranges_go : n ≡ 0 → (rest : ℕ) → ranges_number offset maximum width rest ≡ rest
    ranges_go z rest = ranges_passed (ranges_let z) rest
