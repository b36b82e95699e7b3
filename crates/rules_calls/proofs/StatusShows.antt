-- What a status shows, part by part, and what its functions ask of a record that was checked. Assumes nothing.
use Rattle.std.specs.Prelude.{None, Some}
use Prim.Native.Nat.{ℕ}
use mathlib.Core.Path.{◌≡◌, refl, sym, ap, ◌∙◌}
use mathlib.Core.List.{List}
use lib.Ieee.{Float}
use Rattle.doubles.specs.Doubles.{ms_of}
use Rattle.rules_window.specs.Quantile.{Quantile}
use Rattle.rules_window.specs.Window.{Window}
use Rattle.rules_window.specs.Quantile.{quantile_of, thousandths}
use Rattle.rules_window.specs.ColumnSums.{column_sums, as_one_second}
use Rattle.rules_window.proofs.OneSecond.{same_quantile}
use Rattle.rules_calls.specs.Status.{arrival_by, arrival_with, arrival_of, arrival_in}

-- ---- the three quantiles, all or none
-- the other arm of `let .. else`: a quantile whose tag is not that of an end
pub none_first : (half high highest : Quantile) → ((end : ℕ) → half ≡ Quantile.End end → ⊥) → None ≡ arrival_of half high highest
none_first (Quantile.End end) high highest k = absurd (k end refl)
none_first Quantile.NoLags high highest k = refl
none_first (Quantile.Refused number) high highest k = refl

none_with : (p50 : ℕ) (high highest : Quantile) → ((end : ℕ) → high ≡ Quantile.End end → ⊥) → None ≡ arrival_with p50 high highest
none_with p50 (Quantile.End end) highest k = absurd (k end refl)
none_with p50 Quantile.NoLags highest k = refl
none_with p50 (Quantile.Refused number) highest k = refl

none_by : (p50 p99 : ℕ) (highest : Quantile) → ((end : ℕ) → highest ≡ Quantile.End end → ⊥) → None ≡ arrival_by p50 p99 highest
none_by p50 p99 (Quantile.End end) k = absurd (k end refl)
none_by p50 p99 Quantile.NoLags k = refl
none_by p50 p99 (Quantile.Refused number) k = refl

module _ (half high highest : Quantile) {p50 : ℕ} (is-half : half ≡ Quantile.End p50) where
  half_there : arrival_of half high highest ≡ arrival_with p50 high highest
  half_there = ap (λ (q : Quantile). arrival_of q high highest) is-half

  pub none_second : ((end : ℕ) → high ≡ Quantile.End end → ⊥) → None ≡ arrival_of half high highest
  none_second k = none_with p50 high highest k ∙ sym half_there

  module _ {p99 : ℕ} (is_high : high ≡ Quantile.End p99) where
    high_there : arrival_of half high highest ≡ arrival_by p50 p99 highest
    high_there = half_there ∙ ap (λ (q : Quantile). arrival_with p50 q highest) is_high

    pub none_third : ((end : ℕ) → highest ≡ Quantile.End end → ⊥) → None ≡ arrival_of half high highest
    none_third k = none_by p50 p99 highest k ∙ sym high_there

    pub all_there : {p999 : ℕ} {x y z : Float} → highest ≡ Quantile.End p999 → x ≡ ms_of p50 → y ≡ ms_of p99 → z ≡ ms_of p999
        → Some (record { p50 = x; p99 = y; p999 = z }) ≡ arrival_of half high highest
    all_there is-highest is_x is_y is-z =
        (λ t. Some (record { p50 = is_x t; p99 = is_y t; p999 = is-z t }))
        ∙ sym (high_there ∙ ap (λ (q : Quantile). arrival_by p50 p99 q) is-highest)

pub arrival_by_law : (w : Window) {a b c : Float} {half high highest : Quantile} → half ≡ quantile_of a w → a ≡ thousandths 500 → high ≡ quantile_of b w → b ≡ thousandths 990 → highest ≡ quantile_of c w → c ≡ thousandths 999 → arrival_of half high highest ≡ arrival_in w
unfolding arrival_in
arrival_by_law w is-half half_at is_high high-at is-highest highest-at =
    (λ t. arrival_of (is-half t) (is_high t) (is-highest t))
    ∙ (λ t. arrival_of (quantile_of (half_at t) w) (quantile_of (high-at t) w) (quantile_of (highest-at t) w))

-- .. of the row of sums alone: "Past the checks, quantiles read only this row"
pub arrival_row : (w : Window) {sums : List ℕ} → sums ≡ column_sums w → arrival_in (as_one_second w.buckets w.width sums) ≡ arrival_in w
unfolding arrival_in
arrival_row w own =
    ap (λ (row : List ℕ). arrival_in (as_one_second w.buckets w.width row)) own
    ∙ (λ t. arrival_of (same_quantile w 4294967295 (thousandths 500) t) (same_quantile w 4294967295 (thousandths 990) t) (same_quantile w 4294967295 (thousandths 999) t))
