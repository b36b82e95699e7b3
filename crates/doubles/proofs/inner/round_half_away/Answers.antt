-- `doubles::inner::round_half_away` meets its contract: the distance from the whole number below is exact, and the answer turns on how it compares with a half. Assumes nothing.
use Rattle.std.proofs.Common.{◌≡◌, ℕ, ◌+◌, not, T, sym, ap, ◌∙◌, subst, arith}
use lib.Ieee.{Float, binary64, of_bits, sub, lt, eq, to_unsigned}
use Rattle.doubles.specs.Doubles.{double}
use Rattle.doubles.proofs.Values.{is, isnt}
use Rattle.doubles.proofs.Halves.{halves_none}
use Rattle.doubles.proofs.Bracket.{AboveZero, cut_asks, below, cut, below_lt, distance_below, half, above_nearest, tie_above, below_nearest}
use Rattle.doubles.proofs.inner.round_half_away.Goals as goal
use Rattle.doubles.proofs.inner.round_half_away.Goals.{then-distance, else-distance}

-- what truncation gives, and the distance that is worked out from it
below_is : (x : Float) (n : ℕ) → n ≡ to_unsigned 64 x → AboveZero x → n ≡ below x
below_is x n e h = e ∙ cut x h

distance_is : (x y : Float) (n : ℕ) → n ≡ below x → y ≡ double n → sub binary64 x y ≡ distance_below x
distance_is x y n e d = ap (λ (z : Float). sub binary64 x z) (d ∙ ap (λ (k : ℕ). double k) e)

pub truncating_f64_to_u64-below-requires : goal.truncating_f64_to_u64-below-requires
unfolding of_bits
truncating_f64_to_u64-below-requires c =
    let k = cut_asks c.args.x (is c.if-x.true, c.requires) in
    record { lower_bound = k.0; upper_bound = k.1 }

pub overflow_add-above : goal.overflow_add-above
unfolding of_bits
overflow_add-above c =
    let h : AboveZero c.args.x = (is c.if-x.true, c.requires) in
    omega (arith, below_is c.args.x _ c.truncating_f64_to_u64-below.ensures h, below_lt c.args.x h)

-- a tie: the larger magnitude
pub returns-then-tie : goal.returns-then-tie
unfolding of_bits
returns-then-tie c =
    let x = c.args.x in
    let h : AboveZero x = (is c.if-x.true, c.requires) in
    let b = below_is x _ c.truncating_f64_to_u64-below.ensures h in
    let d = distance_is x _ _ b c.nearest_u64_to_f64.ensures in
    ap (λ (n : ℕ). n + 1) b ∙ sym (tie_above x (is c.well_formed.0.1) h (subst (λ (y : Float). T (eq y half)) d (is c.if-tie.true)))

-- no tie: the nearest
pub returns-else-tie : goal.returns-else-tie
unfolding of_bits
returns-else-tie c =
    let x = c.args.x in
    let h : AboveZero x = (is c.if-x.true, c.requires) in
    let b = below_is x _ c.truncating_f64_to_u64-below.ensures h in
    let d = distance_is x _ _ b c.nearest_u64_to_f64.ensures in
    let no_tie = subst (λ (y : Float). T (not (eq y half))) d (isnt c.if-tie.false) in
    elim c.if-distance.branch [
      | then-distance w ↦ w.nearest-is ∙ ap (λ (n : ℕ). n + 1) b ∙ sym (above_nearest x (is c.well_formed.0.1) h (subst (λ (y : Float). T (lt half y)) d (is w.if-distance.true)))
      | else-distance w ↦ w.nearest-is ∙ b ∙ sym (below_nearest x (is c.well_formed.0.1) h (subst (λ (y : Float). T (not (lt half y))) d (isnt w.if-distance.false)) no_tie)
    ]

-- not above zero
pub returns : goal.returns
unfolding of_bits
returns c = sym (halves_none c.args.x (isnt c.if-x.false))
