-- `doubles::inner::quantile_place` meets its contract: the ceiling is the whole part, or one more where the double of the whole part is below the product. Assumes nothing.
use Rattle.std.proofs.Common.{◌≡◌, ℕ, ◌+◌, ◌^◌, ◌≤◌, true, false, not, T, sym, ap, ◌∙◌, subst, arith, le→leb}
use lib.Ieee.{Float, binary64, mul, lt, in_float, to_unsigned}
use Rattle.doubles.specs.Doubles.{double, ceil_of}
use Rattle.doubles.specs.Quantile.{TargetAsked, target_of}
use Rattle.doubles.proofs.Values.{is, isnt}
use Rattle.doubles.proofs.Ceilings.{Within, product_within, within_range, within_cut, ceil_next, ceil_same}
use Rattle.doubles.proofs.inner.quantile_place.Goals as goal
use Rattle.doubles.proofs.inner.quantile_place.Goals.{then-t-x, else-t-x}

abbrev product : ℕ → Float → Float
product total q = mul binary64 (double total) q

few : (total : ℕ) (q : Float) → TargetAsked total q → total ≤ 2 ^ 53
few total q h = omega (arith, h.few)

within : (total : ℕ) (q : Float) → TargetAsked total q → Within (product total q) total
within total q h = product_within total q (few total q h) h.low h.high

-- what truncation gives
small : (total : ℕ) (q : Float) (n : ℕ) → TargetAsked total q → n ≡ to_unsigned 64 (product total q) → n ≤ 2 ^ 53
small total q n h e = omega (arith, e, within_cut (product total q) total (few total q h) (within total q h), few total q h)

up_next : (total : ℕ) (q : Float) (t up : ℕ) → TargetAsked total q → t ≡ to_unsigned 64 (product total q) → lt (double t) (product total q) ≡ true → up ≡ t + 1 → ceil_of (product total q) ≡ up
up_next total q t up h e l u =
    ceil_next (product total q) total (few total q h) (within total q h) (subst (λ (z : ℕ). T (lt (double z) (product total q))) e (is l))
    ∙ ap (λ (z : ℕ). z + 1) (sym e) ∙ sym u

up_same : (total : ℕ) (q : Float) (t up : ℕ) → TargetAsked total q → t ≡ to_unsigned 64 (product total q) → lt (double t) (product total q) ≡ false → up ≡ t → ceil_of (product total q) ≡ up
up_same total q t up h e l u =
    ceil_same (product total q) total (few total q h) (within total q h) (subst (λ (z : ℕ). T (not (lt (double z) (product total q)))) e (isnt l))
    ∙ sym e ∙ sym u

pub truncating_f64_to_u64-t-requires : goal.truncating_f64_to_u64-t-requires
truncating_f64_to_u64-t-requires c =
    let h = within_range (product c.args.total c.args.q) c.args.total (few c.args.total c.args.q c.requires) (within c.args.total c.args.q c.requires) in
    record { lower_bound = h.0; upper_bound = h.1 }

pub int_to_float-t : goal.int_to_float-t
unfolding in_float
int_to_float-t c = le→leb c.truncating_f64_to_u64-t.result (2 ^ 53) (small c.args.total c.args.q _ c.requires c.truncating_f64_to_u64-t.ensures)

pub overflow_add-up : goal.overflow_add-up
overflow_add-up c = omega (arith, small c.args.total c.args.q _ c.requires c.truncating_f64_to_u64-t.ensures)

-- where the arms of the `if` meet
pub returns : goal.returns
unfolding target_of
returns c =
    let e : ceil_of (product c.args.total c.args.q) ≡ c.if-t-x.up = elim c.if-t-x.branch [
      | then-t-x w ↦ up_next c.args.total c.args.q _ _ c.requires c.truncating_f64_to_u64-t.ensures w.if-t-x.true w.up-is
      | else-t-x w ↦ up_same c.args.total c.args.q _ _ c.requires c.truncating_f64_to_u64-t.ensures w.if-t-x.false w.up-is
    ] in
    omega (arith, c.max.ensures, e)
