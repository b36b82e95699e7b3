-- `policy::inner::need` meets its contract. Assumes nothing.
use Rattle.std.specs.Prelude.{◌≡◌, ℕ, ◌+◌, ◌-◌, ◌^◌, ◌≤◌, min}
use mathlib.Core.Path.{sym, ap, ◌∙◌}
use native.Mathlib.Omega.{arith}
use lib.Ieee.{binary64, mul}
use Rattle.doubles.specs.Doubles.{double, half_away}
use Rattle.doubles.proofs.Products.{share_le, share_halves_le, le_then_lt}
use Rattle.policy.specs.declared.DelayPolicy.{DelayPolicy}
use Rattle.policy.specs.Need.{need_of, share_of}
use Rattle.policy.specs.Settings.{Sound}
use Rattle.policy.proofs.inner.need.Goals as goal

-- the whole number that the rounding gives
called : (policy : DelayPolicy) (above share : ℕ) → Sound policy → above ≤ 2 ^ 32 → share ≡ half_away (mul binary64 (double above) policy.margin_share) → share ≤ 42949672960
called policy above share s l e = omega (arith, e, share_halves_le above policy.margin_share l s.low s.high)

total_is : (policy : DelayPolicy) (lag above share : ℕ) → above ≡ lag - policy.read_offset → share ≡ half_away (mul binary64 (double above) policy.margin_share)
    → need_of policy lag ≡ min policy.delay_max (above + policy.margin + share)
unfolding need_of
total_is policy lag above share a e =
    ap (λ (z : ℕ). min policy.delay_max (z + policy.margin + share_of policy z)) (sym a)
    ∙ ap (λ (z : ℕ). min policy.delay_max (above + policy.margin + z)) (sym e)

pub round_half_away-share-requires : goal.round_half_away-share-requires
round_half_away-share-requires c =
    let l : c.saturating_sub-above.result ≤ 2 ^ 32 = omega (arith, c.saturating_sub-above.ensures) in
    let p = c.args.policy in
    le_then_lt (mul binary64 (double c.saturating_sub-above.result) p.margin_share) (share_le c.saturating_sub-above.result p.margin_share l c.requires.low c.requires.high)

pub overflow_add-sum-2 : goal.overflow_add-sum-2
overflow_add-sum-2 c =
    let l : c.saturating_sub-above.result ≤ 2 ^ 32 = omega (arith, c.saturating_sub-above.ensures) in
    omega (arith, called c.args.policy _ _ c.requires l c.round_half_away-share.ensures, l, c.requires.margins)

-- the need by the sum that the code has
pub returns : goal.returns
returns c = omega (arith, c.min.ensures, total_is c.args.policy c.args.lag _ _ c.saturating_sub-above.ensures c.round_half_away-share.ensures)
