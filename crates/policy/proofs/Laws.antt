-- Laws of the need: it is at most the maximum, covers what lies above the offset, and grows with the lag. Assumes nothing.
use Rattle.std.specs.Prelude.{ℕ, ◌-◌, ◌^◌, ◌<◌, ◌≤◌, min}
use native.Mathlib.Omega.{arith}
use Rattle.doubles.proofs.Products.{share_mono}
use Rattle.policy.specs.declared.DelayPolicy.{DelayPolicy}
use Rattle.policy.specs.Settings.{Sound}
use Rattle.policy.specs.Need.{need_of, share_of}

pub need_at_most : (p : DelayPolicy) (lag : ℕ) → need_of p lag ≤ p.delay_max
unfolding need_of
need_at_most p lag = omega arith

pub need_covers : (p : DelayPolicy) (lag : ℕ) → min p.delay_max (lag - p.read_offset) ≤ need_of p lag
unfolding need_of
need_covers p lag = omega arith

pub need_grows : (p : DelayPolicy) → Sound p → (a b : ℕ) → a ≤ b → b < 2 ^ 32 → need_of p a ≤ need_of p b
unfolding need_of
need_grows p s a b h l =
    let o = p.read_offset in
    let m : share_of p (a - o) ≤ share_of p (b - o) = unfold share_of in share_mono (a - o) (b - o) p.margin_share (omega arith) (omega arith) s.low s.high in
    omega arith
