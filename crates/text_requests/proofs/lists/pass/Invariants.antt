-- `text_requests::lists::pass` meets its contract: the place after those that are left is the place after all. Assumes nothing.
use Prim.Native.Nat.{◌-◌}
use mathlib.Core.Path.{◌≡◌}
use Rattle.text_requests.specs.Lists.{times}
use Rattle.text_requests.proofs.lists.pass.Given as goal

abbrev pub invariant-loop-i : goal.invariant-loop-i
invariant-loop-i g l =
    (l.r.s.now ≡ l.fn.r.s.now)
    × (times (g.T.Listed.one_at l.fn.r.s.now) l.n l.fn.r.at ≡ times (g.T.Listed.one_at l.fn.r.s.now) (l.n - l._i) l.r.at)
