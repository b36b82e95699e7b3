-- `text_requests::lists::sixteen` meets its contract: the first i places are filled, and those that are left have none. Assumes nothing.
use Prim.Native.Nat.{ℕ}
use mathlib.Core.Path.{◌≡◌}
use Rattle.text_requests.proofs.Sixteen.{Filling}
use Rattle.text_requests.proofs.lists.sixteen.Given as goal

abbrev pub invariant-loop-i : goal.invariant-loop-i
invariant-loop-i g l =
    let one = g.T.Kept.kept_at l.fn.r.s.now in
    (l.r.s.now ≡ l.fn.r.s.now) × Filling (λ (at : ℕ). (one at).value) (λ (at : ℕ). (one at).next) l.fn.blank l.n l.fn.r.at l.all l.r.at l.i
