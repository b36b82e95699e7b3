-- `text_requests::lists::cells_end` meets its contract: the place after the cells that are left is the place after all. Assumes nothing.
use Prim.Native.Nat.{◌-◌}
use mathlib.Core.Path.{◌≡◌}
use lib.ListN.{length}
use Rattle.text_requests.specs.Lists.{cells_after, cells_end}
use Rattle.text_requests.proofs.lists.cells_end.Given as goal

abbrev pub invariant-loop-i : goal.invariant-loop-i
invariant-loop-i l =
    (l.r.s.now ≡ l.fn.r.s.now)
    × (cells_end l.fn.r.s.now l.fn.r.at l.buckets ≡ cells_after l.fn.r.s.now l.buckets (length l.fn.r.s.now - l._i) l.r.at)
