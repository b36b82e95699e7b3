-- `text_requests::lists::rows_at` meets its contract: the rows that are left, after those that were read, are all rows. Assumes nothing.
use Prim.Native.Nat.{◌-◌}
use mathlib.Core.Path.{◌≡◌}
use lib.ListN.{length}
use Rattle.text_requests.specs.Lists.{rows_after, rows_at}
use Rattle.text_requests.proofs.lists.rows_at.Given as goal

abbrev pub invariant-loop-count : goal.invariant-loop-count
invariant-loop-count l =
    (l.r.s.now ≡ l.fn.r.s.now)
    × (rows_at l.fn.r.s.now l.fn.r.at l.buckets ≡ rows_after l.fn.r.s.now l.buckets (length l.fn.r.s.now - l.count) l.r.at l.count)
