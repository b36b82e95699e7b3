-- `text_requests::lists::lags_at` meets its contract: the lags that are left, after those that were stored, are all lags. Assumes nothing.
use Prim.Native.Nat.{◌-◌}
use mathlib.Core.Path.{◌≡◌}
use lib.ListN.{length, take}
use Rattle.text_requests.specs.Lists.{lags_after, lags_at}
use Rattle.text_requests.proofs.lists.lags_at.Given as goal

abbrev pub invariant-loop-i : goal.invariant-loop-i
invariant-loop-i l =
    (l.r.s.now ≡ l.fn.r.s.now)
    × (lags_at l.fn.r.s.now l.fn.r.at (length l.fn.heard) ≡ lags_after l.fn.r.s.now (length l.fn.heard - l.i) l.r.at (take l.i l.heard))
