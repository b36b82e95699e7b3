-- `text_requests::lists::store_loads` meets its contract: the first i loaded delays are stored. Assumes nothing.
use mathlib.Core.Path.{◌≡◌}
use Rattle.text_requests.proofs.Loads.{Loading}
use Rattle.text_requests.proofs.lists.store_loads.Given as goal

abbrev pub invariant-loop-i : goal.invariant-loop-i
invariant-loop-i l = (l.r.s.now ≡ l.fn.r.s.now) × Loading l.fn.r.s.now l.fn.r.at l.n l.flows l.delays l.r.at l.i
