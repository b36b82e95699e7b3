-- `lag_rows::inner::row_places` meets its contract. Assumes nothing.
use Rattle.lag_rows.specs.Tallies.{row_places}
use Rattle.base.specs.Lists.{listed}
use native.Mathlib.Nat.{one-mul, zero-mul}
use Rattle.lag_rows.proofs.inner.row_places.Goals as goal

pub invariant_of-result-clause-begin : goal.invariant_of-result-clause-begin
unfolding row_places listed
invariant_of-result-clause-begin c = simp (one-mul, zero-mul)
