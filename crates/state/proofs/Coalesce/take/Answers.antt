-- `state::Coalesce::take` meets its contract. Assumes nothing.
use Rattle.std.proofs.Common.{rules}
use Rattle.std.specs.Prelude.{◌≡◌, Err}
use Rattle.state.proofs.Calls.{take_refused, take_told}
use Rattle.state.proofs.Coalesce.take.Goals as goal

pub returns-in_err-check : goal.returns-in_err-check
returns-in_err-check c = let e : c.from_residual.result ≡ Err c.in_err-check.field-0.0 = search rules in rw e (take_refused _ _ c.in_err-check.ensures)

pub returns : goal.returns
returns c = rw (c.is_some.ensures, c.new.ensures) (take_told _ c.in_ok-check.ensures)
