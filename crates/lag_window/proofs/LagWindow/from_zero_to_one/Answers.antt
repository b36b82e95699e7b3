-- `lag_window::LagWindow::from_zero_to_one` meets its contract. Assumes nothing.
use lib.Ieee.{of_bits}
use Rattle.rules_window.specs.Checks.{from_zero_to_one}
use Rattle.base.specs.Choice.{both}
use Rattle.lag_window.proofs.LagWindow.from_zero_to_one.Goals as goal

pub returns-then-q : goal.returns-then-q
unfolding from_zero_to_one both of_bits
returns-then-q c = simp c.if-q.true

pub returns-else-q : goal.returns-else-q
unfolding from_zero_to_one both of_bits
returns-else-q c = simp c.if-q.false
