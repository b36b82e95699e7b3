-- `lag_window::LagWindow::quantile` meets its contract. Assumes nothing.
use borrow.Author.Rules.{rules}
use Rattle.rules_window.specs.Checks.{quantile_reply, quantile_upto_reply}
use Rattle.lag_window.proofs.LagWindow.quantile.Goals as goal

pub quantile_upto-requires : goal.quantile_upto-requires
unfolding quantile_reply quantile_upto_reply
quantile_upto-requires c = search rules

pub returns : goal.returns
unfolding quantile_reply quantile_upto_reply
returns c = c.quantile_upto.ensures
