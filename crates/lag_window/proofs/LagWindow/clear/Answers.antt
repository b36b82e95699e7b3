-- `lag_window::LagWindow::Clear` meets its contract. Assumes nothing.
use Rattle.std.proofs.Common.{refl, rules}
use Rattle.std.specs.Prelude.{◌≡◌, Err}
use Rattle.refusals.proofs.Answers.{never_zero}
use Rattle.rules_window.proofs.Numbers.{clear_asks, clear_refused, clear_made}
use Rattle.lag_window.proofs.LagWindow.clear.Goals as goal

pub returns-in_err-check-clause-left : goal.returns-in_err-check-clause-left
returns-in_err-check-clause-left c = let e : c.from_residual.result ≡ Err c.in_err-check.field-0.0 = search rules in rw e (clear_refused _ _ _ (rw (c.view.ensures.starts, c.view.ensures.totals, c.view.ensures.counts, c.view.ensures.sums) at c.in_err-check.ensures) (never_zero _))

pub emptied-requires : goal.emptied-requires
emptied-requires c = let h = clear_asks _ _ _ (rw (c.view.ensures.starts, c.view.ensures.totals, c.view.ensures.counts, c.view.ensures.sums) at c.in_ok-check.ensures) refl in record { shaped = h.0; sums_len = h.1 }

pub returns-clause-left : goal.returns-clause-left
returns-clause-left c = clear_made _ _ _ _ _ (rw (c.view.ensures.starts, c.view.ensures.totals, c.view.ensures.counts, c.view.ensures.sums) at c.in_ok-check.ensures) refl c.emptied.ensures.counts_after c.emptied.ensures.sums_after
