-- `lag_window::LagWindow::push` meets its contract. Assumes nothing.
use Rattle.std.proofs.Common.{refl, rules}
use Rattle.std.specs.Prelude.{◌≡◌, Err}
use Rattle.refusals.proofs.Answers.{never_zero}
use Rattle.rules_window.proofs.Numbers.{push_asks, push_refused, push_made}
use Rattle.lag_window.proofs.LagWindow.push.Goals as goal

pub returns-in_err-check_push-clause-left : goal.returns-in_err-check_push-clause-left
returns-in_err-check_push-clause-left c = let e : c.from_residual.result ≡ Err c.in_err-check_push.field-0.0 = search rules in rw e (push_refused _ _ _ c.args.lag _ (rw (c.view.ensures.starts, c.view.ensures.totals, c.view.ensures.counts, c.view.ensures.sums) at c.in_err-check_push.ensures) (never_zero _))

pub push-requires : goal.push-requires
push-requires c = push_asks _ _ _ _ (rw (c.view.ensures.starts, c.view.ensures.totals, c.view.ensures.counts, c.view.ensures.sums) at c.in_ok-check_push.ensures) refl

pub returns-clause-left : goal.returns-clause-left
returns-clause-left c = push_made _ _ _ _ _ _ _ (rw (c.view.ensures.starts, c.view.ensures.totals, c.view.ensures.counts, c.view.ensures.sums) at c.in_ok-check_push.ensures) refl c.push.ensures.counts_after c.push.ensures.sums_after
