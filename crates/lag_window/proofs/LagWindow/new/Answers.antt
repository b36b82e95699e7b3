-- `lag_window::LagWindow::new` meets its contract. Assumes nothing.
use Rattle.std.proofs.Common.{refl, rules}
use Rattle.std.specs.Prelude.{◌≡◌, Err}
use Rattle.refusals.proofs.Answers.{never_zero}
use Rattle.rules_window.proofs.Numbers.{new_settings, new_asks, new_refused, new_made}
use Rattle.lag_window.proofs.LagWindow.new.Goals as goal

pub returns-in_err-check_new-clause-left : goal.returns-in_err-check_new-clause-left
returns-in_err-check_new-clause-left c = let e : c.from_residual.result ≡ Err c.in_err-check_new.field-0.0 = search rules in rw e (new_refused _ _ _ _ _ _ _ _ (rw (c.view.ensures.starts, c.view.ensures.totals, c.view.ensures.counts, c.view.ensures.sums) at c.in_err-check_new.ensures) (never_zero _))

pub buckets_of-buckets-requires : goal.buckets_of-buckets-requires
buckets_of-buckets-requires c = new_settings _ _ _ _ _ _ _ _ (rw (c.view.ensures.starts, c.view.ensures.totals, c.view.ensures.counts, c.view.ensures.sums) at c.in_ok-check_new.ensures) refl

pub emptied-requires : goal.emptied-requires
emptied-requires c = let h = new_asks _ _ _ _ _ _ c.args.lists.now.sums.now _ _ (rw (c.view.ensures.starts, c.view.ensures.totals, c.view.ensures.counts, c.view.ensures.sums) at c.in_ok-check_new.ensures) refl c.buckets_of-buckets.ensures in record { shaped = h.0; sums_len = h.1 }

pub returns-clause-left : goal.returns-clause-left
returns-clause-left c = new_made _ _ _ _ _ _ _ _ _ _ _ (rw (c.view.ensures.starts, c.view.ensures.totals, c.view.ensures.counts, c.view.ensures.sums) at c.in_ok-check_new.ensures) refl c.buckets_of-buckets.ensures c.emptied.ensures.counts_after c.emptied.ensures.sums_after
