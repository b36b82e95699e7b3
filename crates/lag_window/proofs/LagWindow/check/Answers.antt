-- `lag_window::LagWindow::check` meets its contract. Assumes nothing.
use Rattle.base.proofs.All.{told_yes}
use Rattle.buckets.proofs.Told.{buckets_told}
use Rattle.lag_window.proofs.Fits.{fit_asks}
use Rattle.lag_window.proofs.LagWindow.check.Goals as goal

pub lists_fit-requires : goal.lists_fit-requires
lists_fit-requires c = (buckets_told _ (told_yes _ _ c.buckets_allowed.ensures c.if-not-buckets_allowed.false)).1

pub whole-requires : goal.whole-requires
whole-requires c =
    let h = fit_asks c.args.self c.args.lists (told_yes _ _ c.width_allowed.ensures c.if-not-width_allowed.false) (told_yes _ _ c.buckets_allowed.ensures c.if-not-buckets_allowed.false) (told_yes _ _ c.lists_fit.ensures c.if-not-lists_fit.false) in
    record { shaped = h.0; sums_len = h.1 }
