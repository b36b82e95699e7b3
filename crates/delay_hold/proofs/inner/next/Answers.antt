-- `delay_hold::inner::next` meets its contract. Assumes nothing.
use Rattle.std.specs.Prelude.{ℕ, List, take}
use Rattle.delay_hold.specs.Step4Peaks.{worst_of}
use Rattle.delay_hold.specs.Steps1To3.{startup_at}
use Rattle.delay_hold.proofs.Composition.{asked_placed, peaks_fit, decision_asks, next_is}
use mathlib.Core.Path.{ap, sym, ◌∙◌}
use lib.Seq.{length-take-le}
use Rattle.delay_hold.proofs.inner.next.Goals as goal

pub peaks_next-n-requires : goal.peaks_next-n-requires
peaks_next-n-requires c =
    asked_placed c.requires.asked.asked c.in_startup-startup.result c.cap-window.result c.cap-window.ensures

pub slice_bounds-worst-end : goal.slice_bounds-worst-end
slice_bounds-worst-end c =
    rw c.view.ensures.lags (sym (length-take-le _ c.peaks_next-n.new.lists.lags.now (peaks_fit c.requires.asked.asked c.in_startup-startup.result c.cap-window.result c.cap-window.ensures c.args.time c.larger_lag.result c.peaks_next-n.result c.peaks_next-n.new.lists.lags.now c.peaks_next-n.ensures.peaks.0 c.peaks_next-n.ensures.peaks.2)))

pub decided-requires : goal.decided-requires
decided-requires c =
    let d = decision_asks c.requires.asked.asked c.in_startup-startup.result c.cap-window.result c.cap-window.ensures c.args.time c.larger_lag.result c.peaks_next-n.result c.peaks_next-n.new.lists.lags.now c.peaks_next-n.ensures.peaks.0 c.peaks_next-n.ensures.peaks.2 c.worst-peak.result (c.worst-peak.ensures ∙ ap (λ (lags : List ℕ). worst_of (take c.peaks_next-n.result lags)) c.view.ensures.lags) c.args.max_lag c.lag_within-lag.result c.lag_within-lag.ensures c.larger_lag.ensures c.late_at-late.result c.with_peaks-before.result c.noted.result c.args.millisecond c.noted.ensures c.with_peaks-before.ensures in (d.0, d.1, d.3)

pub returns-clause-decided : goal.returns-clause-decided
returns-clause-decided c =
    next_is c.requires.asked.asked c.in_startup-startup.result c.cap-window.result c.cap-window.ensures c.args.time c.larger_lag.result c.peaks_next-n.result c.peaks_next-n.new.lists.lags.now c.peaks_next-n.ensures.peaks.0 c.peaks_next-n.ensures.peaks.2 c.worst-peak.result (c.worst-peak.ensures ∙ ap (λ (lags : List ℕ). worst_of (take c.peaks_next-n.result lags)) c.view.ensures.lags) c.args.max_lag c.lag_within-lag.result c.lag_within-lag.ensures c.larger_lag.ensures c.late_at-late.result c.with_peaks-before.result c.noted.result c.args.millisecond c.noted.ensures c.with_peaks-before.ensures c.cap.result _ c.decided.result c.args.may_lower (c.in_startup-startup.ensures ∙ ap (λ (t : ℕ). startup_at t c.args.hold.startup_late c.args.time) c.started_at.ensures) c.cap.ensures c.late_at-late.ensures c.peaks_next-n.ensures.peaks.1 c.decided.ensures
