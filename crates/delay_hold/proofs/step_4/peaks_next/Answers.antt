-- `delay_hold::step_4::peaks_next` meets its contract. Assumes nothing.
use Rattle.delay_hold.proofs.Order.{k_in, join_asks, peaks_are}
use Rattle.delay_hold.specs.Step4Peaks.{old_count}
use Rattle.std.specs.Prelude.{ℕ, List, take}
use mathlib.Core.Path.{ap, ◌∙◌}
use Rattle.delay_hold.proofs.step_4.peaks_next.Goals as goal

pub overflow_sub-n : goal.overflow_sub-n
overflow_sub-n c =
    k_in c.args.n c.args.lists.now.times.now c.args.lists.now.lags.now c.args.window c.args.time c.requires c.count_old-k.result (c.count_old-k.ensures ∙ ap (λ (times : List ℕ). old_count (take c.args.n times) c.args.window c.args.time) c.view.ensures.times)

pub join-requires : goal.join-requires
join-requires c =
    join_asks c.args.n c.args.lists.now.times.now c.args.lists.now.lags.now c.args.window c.args.time c.requires c.count_old-k.result (c.count_old-k.ensures ∙ ap (λ (times : List ℕ). old_count (take c.args.n times) c.args.window c.args.time) c.view.ensures.times) c.shift.new.s c.shift-2.new.s c.shift.ensures c.shift-2.ensures

pub returns-clause-peaks : goal.returns-clause-peaks
returns-clause-peaks c =
    let p = peaks_are c.args.n c.args.lists.now.times.now c.args.lists.now.lags.now c.args.window c.args.time c.requires c.count_old-k.result (c.count_old-k.ensures ∙ ap (λ (times : List ℕ). old_count (take c.args.n times) c.args.window c.args.time) c.view.ensures.times) c.shift.new.s c.shift-2.new.s c.shift.ensures c.shift-2.ensures c.args.lag in (c.join.ensures.joined.0 ∙ p.0, c.join.ensures.joined.1 ∙ p.1, c.join.ensures.joined.2 ∙ p.2)
