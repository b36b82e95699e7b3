-- `delay_hold::step_4::count_old` meets its contract. Assumes nothing.
use Rattle.std.proofs.Common.{◌-◌, ◌<◌, ◌≤◌, rules}
use mathlib.Core.Path.{sym, ◌∙◌}
use borrow.Author.Tests.{tests}
use Rattle.std.proofs.lemmas.Iterator.{IsFirst-from_position, YieldsList-from_slice}
use Rattle.delay_hold.proofs.Loops.{old_told}
use Rattle.delay_hold.proofs.step_4.count_old.Goals as goal

pub returns : goal.returns
returns c =
    c.unwrap_or.ensures
    ∙ sym (old_told c.args.window c.args.time c.args.times.now _
    (IsFirst-from_position _ _ _ (λ x. c.args.time - x < c.args.window) (λ x. c.args.window ≤ c.args.time - x) c.position.ensures.ran (YieldsList-from_slice c.args.times.now c.iter.ensures.rest) (λ x q k. search (rules, tests)) (λ x q k. search (rules, tests))))
