-- `delay_hold::whole::times_timely` meets its contract. Assumes nothing.
use Rattle.std.proofs.Common.{arith, rules}
use Rattle.base.proofs.Rows.{up_to_told}
use borrow.Author.Tests.{tests}
use Rattle.delay_hold.proofs.whole.times_timely.Goals as goal

pub returns : goal.returns
returns c = up_to_told _ _ _ (omega arith) _ _ _ c.iter.ensures.rest c.all.ensures.ran (λ x q k. search (rules, tests)) (λ x q k. search (rules, tests))
