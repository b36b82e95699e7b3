-- `lag_window::inner::emptied` meets its contract. Assumes nothing.
use Rattle.lag_window.proofs.Emptied.{emptied_is, emptied_sums}
use Rattle.lag_window.proofs.inner.emptied.Goals as goal

pub returns-clause-counts_after : goal.returns-clause-counts_after
returns-clause-counts_after c = emptied_is c.args.window _ _ _ _ _ _ c.requires.shaped (c.fill.ensures.after (λ y e. e)) (c.fill-2.ensures.after (λ y e. e)) (c.fill-3.ensures.after (λ y e. e))

pub returns-clause-sums_after : goal.returns-clause-sums_after
returns-clause-sums_after c = emptied_sums c.args.window c.args.lists.now.sums.now _ c.requires.sums_len (c.fill-4.ensures.after (λ y e. e))
