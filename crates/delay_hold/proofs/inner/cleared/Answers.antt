-- `delay_hold::inner::cleared` meets its contract. Assumes nothing.
use Rattle.delay_hold.proofs.inner.cleared.Goals as goal

pub returns-clause-cleared : goal.returns-clause-cleared
returns-clause-cleared c =
    simp (c.fresh.ensures, (c.fill.ensures.after (λ y e. e)), (c.fill-2.ensures.after (λ y e. e)))
