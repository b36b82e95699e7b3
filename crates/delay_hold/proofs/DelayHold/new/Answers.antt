-- `delay_hold::DelayHold::new` meets its contract. Assumes nothing.
use Rattle.std.proofs.Common.{refl}
use Rattle.delay_hold.specs.Next.{fresh_hold}
use Rattle.base.proofs.All.{told_yes, told_no}
use Rattle.delay_hold.proofs.Seen.{seen_lent}
use Rattle.delay_hold.specs.Checks.{lists_fit}
use mathlib.Core.Path.{ap, ◌∙◌}
use Rattle.delay_hold.proofs.Gate.{new_refused, new_made}
use Rattle.delay_hold.proofs.DelayHold.new.Goals as goal

pub returns-then-not-lists_fit-clause-left : goal.returns-then-not-lists_fit-clause-left
returns-then-not-lists_fit-clause-left c = new_refused _ _ _ refl (told_no _ _ (c.lists_fit.ensures fresh_hold ∙ ap lists_fit (seen_lent fresh_hold c.view.ensures.times c.view.ensures.lags)) c.if-not-lists_fit.true)

pub returns-clause-left : goal.returns-clause-left
returns-clause-left c =
    new_made _ _ _ _ _ c.cleared.ensures.cleared (told_yes _ _ (c.lists_fit.ensures fresh_hold ∙ ap lists_fit (seen_lent fresh_hold c.view.ensures.times c.view.ensures.lags)) c.if-not-lists_fit.false)
