-- `lag_window::inner::stale` meets its contract. Assumes nothing.
use Rattle.std.proofs.Common.{◌-◌, ◌<◌, ◌≤◌, rules}
use mathlib.Core.Path.{sym, ◌∙◌}
use borrow.Author.Tests.{tests}
use Rattle.std.proofs.lemmas.Iterator.{IsFirst-from_position, YieldsList-from_slice}
use Rattle.base.specs.Limits.{window_reach}
use Rattle.rules_window.proofs.Stales.{stale_told}
use Rattle.lag_window.proofs.inner.stale.Goals as goal

pub returns : goal.returns
returns c =
    c.unwrap_or.ensures
    ∙ sym (stale_told c.args.time c.args.starts.now _
    (IsFirst-from_position _ _ _ (λ x. c.args.time - x ≤ window_reach) (λ x. window_reach < c.args.time - x) c.position.ensures.ran (YieldsList-from_slice c.args.starts.now c.iter.ensures.rest) (λ x q k. search (rules, tests)) (λ x q k. search (rules, tests))))
