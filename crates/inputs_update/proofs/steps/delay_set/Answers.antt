-- `inputs_update::steps::delay_set` meets its contract. Assumes nothing.
use Rattle.std.proofs.Common.{rules, ◌∙◌}
use Rattle.rules_calls.proofs.UpdateParts.{set_by}
use Rattle.inputs_update.proofs.steps.delay_set.Goals as goal

pub returns : goal.returns
returns c = let h = set_by _ _ _ _ _ _ (c.fill.ensures.after (λ y e. e)) c.put_slot-all.ensures c.requires.0 c.set_delay.ensures.did in (h.0, search (rules, c.set_delay.ensures.same) ∙ h.1)
