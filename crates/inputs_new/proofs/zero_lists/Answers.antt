-- `inputs_new::zero_lists` meets its contract. Assumes nothing.
use Rattle.rules_record.specs.Lent.{lists}
use Rattle.inputs_new.proofs.zero_lists.Goals as goal

pub returns-clause-zeroed : goal.returns-clause-zeroed
returns-clause-zeroed c = λ t. lists ((c.fill.ensures.after (λ y e. e)) t) ((c.fill-2.ensures.after (λ y e. e)) t) ((c.fill-3.ensures.after (λ y e. e)) t) ((c.fill-4.ensures.after (λ y e. e)) t) ((c.fill-5.ensures.after (λ y e. e)) t) ((c.fill-6.ensures.after (λ y e. e)) t)
