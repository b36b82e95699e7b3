-- `inputs_tick_input::inner::moves` meets its contract. Assumes nothing.
use Rattle.inputs_tick_input.proofs.Moving.{only_moves}
use Rattle.base.proofs.Tests.{not_both}
use mathlib.Core.Path.{refl, sym, ◌∙◌}
use borrow.Author.Tests.{ltb-false}
use Rattle.rules_record.specs.declared.State.TheVariants.{Running}
use Rattle.rules_record.proofs.Derived.{state_lt}
use Rattle.inputs_tick_input.proofs.inner.moves.Goals as goal

pub returns-then-lt : goal.returns-then-lt
returns-then-lt c = λ e. absurd (not_both e refl)

pub returns-in-Moved : goal.returns-in-Moved
returns-in-Moved c = λ e. only_moves _ _ refl (ltb-false _ _ (sym (c.lt.ensures ∙ state_lt c.args.slot.state Running) ∙ c.if-lt.false)) c.finds-found.ensures c.in-Moved.is

pub returns-in_default : goal.returns-in_default
returns-in_default c = λ e. absurd (not_both e refl)
