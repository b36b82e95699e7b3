-- `inputs_tick_input::inner::rests` meets its contract. Assumes nothing.
use mathlib.Core.Path.{refl, sym, ◌∙◌}
use borrow.Author.Tests.{ltb-false}
use Rattle.rules_record.specs.declared.State.TheVariants.{Waiting}
use Rattle.rules_record.proofs.Derived.{state_lt, state_not_same, state_not_other}
use native.Mathlib.Omega.{arith}
use Rattle.base.proofs.Tests.{not_both}
use Rattle.rules_tick.proofs.Looking.{still_unrouted, still_waiting}
use Rattle.inputs_tick_input.proofs.inner.rests.Goals as goal

pub returns-then-lt : goal.returns-then-lt
returns-then-lt c = λ e. absurd (not_both e refl)

pub returns-then-ne : goal.returns-then-ne
returns-then-ne c = λ e. still_unrouted _ _ refl (omega (arith, ltb-false _ _ (sym (c.lt.ensures ∙ state_lt Waiting c.args.slot.state) ∙ c.if-lt.false))) (state_not_same c.args.slot.state Waiting c.ne.ensures c.if-ne.true)

pub returns-in_default : goal.returns-in_default
returns-in_default c = λ e. still_waiting _ _ refl (state_not_other c.args.slot.state Waiting c.ne.ensures c.if-ne.false) c.in_default.is

pub returns : goal.returns
returns c = λ e. absurd (not_both e refl)
