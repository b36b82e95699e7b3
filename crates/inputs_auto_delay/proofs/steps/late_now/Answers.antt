-- `inputs_auto_delay::steps::late_now` meets its contract. Assumes nothing.
use Rattle.rules_record.proofs.Derived.{state_not_same, state_not_other}
use Rattle.rules_record.specs.declared.State.TheVariants.{Running}
use Rattle.rules_tick.proofs.LateCases.{late_not_running, late_none, late_beyond, late_within}
use Rattle.inputs_auto_delay.proofs.steps.late_now.Goals as goal

pub returns-then-ne : goal.returns-then-ne
returns-then-ne c = late_not_running _ _ _ _ (state_not_same c.args.slot.state Running c.ne.ensures c.if-ne.true)

pub returns-in_default : goal.returns-in_default
returns-in_default c = late_none _ _ _ _ (state_not_other c.args.slot.state Running c.ne.ensures c.if-ne.false) c.in_default.is

pub returns-then-policy-lag : goal.returns-then-policy-lag
returns-then-policy-lag c = late_beyond _ _ _ _ (state_not_other c.args.slot.state Running c.ne.ensures c.if-ne.false) _ c.in-Some.is c.if-policy-lag.true

pub returns : goal.returns
returns c = late_within _ _ _ _ (state_not_other c.args.slot.state Running c.ne.ensures c.if-ne.false) _ c.in-Some.is c.if-policy-lag.false
