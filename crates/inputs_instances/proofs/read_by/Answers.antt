-- `inputs_instances::read_by` meets its contract. Assumes nothing.
use Rattle.std.proofs.Common.{rules, None, Some, ◌≡◌}
use mathlib.Core.Path.{sym, ◌∙◌}
use Rattle.rules_record.specs.declared.State.TheVariants.{Running}
use Rattle.rules_record.proofs.Derived.{state_lt}
use Rattle.rules_record.specs.Prune.{uses_key}
use Rattle.inputs_instances.proofs.read_by.Goals as goal

pub returns-then-lt : goal.returns-then-lt
unfolding uses_key
returns-then-lt c key = rw (sym (c.lt.ensures ∙ state_lt c.args.slot.state Running) ∙ c.if-lt.true)

pub returns-in_err-slot : goal.returns-in_err-slot
unfolding uses_key
returns-in_err-slot c key =
    let route : c.args.slot.route ≡ None = search rules in
    let none : c.from_residual.result ≡ None = search rules in
    rw (sym (c.lt.ensures ∙ state_lt c.args.slot.state Running) ∙ c.if-lt.false, route, none)

pub returns-in_err-slot-2 : goal.returns-in_err-slot-2
unfolding uses_key
returns-in_err-slot-2 c key =
    let route : c.args.slot.route ≡ Some c.in_ok-slot.field-0 = search rules in
    let inode : c.args.slot.inode ≡ None = search rules in
    let none : c.from_residual-in_err-slot-2.result ≡ None = search rules in
    rw (sym (c.lt.ensures ∙ state_lt c.args.slot.state Running) ∙ c.if-lt.false, route, inode, none)

pub returns : goal.returns
unfolding uses_key
returns c key =
    let route : c.args.slot.route ≡ Some c.in_ok-slot.field-0 = search rules in
    let inode : c.args.slot.inode ≡ Some c.in_ok-slot-2.field-0 = search rules in
    rw (sym (c.lt.ensures ∙ state_lt c.args.slot.state Running) ∙ c.if-lt.false, route, inode)
