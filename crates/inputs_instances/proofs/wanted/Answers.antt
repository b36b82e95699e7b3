-- `inputs_instances::wanted` meets its contract. Assumes nothing.
use Rattle.std.proofs.Common.{rules}
use mathlib.Core.Path.{sym, ◌∙◌}
use Rattle.rules_record.proofs.Derived.{extra_eq}
use Rattle.rules_record.proofs.InstanceCases.{told_read}
use Rattle.inputs_instances.proofs.wanted.Goals as goal

pub returns-then-eq : goal.returns-then-eq
returns-then-eq c = rw (sym (c.eq.ensures ∙ extra_eq c.args.extra c.args.key) ∙ c.if-eq.true)

pub returns : goal.returns
returns c = rw (sym (c.eq.ensures ∙ extra_eq c.args.extra c.args.key) ∙ c.if-eq.false) (told_read c.args.read (search (rules, c.well_formed)) c.args.key c.contains.ensures.value)
