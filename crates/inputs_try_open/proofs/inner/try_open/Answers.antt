-- `inputs_try_open::inner::try_open` meets its contract. Assumes nothing.
use Rattle.inputs_commands.proofs.Steps.{does_by, does_quiet}
use mathlib.Core.Path.{refl, sym, ◌∙◌}
use Rattle.rules_routing.proofs.TryOpenCases.{open_nowhere, open_gone, open_found, open_unmade, open_made, slot_pruned, slot_made}
use borrow.Author.Tests.{not-true, not-false}
use Rattle.inputs_try_open.proofs.inner.try_open.Goals as goal

pub returns-in_default : goal.returns-in_default
returns-in_default c = does_by (open_nowhere _ _ _ _ c.slot_at-slot.ensures c.in_default.is) (does_quiet refl)

pub returns-in_default-found : goal.returns-in_default-found
returns-in_default-found c = does_by (open_gone _ _ _ _ c.slot_at-slot.ensures c.in-Some.is c.in_default-found.is) (does_quiet refl)

pub open_reader-requires : goal.open_reader-requires
open_reader-requires c = (c.requires.0, c.requires.1, rw (c.prune_instances-kept.ensures, slot_pruned) c.requires.2)

pub returns-then-found : goal.returns-then-found
returns-then-found c = does_by (open_found _ _ _ _ c.slot_at-slot.ensures c.in-Some.is c.in-Some-found.is (sym c.found.ensures ∙ c.if-found.true) c.prune_instances-kept.ensures) c.open_reader.ensures

pub returns-then-not-world : goal.returns-then-not-world
returns-then-not-world c = does_by (open_unmade _ _ _ _ c.slot_at-slot.ensures c.in-Some.is c.in-Some-found.is (sym c.found.ensures ∙ c.if-found.false) (not-true _ c.if-not-world.true)) (does_quiet refl)

pub open_reader-requires-2 : goal.open_reader-requires-2
open_reader-requires-2 c = (c.requires.0, c.requires.1, rw (c.prune_instances-kept-2.ensures, slot_pruned, c.make-more.ensures, slot_made) c.requires.2)

pub returns : goal.returns
returns c = does_by (open_made _ _ _ _ c.slot_at-slot.ensures c.in-Some.is c.in-Some-found.is (sym c.found.ensures ∙ c.if-found.false) (not-false _ c.if-not-world.false) c.make-more.ensures c.prune_instances-kept-2.ensures) c.open_reader-2.ensures
