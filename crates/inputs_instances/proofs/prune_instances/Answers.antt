-- `inputs_instances::prune_instances` meets its contract. Assumes nothing.
use Rattle.std.proofs.Common.{rules, ℕ, length, take}
use native.Mathlib.Omega.{arith}
use mathlib.Core.Path.{◌≡◌, ◌∙◌}
use Rattle.std.proofs.lemmas.List.{get_or-take, length-take-le}
use Rattle.rules_record.specs.declared.Inputs.{Inputs}
use Rattle.rules_record.specs.Instances.{no_key, keys_held}
use Rattle.rules_record.proofs.InstanceCases.{held_most, table_key, told_wanted, prune_start, prune_keeps, prune_drops, prune_ends}
use Rattle.inputs_instances.proofs.prune_instances.Goals as goal
use Rattle.inputs_instances.proofs.prune_instances.Goals.{then-wanted, else-wanted}

-- the places in use, as many as they are
table_long : (s : Inputs) → length s.instances ≡ 18 → {n : ℕ} → n ≡ keys_held s → length (take n s.instances) ≡ n
table_long s long is = length-take-le _ _ (omega (arith, held_most s, is, long))

pub shared_ref_as_front-key-items : goal.shared_ref_as_front-key-items
shared_ref_as_front-key-items c = rw c.places-n.ensures (held_most _)

pub loop-key-init : goal.loop-key-init
unfolding no_key
loop-key-init c = prune_start _ _ _

pub offset_bounds-kept-count : goal.offset_bounds-kept-count
offset_bounds-kept-count c = let within = rw (table_long c.args.inputs (search (rules, c.well_formed)) c.places-n.ensures) at c.loop-key-test.true in omega (arith, held_most c.args.inputs, c.places-n.ensures, c.loop-key.invariant.few, within)

pub bounds-kept-count : goal.bounds-kept-count
bounds-kept-count c = let within = rw (table_long c.args.inputs (search (rules, c.well_formed)) c.places-n.ensures) at c.loop-key-test.true in omega (arith, held_most c.args.inputs, c.places-n.ensures, c.loop-key.invariant.few, within)

pub overflow_add-count : goal.overflow_add-count
overflow_add-count c = let within = rw (table_long c.args.inputs (search (rules, c.well_formed)) c.places-n.ensures) at c.loop-key-test.true in omega (arith, held_most c.args.inputs, c.places-n.ensures, c.loop-key.invariant.few, within)

pub loop-key-preserved : goal.loop-key-preserved
unfolding no_key
loop-key-preserved c =
    let within = rw (table_long c.args.inputs (search (rules, c.well_formed)) c.places-n.ensures) at c.loop-key-test.true in
    let at = get_or-take c.places-n.result c.args.inputs.instances c.loop-key.key-index no_key within ∙ table_key c.args.inputs c.loop-key.key-index (omega (arith, held_most c.args.inputs, c.places-n.ensures, within)) in
    let told = told_wanted c.args.inputs c.args.extra _ c.all_read-read.result c.all_read-read.ensures c.wanted.ensures in
    elim c.if-wanted.branch [
      | then-wanted w ↦ prune_keeps c.loop-key.invariant within at told w.if-wanted.true w.kept-is w.count-is
      | else-wanted w ↦ prune_drops c.loop-key.invariant within at told w.if-wanted.false w.kept-is w.count-is
    ]

pub returns : goal.returns
returns c = prune_ends c.loop-key.invariant (rw (← table_long c.args.inputs (search (rules, c.well_formed)) c.places-n.ensures) c.loop-key-test.false) c.places-n.ensures
