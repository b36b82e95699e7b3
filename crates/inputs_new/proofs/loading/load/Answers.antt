-- `inputs_new::loading::load` meets its contract. Assumes nothing.
use mathlib.Core.Path.{refl, sym, ap, ◌∙◌}
use Rattle.std.specs.Prelude.{Option}
use Rattle.std.specs.Option.{is_some, unwrap_or}
use Rattle.rules_record.specs.declared.Inputs.{Inputs}
use Rattle.base.proofs.Tests.{not_both}
use Rattle.rules_calls.proofs.NewLoops.{loading_none, loading_stop, loading_more, loading_fits, loading_end}
use Rattle.inputs_new.proofs.loading.load.Goals as goal

pub loop-k-init : goal.loop-k-init
loop-k-init c = loading_none _ _ _

pub returns-then-not-has_room : goal.returns-then-not-has_room
returns-then-not-has_room c = record { fits_value = loading_stop _ _ _ c.loop-k.invariant c.loop-k-test.true c.flow_of-flow.ensures c.has_room.ensures (c.if-not-has_room.true); inputs_value = λ all e. absurd (not_both refl (sym (ap is_some e))) }

pub loop-k-preserved : goal.loop-k-preserved
loop-k-preserved c = loading_more _ _ _ c.loop-k.invariant c.loop-k-test.true c.flow_of-flow.ensures c.has_room.ensures (c.if-not-has_room.false) c.load_one-all.ensures

pub returns : goal.returns
returns c = record { fits_value = loading_fits _ _ _ c.loop-k.invariant c.loop-k-test.false; inputs_value = λ all e. sym (ap (λ (o : Option Inputs). unwrap_or o c.loop-k.all) e) ∙ loading_end _ _ _ c.loop-k.invariant c.loop-k-test.false }
