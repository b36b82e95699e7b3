-- `inputs_status::has_channels` meets its contract. Assumes nothing.
use Rattle.rules_record.proofs.Derived.{state_same, state_other}
use Rattle.rules_record.specs.declared.State.TheVariants.{Running}
use Rattle.std.proofs.Common.{refl, rules}
use Rattle.std.specs.Prelude.{◌≡◌, Err}
use Rattle.refusals.proofs.Answers.{never_zero}
use mathlib.Core.Path.{◌∙◌}
use Rattle.rules_calls.specs.HasChannels.{has_channels_reply}
use Rattle.rules_calls.proofs.StatusReplies.{answer_refused, answer_accepted, channels_idle, channels_running}
use Rattle.inputs_status.proofs.has_channels.Goals as goal

pub returns-in_err-check_channels : goal.returns-in_err-check_channels
unfolding has_channels_reply
returns-in_err-check_channels c = let e : c.from_residual.result ≡ Err c.in_err-check_channels.field-0.0 = search rules in rw e (answer_refused _ c.in_err-check_channels.ensures (never_zero _) _)

pub returns-then-eq : goal.returns-then-eq
unfolding has_channels_reply
returns-then-eq c = answer_accepted _ c.in_ok-check_channels.ensures refl _ (channels_running c.slot_at-slot.ensures refl (state_same c.slot_at-slot.result.state Running c.eq.ensures c.if-eq.true) _ _)

pub returns-else-eq : goal.returns-else-eq
unfolding has_channels_reply
returns-else-eq c = answer_accepted _ c.in_ok-check_channels.ensures refl _ (c.if-eq.false ∙ channels_idle c.slot_at-slot.ensures refl (state_other c.slot_at-slot.result.state Running c.eq.ensures c.if-eq.false) _ _)
