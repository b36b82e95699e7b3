-- `inputs_route::route` meets its contract. Assumes nothing.
use Rattle.std.proofs.Common.{refl, rules}
use Rattle.std.specs.Prelude.{◌≡◌, ℕ, Err, Option}
use Rattle.refusals.proofs.Answers.{never_zero}
use Rattle.inputs_commands.proofs.Steps.{appends_first, left_by}
use Rattle.rules_calls.proofs.RouteReplies.{route_refused, route_equal, announce_asked, clear_asked, open_asked, route_moved}
use mathlib.Core.Path.{ap, ◌∙◌}
use Rattle.rules_record.specs.declared.Inputs.{Inputs}
use Rattle.rules_record.specs.Lent.{Lists}
use Rattle.rules_calls.specs.declared.Source.{Source}
use Rattle.rules_routing.specs.declared.World.{World}
use Rattle.rules_calls.specs.RouteChecks.{route_number}
use Rattle.inputs_route.proofs.route.Goals as goal

-- what the checks say of the lists that they read is so of the lists that were lent
number_lent : (s : Inputs) (words input : ℕ) (wanted : Option Source) (time : ℕ) (world : World) {read lent : Lists} {n : ℕ} → read ≡ lent → n ≡ route_number s read words input wanted time world → n ≡ route_number s lent words input wanted time world
number_lent s words input wanted time world e h = h ∙ ap (λ (l : Lists). route_number s l words input wanted time world) e

pub returns-in_err-check_route-clause-left : goal.returns-in_err-check_route-clause-left
returns-in_err-check_route-clause-left c = let e : c.from_residual.result ≡ Err c.in_err-check_route.field-0.0 = search rules in rw e (route_refused _ _ _ _ _ _ _ (number_lent _ _ _ _ _ _ c.view.ensures c.in_err-check_route.ensures) (never_zero _))

pub returns-then-equal_route-clause-left : goal.returns-then-equal_route-clause-left
returns-then-equal_route-clause-left c = route_equal _ _ c.args.commands.now _ _ _ _ (number_lent _ _ _ _ _ _ c.view.ensures c.in_ok-check_route.ensures) refl c.enrolled_for-known.ensures c.route_for-new.ensures c.slot_at-slot.ensures (c.fill.ensures.after (λ y e. e)) c.equal_route.ensures c.if-equal_route.true

pub announce-requires : goal.announce-requires
announce-requires c = announce_asked _ _ c.args.commands.now _ _ _ _ (number_lent _ _ _ _ _ _ c.view.ensures c.in_ok-check_route.ensures) refl c.enrolled_for-known.ensures c.route_for-new.ensures c.slot_at-slot.ensures (c.fill.ensures.after (λ y e. e))

pub clear-all-requires : goal.clear-all-requires
clear-all-requires c = let h = clear_asked _ _ c.args.commands.now _ _ _ _ (number_lent _ _ _ _ _ _ c.view.ensures c.in_ok-check_route.ensures) refl c.enrolled_for-known.ensures c.route_for-new.ensures c.slot_at-slot.ensures (c.fill.ensures.after (λ y e. e)) in record { fitting = h.0; i_lt_count = h.1 }

pub open_for-requires : goal.open_for-requires
open_for-requires c = open_asked _ _ c.args.commands.now _ _ _ _ (number_lent _ _ _ _ _ _ c.view.ensures c.in_ok-check_route.ensures) refl c.enrolled_for-known.ensures c.route_for-new.ensures c.slot_at-slot.ensures (c.fill.ensures.after (λ y e. e)) (appends_first refl c.announce.ensures) c.routed_slot-changed.ensures c.clear-all.ensures.cleared

pub returns-clause-left : goal.returns-clause-left
returns-clause-left c = left_by (route_moved _ _ c.args.commands.now _ _ _ _ (number_lent _ _ _ _ _ _ c.view.ensures c.in_ok-check_route.ensures) refl c.enrolled_for-known.ensures c.route_for-new.ensures c.slot_at-slot.ensures (c.fill.ensures.after (λ y e. e)) (appends_first refl c.announce.ensures) c.routed_slot-changed.ensures c.clear-all.ensures.cleared c.equal_route.ensures c.if-equal_route.false c.open_for.ensures.did) (search (rules, c.open_for.ensures.same, c.announce.ensures.same))
