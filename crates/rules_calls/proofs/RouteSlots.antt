-- What `route` makes of its input's slot: no counter rises and no proposal comes. Assumes nothing.
use Rattle.std.specs.Prelude.{None, Option, Some}
use Prim.Native.Nat.{ℕ, ◌<◌}
use mathlib.Core.Path.{◌≡◌, refl, sym, ap, subst, ◌∙◌}
use mathlib.Core.List.{List}
use lib.Dec.{eqb}
use lib.ListN.{length}
use borrow.Author.Tests.{eqb-true, eqb-false}
use Rattle.base.proofs.Choices.{accepted_all, by_bool, pick_all, yes_pick}
use Rattle.rules_record.specs.declared.Slot.{Slot}
use Rattle.rules_record.specs.declared.Inputs.{Inputs}
use Rattle.rules_record.specs.States.{state_number, is_stalled}
use Rattle.rules_record.specs.Inputs.{slot_at}
use Rattle.rules_record.proofs.Sized.{sized_put}
use Rattle.rules_record.specs.Sized.{Sized}
use Rattle.rules_record.specs.Commands.{quiet}
use Rattle.rules_routing.specs.declared.World.{World}
use Rattle.rules_routing.specs.TryOpen.{running_slot, opened_slot}
use Rattle.rules_routing.proofs.TryOpenOutcomes.{started_slot, open_outcomes}
use Rattle.rules_record.specs.Lent.{Lists}
use Rattle.rules_record.specs.Effects.{Effect, followed_by}
use Rattle.rules_record.specs.Reply.{Reply}
use Rattle.rules_record.proofs.Numbers.{call_low}
use Rattle.rules_routing.specs.Clear.{cleared_slot, cleared}
use Rattle.rules_calls.specs.RouteChecks.{route_number}
use Rattle.rules_calls.specs.Route.{enrolled_for, route_for, equal_route, starts_over, started_over, state_for, routed_slot, opened_for, moved, rerouted, routed_to, routed}
use Rattle.rules_calls.specs.RouteReply.{route_reply}
use Rattle.rules_calls.proofs.Enrolling.{for_slot}
use Rattle.rules_calls.proofs.RouteFrames.{for_sized, route_other, routed_here, placed_here, placed_slot}
use Rattle.rules_calls.specs.declared.Source.{Source}
use Rattle.rules_record.specs.declared.Route.{Route}

-- The counters of z are those of the slot, and where that has no proposal z has none.
pub record Quiet (slot z : Slot) : Type 0 where
  pub reopens : z.reopens ≡ slot.reopens
  pub changes : z.delay_changes ≡ slot.delay_changes
  pub lates : z.late_events ≡ slot.late_events
  pub kind : z.config ≡ slot.config
  pub none : slot.proposed ≡ None → z.proposed ≡ None

pub quiet_same : (slot : Slot) → Quiet slot slot
quiet_same slot = record { reopens = refl; changes = refl; lates = refl; kind = refl; none = λ e. e }

pub quiet_then : (slot x z : Slot) → Quiet slot x → Quiet x z → Quiet slot z
quiet_then slot x z a b =
    record {
      reopens = b.reopens ∙ a.reopens;
      changes = b.changes ∙ a.changes;
      lates = b.lates ∙ a.lates;
      kind = b.kind ∙ a.kind;
      none = λ e. b.none (a.none e);
    }

-- ---- the new route
module _ (new : Option Route) (time : ℕ) (slot : Slot) where
  over_quiet : Quiet slot (started_over new time slot)
  unfolding started_over
  over_quiet = pick_all (Quiet slot) (starts_over new slot) (record { reopens = refl; changes = refl; lates = refl; kind = refl; none = λ e. refl }) (quiet_same slot)

  pub routed_quiet : Quiet slot (cleared_slot (routed_slot new time slot))
  unfolding routed_slot
  routed_quiet =
      let q = over_quiet in
      record { reopens = q.reopens; changes = q.changes; lates = q.lates; kind = q.kind; none = q.none }

-- ---- an input that waits opens
module _ (slot : Slot) (inode head time : ℕ) (waits : state_number slot.state ≡ 1) where
  running_quiet : Quiet slot (running_slot slot inode head time)
  unfolding running_slot
  running_quiet =
      pick_all (Quiet slot) (is_stalled slot.state)
      (record { reopens = refl; changes = refl; lates = refl; kind = refl; none = λ e. e })
      (record { reopens = refl; changes = refl; lates = refl; kind = refl; none = λ e. e })

  opened_running : opened_slot slot inode head time ≡ running_slot slot inode head time
  unfolding opened_slot
  opened_running = yes_pick _ _ (ap (λ (n : ℕ). eqb n 1) waits)

  opened_quiet : Quiet slot (opened_slot slot inode head time)
  opened_quiet = subst (Quiet slot) (sym opened_running) running_quiet

  started_quiet : (delay : ℕ) → Quiet slot (started_slot (opened_slot slot inode head time) delay time)
  started_quiet delay =
      let q = opened_quiet in
      record { reopens = q.reopens; changes = q.changes; lates = q.lates; kind = q.kind; none = q.none }

-- ---- what the call does, in a record that knows the flow
module _ (new : Option Route) (i time : ℕ) (world : World) (s : Inputs) (l : Lists) (low : i < 16) (sized : Sized s) where
  placed_state : (slot_at (placed_here new i time s) i).state ≡ state_for new
  unfolding routed_slot
  placed_state = ap (λ (x : Slot). x.state) (placed_slot new i time s low sized)

  placed_quiet : Quiet (slot_at s i) (slot_at (placed_here new i time s) i)
  placed_quiet = subst (Quiet (slot_at s i)) (sym (placed_slot new i time s low sized)) (routed_quiet new time (slot_at s i))

  opens_quiet : (to : Option Route) → new ≡ to → Quiet (slot_at (placed_here new i time s) i) (slot_at (opened_for to i time world (placed_here new i time s)).inputs i)
  unfolding quiet
  opens_quiet None e = quiet_same (slot_at (placed_here new i time s) i)
  opens_quiet (Some route) e =
      let waits : state_number (slot_at (placed_here new i time s) i).state ≡ 1 = ap state_number (placed_state ∙ ap state_for e) in
      open_outcomes i low (placed_here new i time s) time world (sized_put s i (routed_here new i time s) sized) (λ (x : Slot) (words : List ℕ). Quiet (slot_at (placed_here new i time s) i) x)
      (quiet_same (slot_at (placed_here new i time s) i))
      (λ inode channels of open-to. opened_quiet (slot_at (placed_here new i time s) i) inode world.head time waits)
      (λ inode channels delay of open-to anew most. started_quiet (slot_at (placed_here new i time s) i) inode world.head time waits delay)

  moved_quiet : Quiet (slot_at s i) (slot_at (moved new i time world s l).inputs i)
  unfolding moved followed_by cleared
  moved_quiet = quiet_then _ _ _ placed_quiet (opens_quiet new refl)

  pub to_quiet : Quiet (slot_at s i) (slot_at (routed_to new i time world s l).inputs i)
  unfolding routed_to rerouted
  to_quiet = pick_all (λ (effect : Effect). Quiet (slot_at s i) (slot_at effect.inputs i)) (equal_route new (slot_at s i).route) (quiet_same (slot_at s i)) moved_quiet

-- ---- the call, accepted or refused
module _ (s : Inputs) (l : Lists) (commands : List ℕ) (input : ℕ) (wanted : Option Source) (time : ℕ) (world : World) (sized : Sized s) where
  pub routed_input_quiet : input < 16 → Quiet (slot_at s input) (slot_at (routed input wanted time world s l).inputs input)
  unfolding routed
  routed_input_quiet low =
      subst (λ (x : Slot). Quiet x (slot_at (routed input wanted time world s l).inputs input)) (for_slot s wanted input)
      (to_quiet (route_for (enrolled_for s wanted) wanted) input time world (enrolled_for s wanted) l low (for_sized s wanted sized))

  route_input_quiet : Quiet (slot_at s input) (slot_at (route_reply s l commands input wanted time world).inputs input)
  unfolding route_reply route_number
  route_input_quiet =
      accepted_all (λ (reply : Reply). Quiet (slot_at s input) (slot_at reply.inputs input)) (route_number s l (length commands) input wanted time world) _ _ (quiet_same (slot_at s input))
      (λ e. routed_input_quiet (call_low s l (length commands) input time _ e))

  -- no counter of any input rises, and none gets a proposal
  pub route_quiet : (j : ℕ) → Quiet (slot_at s j) (slot_at (route_reply s l commands input wanted time world).inputs j)
  route_quiet j =
      by_bool (eqb j input)
      (λ e. subst (λ (k : ℕ). Quiet (slot_at s k) (slot_at (route_reply s l commands input wanted time world).inputs k)) (sym (eqb-true j input e)) route_input_quiet)
      (λ e. subst (Quiet (slot_at s j)) (sym (route_other s l commands input wanted time world j (eqb-false j input e))) (quiet_same (slot_at s j)))
