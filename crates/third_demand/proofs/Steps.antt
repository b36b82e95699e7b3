-- One accepted call: what it keeps and what its commands tell, with confirmation and without; and without it, the call as events. Assumes nothing.
use Rattle.std.specs.Prelude.{Option}
use Prim.Native.Nat.{ℕ, ◌+◌, ◌*◌, ◌≤◌, ◌<◌}
use mathlib.Core.Bool.{false}
use mathlib.Core.Path.{◌≡◌, sym, ap, subst, ◌∙◌}
use mathlib.Core.List.{List, [], ◌∷◌, ◌++◌}
use native.Mathlib.Omega.{arith}
use lib.ListN.{length}
use Rattle.base.proofs.Choices.{accepted_new}
use Rattle.policy.specs.declared.DelayPolicy.{DelayPolicy}
use Rattle.rules_calls.specs.declared.DelaySetting.{DelaySetting}
use Rattle.rules_record.specs.States.{is_running}
use Rattle.rules_record.specs.Inputs.{slot_at}
use Rattle.rules_routing.specs.declared.World.{World}
use Rattle.rules_record.specs.Effects.{Effect}
use Rattle.rules_record.specs.Reply.{Reply, carried_out}
use Rattle.rules_record.specs.Facts.{Checked}
use Rattle.rules_record.proofs.Numbers.{call_low}
use Rattle.rules_routing.proofs.SettingsKept.{settings_then}
use Rattle.rules_tick.specs.AutoDelay.{goes_on}
use Rattle.rules_tick.proofs.Raised.{Raised}
use Rattle.rules_calls.specs.UpdateChecks.{update_number}
use Rattle.rules_calls.specs.Update.{kind_of, updated}
use Rattle.rules_calls.specs.UpdateReply.{update_reply}
use Rattle.rules_calls.proofs.UpdateKeeps.{update_keeps}
use Rattle.rules_calls.specs.RouteChecks.{route_number}
use Rattle.rules_calls.specs.Route.{routed}
use Rattle.rules_calls.specs.RouteReply.{route_reply}
use Rattle.rules_calls.proofs.RouteKeeps.{route_keeps}
use Rattle.rules_calls.specs.declared.Settings.{Settings}
use Rattle.rules_calls.specs.NewRecord.{policy_of, blank_for}
use Rattle.rules_tick.specs.declared.Look.{Look}
use Rattle.rules_tick.specs.Looks.{lags_of}
use Rattle.rules_tick.specs.TickChecks.{tick_number}
use Rattle.rules_tick.specs.Tick.{ticked}
use Rattle.rules_tick.specs.TickReply.{tick_reply}
use Rattle.rules_tick.proofs.TickFrames.{tick_settings}
use Rattle.rules_tick.proofs.TickKeeps.{MayCount, tick_keeps}
use Rattle.rules_tick.proofs.TickCounters.{tick_raised}
use Rattle.rules_tick.proofs.TickAccepted.{tick_accepted}
use Rattle.rules_tick.proofs.TickProposals.{ticked_proposed}
use Rattle.history.specs.View.{tick_of}
use Rattle.third_demand.specs.Calls.{Call, routes, updates, ticks, after, Accepted}
use Rattle.third_demand.proofs.Lifted.{Lifted, TickLifted}
use Rattle.third_demand.proofs.Told.{step_told}
use Rattle.third_demand.proofs.Given.{given_count, given_policy, given_confirm, given_input, passed_of}
use Rattle.third_demand.proofs.CallViews.{CallOn, call_lifted, call_proposed, call_reopens, call_changes, call_lates}
use Rattle.third_demand.proofs.UpdateViews.{update_call, update_reply_law}
use Rattle.third_demand.proofs.RouteViews.{route_call, route_reply_law}
use Rattle.third_demand.proofs.TickViews.{tick_lifted}
use Rattle.third_demand.proofs.Lengths.{Few, padded_long, updated_few, routed_few, ticked_few}
use Rattle.third_demand.proofs.Good.{Counted, Sure, Unproposed, Good, most, seen_at, SureStep, Step, Alone, Laws}
use Rattle.rules_calls.specs.declared.Source.{Source}

-- ---- the commands
module _ (settings : Settings) (n : ℕ) (r : Reply) (g : Sure settings n r) where
  low : (i : ℕ) → i < settings.count → i < 16
  low i h = omega (arith, given_input settings r.inputs g.same i h, g.checked.fitting.allowed.most)

  -- the lent list keeps its length
  long_after : (z : Reply) (number : ℕ) (effect : Effect) → z ≡ carried_out number r.commands effect → Few (length r.commands) effect.words → length z.commands ≡ settings.count * 12
  long_after z number effect e few = ap (λ (x : Reply). length x.commands) e ∙ padded_long (length r.commands) effect.words few ∙ g.long

  -- it has room for four commands, and for four an input
  room : (k : ℕ) (words : List ℕ) → k ≤ 12 → Few k words → Few (length r.commands) words
  room k words le few = omega (arith, le, few, g.long, given_count settings r.inputs g.same, g.checked.fitting.allowed.least)

  room_all : (words : List ℕ) → Few (r.inputs.count * 12) words → Few (length r.commands) words
  room_all words few = omega (arith, few, g.long, ap (λ (x : ℕ). x * 12) (given_count settings r.inputs g.same))

  -- ---- a call on one input
  module _ (input time : ℕ) (z : Reply) (on : CallOn input time r.inputs r.lists z.inputs z.lists) (kept : Checked z.inputs z.lists) (long : length z.commands ≡ settings.count * 12) where
    sure_on : Sure settings (n + 1) z
    sure_on = record {
      checked = kept;
      same = settings_then (blank_for settings) r.inputs z.inputs g.same on.settings;
      long = long;
      counted = λ i h.
          let c = g.counted i h in
          record {
            reopens = omega (arith, call_reopens input time r.inputs r.lists z.inputs z.lists on i, c.reopens);
            changes = omega (arith, call_changes input time r.inputs r.lists z.inputs z.lists on i, c.changes);
            lates = omega (arith, call_lates input time r.inputs r.lists z.inputs z.lists on i, c.lates);
          };
    }

    unproposed_on : Unproposed settings r → Unproposed settings z
    unproposed_on none i h = call_proposed input time r.inputs r.lists z.inputs z.lists on i (none i h)

    lifted_on : (i : ℕ) → i < settings.count → Lifted (policy_of settings) time (seen_at r i) (seen_at z i)
    lifted_on i h =
        subst (λ (policy : DelayPolicy). Lifted policy time (seen_at r i) (seen_at z i)) (given_policy settings r.inputs g.same)
        (call_lifted input time r.inputs r.lists z.inputs z.lists on i (given_input settings r.inputs g.same i h))

    alone_on : (i : ℕ) → i < settings.count → (input ≡ i → ⊥) → Alone i r z
    alone_on i h apart = record {
      slot = on.other_slot i (λ e. apart (sym e));
      view = on.other_view i (given_input settings r.inputs g.same i h) (λ e. apart (sym e));
    }

  -- ---- `update`
  module _ (input : ℕ) (setting : DelaySetting) (time : ℕ) (took : Accepted r (updates input setting time)) where
    update_passed : update_number r.inputs r.lists (length r.commands) input setting time ≡ 0
    unfolding after update_reply
    update_passed = passed_of _ r.inputs r.lists r.commands (updated input (kind_of setting) time r.inputs r.lists) took

    update_on : CallOn input time r.inputs r.lists (after r (updates input setting time)).inputs (after r (updates input setting time)).lists
    unfolding after
    update_on = update_call r.inputs r.lists r.commands input setting time update_passed g.checked.sized

    update_sure : Sure settings (n + 1) (after r (updates input setting time))
    unfolding after
    update_sure =
        sure_on input time (after r (updates input setting time)) update_on (update_keeps r.inputs r.lists r.commands input g.checked setting time)
        (long_after _ _ (updated input (kind_of setting) time r.inputs r.lists) (update_reply_law r.inputs r.lists r.commands input setting time update_passed) (room 3 (updated input (kind_of setting) time r.inputs r.lists).words (omega arith) (updated_few input (kind_of setting) time r.inputs r.lists)))

    update_step : Unproposed settings r → Step settings n r (updates input setting time)
    unfolding after
    update_step none = record {
      good = record { sure = update_sure; unproposed = unproposed_on input time (after r (updates input setting time)) update_on update_sure.checked update_sure.long none };
      lifted = lifted_on input time (after r (updates input setting time)) update_on update_sure.checked update_sure.long;
    }

  -- ---- `route`
  module _ (input : ℕ) (wanted : Option Source) (time : ℕ) (world : World) (took : Accepted r (routes input wanted time world)) where
    route_passed : route_number r.inputs r.lists (length r.commands) input wanted time world ≡ 0
    unfolding after route_reply
    route_passed = passed_of _ r.inputs r.lists r.commands (routed input wanted time world r.inputs r.lists) took

    route_on : CallOn input time r.inputs r.lists (after r (routes input wanted time world)).inputs (after r (routes input wanted time world)).lists
    unfolding after
    route_on = route_call r.inputs r.lists r.commands input wanted time world route_passed g.checked.sized

    route_low : input < 16
    unfolding route_number
    route_low = call_low r.inputs r.lists (length r.commands) input time _ route_passed

    route_sure : Sure settings (n + 1) (after r (routes input wanted time world))
    unfolding after
    route_sure =
        sure_on input time (after r (routes input wanted time world)) route_on (route_keeps r.inputs r.lists r.commands input wanted time world g.checked)
        (long_after _ _ (routed input wanted time world r.inputs r.lists) (route_reply_law r.inputs r.lists r.commands input wanted time world route_passed)
        (room 12 (routed input wanted time world r.inputs r.lists).words (omega arith) (routed_few input route_low time world wanted r.inputs r.lists g.checked.sized)))

    route_step : Unproposed settings r → Step settings n r (routes input wanted time world)
    unfolding after
    route_step none = record {
      good = record { sure = route_sure; unproposed = unproposed_on input time (after r (routes input wanted time world)) route_on route_sure.checked route_sure.long none };
      lifted = lifted_on input time (after r (routes input wanted time world)) route_on route_sure.checked route_sure.long;
    }

  -- ---- `tick`
  module _ (few : n < most) (looks : List Look) (lags : List ℕ) (time : ℕ) (took : Accepted r (ticks looks lags time)) where
    abbrev after_tick : Reply
    after_tick = after r (ticks looks lags time)

    tick_passed : tick_number r.inputs r.lists (length r.commands) looks lags time ≡ 0
    unfolding after tick_reply
    tick_passed = passed_of _ r.inputs r.lists r.commands (ticked looks lags time r.inputs r.lists) took

    tick_reply_law : after_tick ≡ carried_out (tick_number r.inputs r.lists (length r.commands) looks lags time) r.commands (ticked looks lags time r.inputs r.lists)
    unfolding after tick_reply
    tick_reply_law = accepted_new (tick_number r.inputs r.lists (length r.commands) looks lags time) _ _ tick_passed

    counted_tick : (i : ℕ) → i < settings.count → Counted (n + 1) (slot_at after_tick.inputs i)
    unfolding after
    counted_tick i h =
        let c = g.counted i h in
        let raised : Raised 1 1 1 (slot_at r.inputs i) (slot_at after_tick.inputs i) = tick_raised r.inputs r.lists r.commands looks lags time g.checked.sized i in
        record { reopens = omega (arith, raised.reopens, c.reopens); changes = omega (arith, raised.changes, c.changes); lates = omega (arith, raised.lates, c.lates) }

    may_count : (i : ℕ) → i < r.inputs.count → MayCount (slot_at r.inputs i)
    may_count i h =
        let c = g.counted i (subst (λ (x : ℕ). i < x) (given_count settings r.inputs g.same) h) in
        record { reopens = omega (arith, few, c.reopens); changes = omega (arith, few, c.changes); lates = omega (arith, few, c.lates) }

    tick_sure : Sure settings (n + 1) after_tick
    unfolding after
    tick_sure = record {
      checked = tick_keeps r.inputs r.lists r.commands looks lags time g.checked may_count;
      same = settings_then (blank_for settings) r.inputs after_tick.inputs g.same (tick_settings r.inputs r.lists r.commands looks lags time);
      long =
          long_after after_tick _ (ticked looks lags time r.inputs r.lists) tick_reply_law
          (room_all (ticked looks lags time r.inputs r.lists).words (ticked_few looks lags time r.inputs r.lists g.checked.fitting.allowed.most g.checked.sized));
      counted = counted_tick;
    }

    -- without confirmation
    module _ (unconfirmed : settings.confirm ≡ false) (none : Unproposed settings r) where
      off : r.inputs.confirm ≡ false
      off = given_confirm settings r.inputs g.same ∙ unconfirmed

      unproposed_tick : Unproposed settings after_tick
      unproposed_tick i h =
          ap (λ (x : Reply). (slot_at x.inputs i).proposed) tick_reply_law
          ∙ ticked_proposed looks lags time r.inputs r.lists g.checked (tick_accepted r.inputs r.lists (length r.commands) looks lags time tick_passed) off i
          ∙ none i h

      tick_views : (i : ℕ) → i < settings.count
          → TickLifted (policy_of settings) (tick_of time (lags_of looks lags i)) (is_running (slot_at r.inputs i).state) (goes_on (slot_at after_tick.inputs i)) (seen_at r i) (seen_at after_tick i)
      tick_views i h =
          subst (λ (policy : DelayPolicy). TickLifted policy (tick_of time (lags_of looks lags i)) (is_running (slot_at r.inputs i).state) (goes_on (slot_at after_tick.inputs i)) (seen_at r i) (seen_at after_tick i))
          (given_policy settings r.inputs g.same)
          (subst (λ (x : Reply). TickLifted r.inputs.policy (tick_of time (lags_of looks lags i)) (is_running (slot_at r.inputs i).state) (goes_on (slot_at x.inputs i)) (seen_at r i) (seen_at x i))
          (sym tick_reply_law)
          (tick_lifted r.inputs r.lists (length r.commands) looks lags time i g.checked.sized g.checked tick_passed off (none i h) (given_input settings r.inputs g.same i h)))

      tick_step : Step settings n r (ticks looks lags time)
      tick_step = record {
        good = record { sure = tick_sure; unproposed = unproposed_tick };
        lifted = λ i h.
            let views = tick_views i h in
            record { events = views.seeding ++ (views.last ∷ []); leads = views.leads; lawful = views.lawful; clocked = views.clocked };
      }

  -- ---- every call
  sure_after : (call : Call) → n < most → Accepted r call → Sure settings (n + 1) (after r call)
  sure_after (routes input wanted time world) few took = route_sure input wanted time world took
  sure_after (updates input setting time) few took = update_sure input setting time took
  sure_after (ticks looks lags time) few took = tick_sure few looks lags time took

-- with confirmation or without
pub sure_step : (settings : Settings) (n : ℕ) (r : Reply) (call : Call) → n < most → Sure settings n r → Accepted r call → SureStep settings n r call
sure_step settings n r call few g took = record {
  sure = sure_after settings n r g call few took;
  told = λ i h. step_told r call g.checked.sized took i (low settings n r g i h);
}

-- without confirmation
pub laws : (settings : Settings) → settings.confirm ≡ false → Laws settings
laws settings unconfirmed = record {
  step = step;
  tick = λ n r looks lags time i few g took h. tick_views settings n r g.sure few looks lags time took unconfirmed g.unproposed i h;
  route_other = λ n r input wanted time world i g took h apart.
      alone_on settings n r g input time (after r (routes input wanted time world)) (route_on settings n r g input wanted time world took) (route_sure settings n r g input wanted time world took).checked (route_sure settings n r g input wanted time world took).long i h apart;
  update_other = λ n r input setting time i g took h apart.
      alone_on settings n r g input time (after r (updates input setting time)) (update_on settings n r g input setting time took) (update_sure settings n r g input setting time took).checked (update_sure settings n r g input setting time took).long i h apart;
}
  where
    step : (n : ℕ) (r : Reply) (call : Call) → n < most → Good settings n r → Accepted r call → Step settings n r call
    step n r (routes input wanted time world) few g took = route_step settings n r g.sure input wanted time world took g.unproposed
    step n r (updates input setting time) few g took = update_step settings n r g.sure input setting time took g.unproposed
    step n r (ticks looks lags time) few g took = tick_step settings n r g.sure few looks lags time took unconfirmed g.unproposed
