-- On a whole record with lists of their lengths no call is refused by a check of the record. Assumes nothing.
use Prim.Native.Nat.{ℕ, zero, suc, ◌*◌, ◌≤◌}
use mathlib.Core.Bool.{Bool, true, false}
use mathlib.Core.Path.{◌≡◌, refl, sym, ap, subst, ◌∙◌}
use mathlib.Core.List.{List}
use lib.ListN.{length}
use borrow.Author.Tests.{eq-eqb, le-leb}
use Rattle.base.specs.Limits.{time_limit}
use Rattle.base.proofs.Choices.{yes_ask}
use Rattle.base.specs.Choice.{ask}
use Rattle.rules_record.specs.declared.Inputs.{Inputs}
use Rattle.rules_record.specs.declared.Output.TheVariants.{Words}
use Rattle.rules_record.specs.Lent.{Lists}
use Rattle.rules_record.specs.Effects.{Effect}
use Rattle.rules_record.specs.Reply.{Reply, replied}
use Rattle.rules_record.specs.Checks.{output_fits, record_number, own_number, input_number, timed_number}
use Rattle.rules_record.proofs.Checked.{of_checked}
use Rattle.rules_calls.specs.UpdateChecks.{manual_number, update_number}
use Rattle.rules_calls.specs.Update.{kind_of, updated}
use Rattle.rules_calls.specs.UpdateReply.{update_reply}
use Rattle.rules_calls.specs.RouteChecks.{route_number}
use Rattle.rules_calls.specs.Route.{routed}
use Rattle.rules_calls.specs.RouteReply.{route_reply}
use Rattle.rules_tick.specs.declared.Look.{Look}
use Rattle.rules_tick.specs.TickChecks.{looks_fit, lags_fit, rooms_fit, tick_number}
use Rattle.rules_tick.specs.Tick.{ticked}
use Rattle.rules_tick.specs.TickReply.{tick_reply}
use Rattle.rules_calls.specs.declared.Settings.{Settings}
use Rattle.rules_calls.specs.NewRecord.{blank_for, blank}
use Rattle.third_demand.specs.Calls.{Call, routes, updates, ticks, after, Accepted}
use Rattle.third_demand.proofs.Good.{Sure}

-- a number that is none of the record's own
abbrev Beyond : (number : ℕ) → Type 0
Beyond number = own_number number ≡ false

beyond_ask : (k : ℕ) (b : Bool) (rest : ℕ) → Beyond k → Beyond rest → Beyond (ask k b rest)
unfolding ask
beyond_ask k true rest here later = later
beyond_ask k false rest here later = here

beyond_zero : Beyond 0
unfolding own_number
beyond_zero = refl

reply_beyond : (s : Inputs) (l : Lists) (commands : List ℕ) (effect : Effect) (number : ℕ) → Beyond number → Beyond (replied number s l commands effect).number
reply_beyond s l commands effect zero here = here
reply_beyond s l commands effect (suc n) here = here

reply_passed : (s : Inputs) (l : Lists) (commands : List ℕ) (effect : Effect) (number : ℕ) → number ≡ 0 → (replied number s l commands effect).number ≡ 0
reply_passed s l commands effect zero e = e
reply_passed s l commands effect (suc n) e = e

module _ (settings : Settings) (n : ℕ) (r : Reply) (g : Sure settings n r) where
  counted : r.inputs.count ≡ settings.count
  unfolding blank_for blank
  counted = ap (λ (s : Inputs). s.count) g.same

  fits : output_fits r.inputs.count (Words (length r.commands)) ≡ true
  fits = eq-eqb _ _ (g.long ∙ ap (λ (x : ℕ). x * 12) (sym counted))

  beyond_record : (rest : ℕ) → Beyond rest → Beyond (record_number r.inputs r.lists (Words (length r.commands)) rest)
  beyond_record rest later = subst Beyond (sym (of_checked r.inputs r.lists (Words (length r.commands)) g.checked fits rest)) later

  beyond_input : (input time rest : ℕ) → Beyond rest → Beyond (timed_number r.inputs r.lists (length r.commands) input time rest)
  unfolding timed_number input_number own_number
  beyond_input input time rest later = beyond_record _ (beyond_ask 7 _ _ refl (beyond_ask 8 _ _ refl later))

  pub beyond : (call : Call) → Beyond (after r call).number
  unfolding own_number after route_reply update_reply tick_reply route_number manual_number update_number tick_number
  beyond (routes input wanted time world) =
      reply_beyond r.inputs r.lists r.commands (routed input wanted time world r.inputs r.lists) (route_number r.inputs r.lists (length r.commands) input wanted time world)
      (beyond_input input time _ (beyond_ask 9 _ _ refl (beyond_ask 10 _ _ refl beyond_zero)))
  beyond (updates input setting time) =
      reply_beyond r.inputs r.lists r.commands (updated input (kind_of setting) time r.inputs r.lists) (update_number r.inputs r.lists (length r.commands) input setting time)
      (beyond_input input time _ (beyond_ask 12 _ _ refl (beyond_ask 21 _ _ refl beyond_zero)))
  beyond (ticks looks lags time) =
      reply_beyond r.inputs r.lists r.commands (ticked looks lags time r.inputs r.lists) (tick_number r.inputs r.lists (length r.commands) looks lags time)
      (beyond_record _ (beyond_ask 8 _ _ refl (beyond_ask 10 _ _ refl (beyond_ask 10 _ _ refl (beyond_ask 11 _ _ refl beyond_zero)))))

  -- a tick that passes 8, 10 and 11
  pub takes :
      (looks : List Look) (lags : List ℕ) (time : ℕ) → time ≤ time_limit → looks_fit r.inputs looks ≡ true → lags_fit r.inputs looks lags ≡ true → rooms_fit r.inputs r.lists looks time ≡ true →
      Accepted r (ticks looks lags time)
  unfolding after tick_reply tick_number
  takes looks lags time soon seen counted-lags rooms =
      reply_passed r.inputs r.lists r.commands (ticked looks lags time r.inputs r.lists) (tick_number r.inputs r.lists (length r.commands) looks lags time)
      (of_checked r.inputs r.lists (Words (length r.commands)) g.checked fits _
      ∙ yes_ask 8 _ (le-leb _ _ soon)
      ∙ yes_ask 10 _ seen
      ∙ yes_ask 10 _ counted-lags
      ∙ yes_ask 11 _ rooms)
