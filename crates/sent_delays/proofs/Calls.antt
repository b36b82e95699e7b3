-- An input's delay in the record that an accepted call leaves is the samples of the last SetDelay among its commands, or where there is none
-- the delay that it had before, and so are the times of the last SetDelay and SetInput: of `new`, `route`, `update`, `confirm_delay` and `tick`.
-- Assumes nothing.
use Rattle.std.specs.Prelude.{Option}
use Prim.Native.Nat.{ℕ, ◌<◌}
use mathlib.Core.Path.{◌≡◌, refl, sym, ap, subst, ◌∙◌}
use mathlib.Core.List.{List}
use lib.ListN.{length}
use Rattle.base.specs.Choice.{accepted}
use Rattle.base.specs.Lists.{padded}
use Rattle.base.proofs.Choices.{refused_old, accepted_new, accepted_all, by_zero}
use Rattle.rules_record.specs.declared.ExtraDelay.{ExtraDelay}
use Rattle.rules_record.specs.declared.Inputs.{Inputs}
use Rattle.rules_record.specs.declared.Output.TheVariants.{Words}
use Rattle.rules_record.specs.Inputs.{slot_at}
use Rattle.rules_record.specs.Sized.{Sized}
use Rattle.rules_routing.specs.declared.World.{World}
use Rattle.rules_record.specs.Lent.{Lists}
use Rattle.rules_record.specs.Effects.{Effect}
use Rattle.rules_record.specs.Reply.{Reply, replied}
use Rattle.rules_record.proofs.Checked.{settings_told}
use Rattle.rules_record.proofs.Numbers.{call_low}
use Rattle.rules_calls.specs.declared.Settings.{Settings}
use Rattle.rules_calls.specs.NewRecord.{blank_for, no_inputs}
use Rattle.rules_calls.specs.NewChecks.{new_number}
use Rattle.rules_calls.proofs.NewAccepted.{accepted_of}
use Rattle.rules_calls.specs.NewStart.{started}
use Rattle.rules_calls.specs.NewReply.{new_reply}
use Rattle.rules_calls.specs.RouteChecks.{route_number}
use Rattle.rules_calls.specs.Route.{routed}
use Rattle.rules_calls.specs.RouteReply.{route_reply}
use Rattle.rules_calls.specs.declared.DelaySetting.{DelaySetting}
use Rattle.rules_calls.specs.UpdateChecks.{update_number, confirm_number}
use Rattle.rules_calls.specs.Update.{kind_of, updated}
use Rattle.rules_calls.specs.ConfirmDelay.{confirmed}
use Rattle.rules_calls.specs.UpdateReply.{update_reply, confirm_reply}
use Rattle.rules_tick.specs.declared.Look.{Look}
use Rattle.rules_tick.specs.TickChecks.{tick_number}
use Rattle.rules_tick.specs.Tick.{ticked}
use Rattle.rules_tick.specs.TickReply.{tick_reply}
use Rattle.sent_delays.specs.Last.{last_delay}
use Rattle.sent_delays.specs.Delays.{Told, SentDelays}
use Rattle.sent_delays.specs.Times.{Timed, TimedFresh, SentTimes}
use Rattle.sent_delays.proofs.Notes.{Notes, notes_of, notes_after, notes_padded}
use Rattle.sent_delays.proofs.Steps.{TellsEffect}
use Rattle.sent_delays.proofs.Ticks.{tells_ticked}
use Rattle.sent_delays.proofs.OneInput.{tells_routed, tells_updated, tells_confirmed}
use Rattle.sent_delays.proofs.Starts.{nothing, blank_notes, tells_started}
use Rattle.rules_calls.specs.declared.Source.{Source}

-- the same of an accepted call
pub accepted_told : {s : Inputs} {reply : Reply} → Told s reply → reply.number ≡ 0 → (j : ℕ) → j < 16 → (slot_at reply.inputs j).delay ≡ last_delay j (slot_at s j).delay reply.commands
accepted_told {s} {reply} t e j l = t.delays j l ∙ accepted_new reply.number _ _ e

-- ---- a reply
-- an accepted call carries its effect out: the commands, padded with zeros, tell what its words tell
module _ (number : ℕ) (s : Inputs) (l : Lists) (commands : List ℕ) (effect : Effect) where
  abbrev reply : Reply
  reply = replied number s l commands effect

  padded_notes : {t : Inputs} {time : ℕ} → TellsEffect time t effect → (j : ℕ) → j < 16 → notes_of (slot_at effect.inputs j) ≡ notes_after j time (notes_of (slot_at t j)) (padded (length commands) effect.words)
  padded_notes {t} {time} f j low = f.notes j low ∙ sym (notes_padded j time (notes_of (slot_at t j)) (length commands) effect.words f.whole)

  reply_number : reply.number ≡ number
  reply_number = accepted_all (λ (r : Reply). r.number ≡ number) number _ _ refl (λ e. refl)

  reply_sized : Sized s → (number ≡ 0 → Sized effect.inputs) → Sized reply.inputs
  reply_sized h f = accepted_all (λ (r : Reply). Sized r.inputs) number _ _ h f

  module _ {time : ℕ} (sized : Sized s) (tells : number ≡ 0 → TellsEffect time s effect) where
    -- each part of what is noted
    reply_part : {A : Type 0} (part : Notes → A) (j : ℕ) → j < 16 → part (notes_of (slot_at reply.inputs j)) ≡ accepted reply.number (part (notes_of (slot_at s j))) (part (notes_after j time (notes_of (slot_at s j)) reply.commands))
    reply_part part j low =
        let P : Reply → Type 0 = λ (r : Reply). part (notes_of (slot_at r.inputs j)) ≡ accepted r.number (part (notes_of (slot_at s j))) (part (notes_after j time (notes_of (slot_at s j)) r.commands)) in
        by_zero number
        (λ e. subst P (sym (accepted_new number _ _ e)) (ap part (padded_notes (tells e) j low) ∙ sym (accepted_new number _ _ e)))
        (λ none. subst P (sym (refused_old number _ _ none)) (sym (refused_old number _ _ none)))

    reply_told : Told s reply
    reply_told = record { sized = reply_sized sized (λ e. (tells e).sized); delays = reply_part (λ (n : Notes). n.delay) }

    reply_timed : Timed s time reply
    reply_timed = record { set = reply_part (λ (n : Notes). n.set); input = reply_part (λ (n : Notes). n.input) }

-- ---- the calls on a record, accepted or refused
module _ (s : Inputs) (sized : Sized s) (l : Lists) (commands : List ℕ) where
  module _ (input : ℕ) (wanted : Option Source) (time : ℕ) (world : World) where
    route_tells : route_number s l (length commands) input wanted time world ≡ 0 → TellsEffect time s (routed input wanted time world s l)
    unfolding route_number
    route_tells e = tells_routed input (call_low s l (length commands) input time _ e) time wanted world s l sized

    pub route_told : Told s (route_reply s l commands input wanted time world)
    unfolding route_reply
    route_told = reply_told (route_number s l (length commands) input wanted time world) s l commands (routed input wanted time world s l) sized route_tells

    pub route_timed : Timed s time (route_reply s l commands input wanted time world)
    unfolding route_reply
    route_timed = reply_timed (route_number s l (length commands) input wanted time world) s l commands (routed input wanted time world s l) sized route_tells

  module _ (input : ℕ) (setting : DelaySetting) (time : ℕ) where
    update_tells : update_number s l (length commands) input setting time ≡ 0 → TellsEffect time s (updated input (kind_of setting) time s l)
    unfolding update_number
    update_tells e = tells_updated input (call_low s l (length commands) input time _ e) time (kind_of setting) s l sized

    pub update_told : Told s (update_reply s l commands input setting time)
    unfolding update_reply
    update_told = reply_told (update_number s l (length commands) input setting time) s l commands (updated input (kind_of setting) time s l) sized update_tells

    pub update_timed : Timed s time (update_reply s l commands input setting time)
    unfolding update_reply
    update_timed = reply_timed (update_number s l (length commands) input setting time) s l commands (updated input (kind_of setting) time s l) sized update_tells

  module _ (input time : ℕ) where
    confirm_tells : confirm_number s l (length commands) input time ≡ 0 → TellsEffect time s (confirmed input time s l)
    unfolding confirm_number
    confirm_tells e = tells_confirmed input (call_low s l (length commands) input time _ e) time s l sized

    pub confirm_told : Told s (confirm_reply s l commands input time)
    unfolding confirm_reply
    confirm_told = reply_told (confirm_number s l (length commands) input time) s l commands (confirmed input time s l) sized confirm_tells

    pub confirm_timed : Timed s time (confirm_reply s l commands input time)
    unfolding confirm_reply
    confirm_timed = reply_timed (confirm_number s l (length commands) input time) s l commands (confirmed input time s l) sized confirm_tells

  module _ (looks : List Look) (lags : List ℕ) (time : ℕ) where
    tick_tells : tick_number s l (length commands) looks lags time ≡ 0 → TellsEffect time s (ticked looks lags time s l)
    unfolding tick_number
    tick_tells e = tells_ticked looks lags time s l sized (settings_told s l (Words (length commands)) _ e).0.allowed.most

    pub tick_told : Told s (tick_reply s l commands looks lags time)
    unfolding tick_reply
    tick_told = reply_told (tick_number s l (length commands) looks lags time) s l commands (ticked looks lags time s l) sized tick_tells

    pub tick_timed : Timed s time (tick_reply s l commands looks lags time)
    unfolding tick_reply
    tick_timed = reply_timed (tick_number s l (length commands) looks lags time) s l commands (ticked looks lags time s l) sized tick_tells

-- ---- `new`: "0 before any", and none ever went
module _ (settings : Settings) (kinds : List ExtraDelay) (bytes delays : List ℕ) (time : ℕ) (l : Lists) (commands : List ℕ) where
  abbrev fresh : Reply
  fresh = new_reply settings kinds bytes delays time l commands

  abbrev number : ℕ
  number = new_number settings bytes delays time l (length commands)

  new_number_law : fresh.number ≡ number
  unfolding new_reply
  new_number_law = reply_number number no_inputs l commands (started settings kinds bytes delays time l)

  new_tells : number ≡ 0 → TellsEffect time (blank_for settings) (started settings kinds bytes delays time l)
  new_tells e = tells_started settings kinds bytes delays time l (accepted_of settings l (length commands) bytes delays time e).0.allowed.most

  module _ (passed : fresh.number ≡ 0) where
    pub new_sized : Sized fresh.inputs
    unfolding new_reply
    new_sized = subst (λ (r : Reply). Sized r.inputs) (sym (accepted_new number _ _ (sym new_number_law ∙ passed))) (new_tells (sym new_number_law ∙ passed)).sized

    new_notes : (j : ℕ) → j < 16 → notes_of (slot_at fresh.inputs j) ≡ notes_after j time nothing fresh.commands
    unfolding new_reply
    new_notes j low =
        subst (λ (r : Reply). notes_of (slot_at r.inputs j) ≡ notes_after j time nothing r.commands) (sym (accepted_new number _ _ (sym new_number_law ∙ passed)))
        (padded_notes number no_inputs l commands (started settings kinds bytes delays time l) (new_tells (sym new_number_law ∙ passed)) j low
        ∙ ap (λ (n : Notes). notes_after j time n (padded (length commands) (started settings kinds bytes delays time l).words)) (blank_notes settings j low))

    pub new_delays : (j : ℕ) → j < 16 → (slot_at fresh.inputs j).delay ≡ last_delay j 0 fresh.commands
    new_delays j low = ap (λ (n : Notes). n.delay) (new_notes j low)

    pub new_timed : TimedFresh time fresh
    new_timed = record { set = λ j low. ap (λ (n : Notes). n.set) (new_notes j low); input = λ j low. ap (λ (n : Notes). n.input) (new_notes j low) }

-- ---- the claims
pub sent_delays : SentDelays
sent_delays = record {
  new = λ settings kinds bytes delays time l commands passed. record {
    sized = new_sized settings kinds bytes delays time l commands passed;
    delays = new_delays settings kinds bytes delays time l commands passed;
  };
  route = route_told;
  update = update_told;
  confirm = confirm_told;
  tick = tick_told;
}

pub sent_times : SentTimes
sent_times = record { new = new_timed; route = route_timed; update = update_timed; confirm = confirm_timed; tick = tick_timed }
