-- Document 01, "Supervision": an input's delay in the record is the samples of the last SetDelay to it, after every call. Assumes nothing.
use Rattle.std.specs.Prelude.{ℕ, ◌<◌, ◌≡◌, List, Option}
use Rattle.base.specs.Choice.{accepted}
use Rattle.rules_record.specs.declared.ExtraDelay.{ExtraDelay}
use Rattle.rules_record.specs.declared.Inputs.{Inputs}
use Rattle.rules_record.specs.Inputs.{slot_at}
use Rattle.rules_record.specs.Sized.{Sized}
use Rattle.rules_record.specs.Lent.{Lists}
use Rattle.rules_record.specs.Reply.{Reply}
use Rattle.rules_routing.specs.declared.World.{World}
use Rattle.rules_tick.specs.declared.Look.{Look}
use Rattle.rules_tick.specs.TickReply.{tick_reply}
use Rattle.rules_calls.specs.declared.Settings.{Settings}
use Rattle.rules_calls.specs.NewReply.{new_reply}
use Rattle.rules_calls.specs.RouteReply.{route_reply}
use Rattle.rules_calls.specs.declared.DelaySetting.{DelaySetting}
use Rattle.rules_calls.specs.UpdateReply.{update_reply, confirm_reply}
use Rattle.sent_delays.specs.Last.{last_delay}
use Rattle.rules_calls.specs.declared.Source.{Source}

-- What a call on the record s leaves: an accepted one tells every delay, a refused one leaves it as it was.
pub record Told (s : Inputs) (reply : Reply) : Type 0 where
  pub sized : Sized reply.inputs
  pub delays : (j : ℕ) → j < 16 → (slot_at reply.inputs j).delay ≡ accepted reply.number (slot_at s j).delay (last_delay j (slot_at s j).delay reply.commands)

-- of an accepted `new`: "0 before any"
pub record ToldFresh (reply : Reply) : Type 0 where
  pub sized : Sized reply.inputs
  pub delays : (j : ℕ) → j < 16 → (slot_at reply.inputs j).delay ≡ last_delay j 0 reply.commands

-- the claim, of each call that sends
pub record SentDelays : Type 0 where
  pub new :
      (settings : Settings) (kinds : List ExtraDelay) (bytes delays : List ℕ) (time : ℕ) (l : Lists) (commands : List ℕ) →
      (new_reply settings kinds bytes delays time l commands).number ≡ 0 → ToldFresh (new_reply settings kinds bytes delays time l commands)
  pub route :
      (s : Inputs) → Sized s → (l : Lists) (commands : List ℕ) (input : ℕ) (wanted : Option Source) (time : ℕ) (world : World) → Told s (route_reply s l commands input wanted time world)
  pub update : (s : Inputs) → Sized s → (l : Lists) (commands : List ℕ) (input : ℕ) (setting : DelaySetting) (time : ℕ) → Told s (update_reply s l commands input setting time)
  pub confirm : (s : Inputs) → Sized s → (l : Lists) (commands : List ℕ) (input time : ℕ) → Told s (confirm_reply s l commands input time)
  pub tick : (s : Inputs) → Sized s → (l : Lists) (commands : List ℕ) (looks : List Look) (lags : List ℕ) (time : ℕ) → Told s (tick_reply s l commands looks lags time)
