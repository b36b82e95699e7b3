-- Document 02, §4: the times by which `settled` goes are those of the last SetDelay and the last SetInput to the input, after every call. Assumes nothing.
use Rattle.std.specs.Prelude.{ℕ, ◌<◌, ◌≡◌, List, [], ◌∷◌, eqb, None, Option, Some}
use Rattle.base.specs.Choice.{pick, both, accepted}
use Rattle.rules_record.specs.declared.ExtraDelay.{ExtraDelay}
use Rattle.rules_record.specs.declared.Inputs.{Inputs}
use Rattle.rules_record.specs.Inputs.{slot_at}
use Rattle.rules_record.specs.Sized.{Sized}
use Rattle.rules_record.specs.Lent.{Lists}
use Rattle.rules_record.specs.Reply.{Reply}
use Rattle.rules_routing.specs.declared.World.{World}
use Rattle.rules_tick.specs.declared.Look.{Look}
use Rattle.rules_tick.specs.TickReply.{tick_reply}
use Rattle.rules_calls.specs.declared.Settings.{Settings}
use Rattle.rules_calls.specs.NewReply.{new_reply}
use Rattle.rules_calls.specs.RouteReply.{route_reply}
use Rattle.rules_calls.specs.declared.DelaySetting.{DelaySetting}
use Rattle.rules_calls.specs.UpdateReply.{update_reply, confirm_reply}
use Rattle.rules_calls.specs.declared.Source.{Source}

-- "kind (1 SetInput, 2 ClearInput, 3 SetDelay)"
abbrev pub input_kind : ℕ
input_kind = 1

abbrev pub delay_kind : ℕ
delay_kind = 3

-- one command of three words, sent at this time: is it of the wanted kind, and to this input?
unfoldable pub time_told : (wanted i time : ℕ) (before : Option ℕ) (kind input : ℕ) → Option ℕ
time_told wanted i time before kind input = pick (both (eqb kind wanted) (eqb input i)) (Some time) before

-- the time of the last command of that kind to input i, where a call at this time sent these, or what it was before them
unfoldable pub last_time : (wanted i time : ℕ) (before : Option ℕ) → List ℕ → Option ℕ
last_time wanted i time before [] = before
last_time wanted i time before (kind ∷ []) = before
last_time wanted i time before (kind ∷ (input ∷ [])) = before
last_time wanted i time before (kind ∷ (input ∷ (word ∷ words))) = last_time wanted i time (time_told wanted i time before kind input) words

-- What a call at this time on the record s leaves: an accepted one tells every time, a refused one leaves it as it was.
pub record Timed (s : Inputs) (time : ℕ) (reply : Reply) : Type 0 where
  pub set : (j : ℕ) → j < 16 → (slot_at reply.inputs j).last_set ≡ accepted reply.number (slot_at s j).last_set (last_time delay_kind j time (slot_at s j).last_set reply.commands)
  pub input : (j : ℕ) → j < 16 → (slot_at reply.inputs j).last_input ≡ accepted reply.number (slot_at s j).last_input (last_time input_kind j time (slot_at s j).last_input reply.commands)

-- of an accepted `new`: "or none ever went"
pub record TimedFresh (time : ℕ) (reply : Reply) : Type 0 where
  pub set : (j : ℕ) → j < 16 → (slot_at reply.inputs j).last_set ≡ last_time delay_kind j time None reply.commands
  pub input : (j : ℕ) → j < 16 → (slot_at reply.inputs j).last_input ≡ last_time input_kind j time None reply.commands

-- the claim, of each call that sends
pub record SentTimes : Type 0 where
  pub new :
      (settings : Settings) (kinds : List ExtraDelay) (bytes delays : List ℕ) (time : ℕ) (l : Lists) (commands : List ℕ) →
      (new_reply settings kinds bytes delays time l commands).number ≡ 0 → TimedFresh time (new_reply settings kinds bytes delays time l commands)
  pub route :
      (s : Inputs) → Sized s → (l : Lists) (commands : List ℕ) (input : ℕ) (wanted : Option Source) (time : ℕ) (world : World) → Timed s time (route_reply s l commands input wanted time world)
  pub update : (s : Inputs) → Sized s → (l : Lists) (commands : List ℕ) (input : ℕ) (setting : DelaySetting) (time : ℕ) → Timed s time (update_reply s l commands input setting time)
  pub confirm : (s : Inputs) → Sized s → (l : Lists) (commands : List ℕ) (input time : ℕ) → Timed s time (confirm_reply s l commands input time)
  pub tick : (s : Inputs) → Sized s → (l : Lists) (commands : List ℕ) (looks : List Look) (lags : List ℕ) (time : ℕ) → Timed s time (tick_reply s l commands looks lags time)
