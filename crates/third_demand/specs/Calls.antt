-- Lists of calls from an accepted `new` on: what each is answered and leaves, by the very definitions that the contracts of `new`, `route`,
-- `update` and `tick` cite. Assumes nothing.
use Rattle.std.specs.Prelude.{ℕ, ◌≤◌, ◌<◌, false, ◌≡◌, List, [], ◌∷◌, length, Option}
use Rattle.base.specs.Choice.{accepted}
use Rattle.rules_record.specs.declared.ExtraDelay.{ExtraDelay}
use Rattle.rules_routing.specs.declared.World.{World}
use Rattle.rules_record.specs.Lent.{Lists}
use Rattle.rules_record.specs.Reply.{Reply}
use Rattle.rules_calls.specs.declared.DelaySetting.{DelaySetting}
use Rattle.rules_calls.specs.UpdateReply.{update_reply}
use Rattle.rules_calls.specs.RouteReply.{route_reply}
use Rattle.rules_calls.specs.declared.Settings.{Settings}
use Rattle.rules_calls.specs.NewReply.{new_reply}
use Rattle.rules_tick.specs.declared.Look.{Look}
use Rattle.rules_tick.specs.TickReply.{tick_reply}
use Rattle.sent_delays.specs.Last.{last_delay}
use Rattle.rules_calls.specs.declared.Source.{Source}

-- "every list of .. calls (route, delay setting, tick ..)"; "a delay setting is a call that stores a delay kind, here `update`"
pub data Call : Type 0 where
  routes : (input : ℕ) → Option Source → (time : ℕ) → World → Call
  updates : (input : ℕ) → DelaySetting → (time : ℕ) → Call
  ticks : List Look → (lags : List ℕ) → (time : ℕ) → Call

abbrev pub time_of : Call → ℕ
time_of (routes input wanted time world) = time
time_of (updates input setting time) = time
time_of (ticks looks lags time) = time

-- "Each call gets what the one before left; nobody else writes it."
unfoldable pub after : (r : Reply) → Call → Reply
after r (routes input wanted time world) = route_reply r.inputs r.lists r.commands input wanted time world
after r (updates input setting time) = update_reply r.inputs r.lists r.commands input setting time
after r (ticks looks lags time) = tick_reply r.inputs r.lists r.commands looks lags time

-- what a list of calls leaves, "refused ones included"
unfoldable pub run : (r : Reply) → List Call → Reply
run r [] = r
run r (call ∷ calls) = run (after r call) calls

-- a call is accepted: it is answered by number 0
abbrev pub Accepted : Reply → Call → Type 0
Accepted r call = (after r call).number ≡ 0

-- the time of the last accepted call
unfoldable pub clock_after : (clock : ℕ) (r : Reply) (call : Call) → ℕ
clock_after clock r call = accepted (after r call).number clock (time_of call)

-- "The clock never goes back from one accepted call to the next."
abbrev pub Orderly : (clock : ℕ) → Reply → List Call → Type 0
Orderly clock r [] = Unit {0}
Orderly clock r (call ∷ calls) = (Accepted r call → clock ≤ time_of call) × Orderly (clock_after clock r call) (after r call) calls

-- "the samples of the last SetDelay to it": an accepted call leaves its commands in the lent list
unfoldable pub told_by : (i before : ℕ) (r : Reply) (call : Call) → ℕ
told_by i before r call = accepted (after r call).number before (last_delay i before (after r call).commands)

unfoldable pub told : (i before : ℕ) (r : Reply) → List Call → ℕ
told i before r [] = before
told i before r (call ∷ calls) = told i (told_by i before r call) (after r call) calls

-- ---- from fresh
-- the arguments of `new`, with the lists and the commands that it is lent; the calls after it are a list beside
pub record Night : Type 0 where
  pub settings : Settings
  pub kinds : List ExtraDelay
  pub bytes : List ℕ
  pub delays : List ℕ
  pub time : ℕ
  pub lists : Lists
  pub commands : List ℕ

-- "Fresh is what an accepted `new` leaves"
abbrev pub fresh : Night → Reply
fresh night = new_reply night.settings night.kinds night.bytes night.delays night.time night.lists night.commands

-- "from a fresh supervisor without confirmation", "every list of fewer than 10^18 calls"
pub record Admitted (night : Night) (calls : List Call) : Type 0 where
  pub new : (fresh night).number ≡ 0
  pub unconfirmed : night.settings.confirm ≡ false
  pub few : length calls < 1_000_000_000_000_000_000
  pub orderly : Orderly 0 (fresh night) calls

-- what the calls leave
abbrev pub left_by : (night : Night) (calls : List Call) → Reply
left_by night calls = run (fresh night) calls

-- "An input's delay: the samples of the last SetDelay to it from `new` on, 0 before any."
unfoldable pub delay_of : (i : ℕ) (night : Night) (calls : List Call) → ℕ
delay_of i night calls = told i (last_delay i 0 (fresh night).commands) (fresh night) calls
