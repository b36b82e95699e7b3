-- The inputs of a new supervisor: their kinds, and the delays of the manual ones. Assumes nothing.
use Rattle.std.specs.Prelude.{ℕ, zero, suc, min, List, get_or, length, replicate}
use Rattle.doubles.specs.Doubles.{samples_of}
use Rattle.rules_record.specs.declared.AutoTag.TheVariants as AutoTag
use Rattle.rules_record.specs.declared.ExtraDelay.{ExtraDelay}
use Rattle.rules_record.specs.declared.ExtraDelay.TheVariants.{Auto, Ms}
use Rattle.rules_record.specs.declared.Inputs.{Inputs}
use Rattle.rules_record.specs.Slots.{with_config, with_head}
use Rattle.rules_record.specs.Inputs.{slot_at, put_slot}
use Rattle.rules_record.specs.Commands.{Done, quiet, send_first}
use Rattle.rules_routing.specs.SetDelay.{set_delay_of}
use Rattle.rules_record.specs.Lent.{Lists, lists}
use Rattle.rules_record.specs.Effects.{Effect, beside}
use Rattle.rules_calls.specs.declared.Settings.{Settings}
use Rattle.rules_calls.specs.NewRecord.{blank_for}
use Rattle.rules_calls.specs.NewLoading.{loaded_below}

-- "each input's delay kind"
unfoldable pub kind_at : (kinds : List ExtraDelay) (i : ℕ) → ExtraDelay
kind_at kinds i = get_or kinds i (Auto AutoTag.Auto)

-- the kind of input i is stored; its head, none yet, has the time of the call ("`Instant::now()` is the time of the call")
abbrev pub made_at : (i : ℕ) (kind : ExtraDelay) (time : ℕ) (s : Inputs) → Inputs
made_at i kind time s = put_slot s i (with_head (with_config (slot_at s i) (record { extra_delay = kind })) 0 time)

-- "A Ms input then gets `set_delay` with the smaller of `samples` and maximum"
unfoldable pub started_one : (i : ℕ) → ExtraDelay → (time : ℕ) (s : Inputs) → Done
started_one i (Auto tag) time s = quiet (made_at i (Auto tag) time s)
started_one i (Ms delay) time s = set_delay_of (made_at i (Ms delay) time s) i (min (samples_of delay) s.policy.delay_max) time

-- what the second step does after the first: "Commands stand in sending order"
abbrev pub then_done : (done : Done) (next : (Inputs → Done)) → Done
then_done done next = send_first done.words (next done.inputs)

-- the first n inputs, in their order
unfoldable pub started_below : (n : ℕ) (kinds : List ExtraDelay) (time : ℕ) (s : Inputs) → Done
started_below zero kinds time s = quiet s
started_below (suc n) kinds time s = then_done (started_below n kinds time s) (started_one n (kind_at kinds n) time)

-- the making of windows and holds "writes every lent place"; document 02, §5: "a fresh start must .. leave it true", and the sums of no lags are zeros
abbrev pub zeroed : List ℕ → List ℕ
zeroed places = replicate (length places) 0

abbrev pub zeroed_lists : Lists → Lists
zeroed_lists l = lists (zeroed l.starts) (zeroed l.totals) (zeroed l.counts) (zeroed l.sums) (zeroed l.times) (zeroed l.peaks)

-- the record with the loaded delays
abbrev pub loaded : (settings : Settings) (bytes delays : List ℕ) → Inputs
loaded settings bytes delays = loaded_below (length delays) bytes delays (blank_for settings)

unfoldable pub started : (settings : Settings) (kinds : List ExtraDelay) (bytes delays : List ℕ) (time : ℕ) (l : Lists) → Effect
started settings kinds bytes delays time l = beside (zeroed_lists l) (started_below settings.count kinds time (loaded settings bytes delays))
