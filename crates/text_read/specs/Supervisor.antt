-- The lines of the calls on a supervisor, row by row as compare/README.md's table has them: the name, then the words, each after a space.
-- What is read with the place after it; none where the name is another, or a word is missing or of another form. Assumes nothing.
use Rattle.std.specs.Prelude.{ℕ, true, false, Bool, List, eqb, leb, take, None, Some, Option, option_map}
use Rattle.std.specs.Option.{option_or}
use Rattle.std.specs.Float.{binary64}
use Rattle.std.specs.Float.Ieee.{of_bits}
use Rattle.base.specs.Choice.{pick}
use Rattle.rules_calls.specs.declared.DelaySetting.{DelaySetting}
use Rattle.rules_calls.specs.declared.DelaySetting.TheVariants.{Desk}
use Rattle.rules_calls.specs.declared.Settings.{Settings}
use Rattle.rules_calls.specs.declared.Source.{Source}
use Rattle.rules_routing.specs.declared.World.{World}
use Rattle.text_scan.specs.declared.Word.{Word}
use Rattle.text_scan.specs.Scan.{word, ◌>>=◌}
use Rattle.text_scan.specs.Text.{text}
use Rattle.text_words.specs.Words.{mark_after, or_none, u64_at, hex_at, u32_at, bit_at, maybe_u64_at, maybe_u32_at, flow_at, kind_at}
use Rattle.text_requests.specs.declared.Call.{Call}
use Rattle.text_requests.specs.declared.Ask.TheVariants.{Status, Has, Settled, WriteDelays, Dump}
use Rattle.text_requests.specs.declared.Call.TheVariants.{Change, Ask, Put}
use Rattle.text_requests.specs.declared.Change.TheVariants.{New, Route, Update, Confirm, Tick}
use Rattle.text_requests.specs.declared.Known.{Known}
use Rattle.text_requests.specs.declared.Part.{Part}
use Rattle.text_requests.specs.declared.Part.TheVariants.{Window, Hold, Counters, Delays, Sum}
use Rattle.text_requests.specs.declared.TimeAsked.{TimeAsked}
use Rattle.text_requests.specs.Forms.{space, slash, text_end, word_end}
use Rattle.text_requests.specs.Lists.{kinds_end, looks_end, loads_end, lags_at, rows_at}
use Rattle.text_requests.specs.Parts.{flow_of, setting_of}
use Rattle.text_read_alone.specs.Alone.{bare_line, hold_at, sum_at}

-- ---- `new`: now u64, n u32, offset u32, max u32, W u32, hold u64, window u64, stall u64, margin u32, percent hex64, confirm bit, n kinds,
-- k u32 (at most 16,384), k times flow=delay
unfoldable pub settings_at : (s : List ℕ) (at : ℕ) → Option (Word Settings)
settings_at s at = do
  count ← u32_at s at space
  offset ← u32_at s count.next space
  most ← u32_at s offset.next space
  width ← u32_at s most.next space
  hold ← u64_at s width.next space
  window ← u64_at s hold.next space
  stall ← u64_at s window.next space
  margin ← u32_at s stall.next space
  percent ← hex_at s margin.next space
  confirm ← bit_at s percent.next space
  let settings : Settings = record {
    count = count.value;
    read_offset = offset.value;
    delay_max = most.value;
    width = width.value;
    hold = hold.value;
    window = window.value;
    stall = stall.value;
    margin = margin.value;
    percent = of_bits binary64 percent.value;
    confirm = confirm.value;
  }
  Some (word settings confirm.next)

unfoldable pub new_line : (s : List ℕ) (at : ℕ) → Option (Word Call)
new_line s at = do
  name ← word_end s at "new"
  time ← u64_at s name space
  settings ← settings_at s time.next
  after ← kinds_end s settings.next settings.value.count
  loaded ← u32_at s after space
  end ← loads_end s loaded.next loaded.value
  let call : Call = Change (New (record { time = time.value; settings = settings.value; kinds = settings.next; loads = loaded.next; loaded = loaded.value }))
  pick (leb loaded.value 16384) (Some (word call end)) None

-- ---- `route`: now u64, input u64, (flow/domain u64)|-, inode u64|-, make bit, channels u32|-, head u64
unfoldable pub source_at : (s : List ℕ) (at : ℕ) → Option (Word Source)
source_at s at = do
  flow ← flow_at s at space
  domain ← u64_at s flow.next slash
  Some (word (record { domain = domain.value; flow = flow_of flow.value }) domain.next)

unfoldable pub wanted_at : (s : List ℕ) (at : ℕ) → Option (Word (Option Source))
wanted_at s at = or_none (mark_after s at space 45) (source_at s at)

unfoldable pub route_line : (s : List ℕ) (at : ℕ) → Option (Word Call)
route_line s at = do
  name ← word_end s at "route"
  time ← u64_at s name space
  input ← u64_at s time.next space
  wanted ← wanted_at s input.next
  inode ← maybe_u64_at s wanted.next space
  make ← bit_at s inode.next space
  channels ← maybe_u32_at s make.next space
  head ← u64_at s channels.next space
  let world : World = record { inode = inode.value; made = make.value; reader = channels.value; head = head.value }
  Some (word (Change (Route (record { time = time.value; input = input.value; wanted = wanted.value; world = world }))) head.next)

-- ---- `update`: now u64, input u64, kind; or in its place `D` (68) with a hex64: Ms, sent by the desk
unfoldable pub desk_at : (s : List ℕ) (at : ℕ) → Option (Word DelaySetting)
desk_at s at = do
  from ← text_end s at " "
  bits ← hex_at s from 68
  Some (word (Desk (of_bits binary64 bits.value)) bits.next)

unfoldable pub scored_at : (s : List ℕ) (at : ℕ) → Option (Word DelaySetting)
scored_at s at = do
  kind ← kind_at s at space
  Some (word (setting_of kind.value) kind.next)

unfoldable pub setting_at : (s : List ℕ) (at : ℕ) → Option (Word DelaySetting)
setting_at s at = option_or (desk_at s at) (scored_at s at)

unfoldable pub update_line : (s : List ℕ) (at : ℕ) → Option (Word Call)
update_line s at = do
  name ← word_end s at "update"
  time ← u64_at s name space
  input ← u64_at s time.next space
  setting ← setting_at s input.next
  Some (word (Change (Update (record { time = time.value; input = input.value; setting = setting.value }))) setting.next)

-- now u64, input u64
unfoldable pub time_at : (s : List ℕ) (at : ℕ) → Option (Word TimeAsked)
time_at s at = do
  time ← u64_at s at space
  input ← u64_at s time.next space
  Some (word (record { time = time.value; input = input.value }) input.next)

-- `confirm`: now u64, input u64
unfoldable pub confirm_line : (s : List ℕ) (at : ℕ) → Option (Word Call)
confirm_line s at = do
  name ← word_end s at "confirm"
  words ← time_at s name
  Some (word (Change (Confirm words.value)) words.next)

-- `settled`: now u64, input u64
unfoldable pub settled_line : (s : List ℕ) (at : ℕ) → Option (Word Call)
settled_line s at = do
  name ← word_end s at "settled"
  words ← time_at s name
  Some (word (Ask (Settled words.value)) words.next)

-- ---- `tick`, or `dry tick`: now u64, a look for each input, `L`, lags u32; of a supervisor that was made
unfoldable pub tick_name : (s : List ℕ) (at : ℕ) → Option (Word Bool)
tick_name s at = option_or (option_map (word false) (word_end s at "tick")) (option_map (word true) (word_end s at "dry tick"))

-- the line, and the lags that were stored
pub record TickLine : Type 0 where
  pub line : Word Call
  pub lags : List ℕ

unfoldable pub tick_line : (s : List ℕ) (at inputs room : ℕ) → Option TickLine
tick_line s at inputs room = do
  name ← tick_name s at
  time ← u64_at s name.next space
  end ← looks_end s time.next inputs
  heard ← lags_at s end room
  let call : Call = Change (Tick (record { dry = name.value; time = time.value; looks = time.next; lags = heard.value.count }))
  pick (eqb inputs 0) None (Some (record { line = word call heard.next; lags = heard.value.list }))

-- how many lags a call has stored
abbrev pub lags_of : Call → ℕ
lags_of (Change (Tick asked)) = asked.lags
lags_of (Change (New asked)) = 0
lags_of (Change (Route asked)) = 0
lags_of (Change (Update asked)) = 0
lags_of (Change (Confirm asked)) = 0
lags_of (Ask asked) = 0
lags_of (Put asked) = 0

abbrev pub tick_said : (line : Option (Word Call)) (heard : List ℕ) → Option TickLine
tick_said line heard = option_map (λ line. record { line = line; lags = take (lags_of line.value) heard }) line

-- ---- `status`: input u64, applied u32, channels u32
unfoldable pub status_line : (s : List ℕ) (at : ℕ) → Option (Word Call)
status_line s at = do
  name ← word_end s at "status"
  input ← u64_at s name space
  applied ← u32_at s input.next space
  channels ← u32_at s applied.next space
  Some (word (Ask (Status (record { input = input.value; applied = applied.value; channels = channels.value }))) channels.next)

-- `has`: input u64, channels u32, wanted u32
unfoldable pub has_line : (s : List ℕ) (at : ℕ) → Option (Word Call)
has_line s at = do
  name ← word_end s at "has"
  input ← u64_at s name space
  channels ← u32_at s input.next space
  wanted ← u32_at s channels.next space
  Some (word (Ask (Has (record { input = input.value; channels = channels.value; wanted = wanted.value }))) wanted.next)

-- `dump`: nothing
abbrev pub dump_line : (s : List ℕ) (at : ℕ) → Option (Word Call)
dump_line s at = bare_line s at (text "dump") (Ask Dump)

-- `dwrite1`: nothing
abbrev pub dwrite1_line : (s : List ℕ) (at : ℕ) → Option (Word Call)
dwrite1_line s at = bare_line s at (text "dwrite1") (Ask WriteDelays)

-- ---- `put`: input u64 that exists, then one of five parts
-- `window`: rows
unfoldable pub window_part : (s : List ℕ) (at buckets : ℕ) → Option (Word Part)
window_part s at buckets = do
  name ← word_end s at " window"
  rows ← rows_at s name buckets
  Some (word (Window (record { at = name; seconds = rows.value })) rows.next)

-- `hold`: fields
unfoldable pub hold_part : (s : List ℕ) (at : ℕ) → Option (Word Part)
hold_part s at = do
  name ← word_end s at " hold"
  words ← hold_at s name
  Some (word (Hold words.value) words.next)

-- `counters`: reopens, delay changes, late events, u64 each
unfoldable pub counters_part : (s : List ℕ) (at : ℕ) → Option (Word Part)
counters_part s at = do
  name ← word_end s at " counters"
  reopens ← u64_at s name space
  changes ← u64_at s reopens.next space
  late ← u64_at s changes.next space
  Some (word (Counters (record { reopens = reopens.value; delay_changes = changes.value; late_events = late.value })) late.next)

-- `delays`: delay u32, proposal u32|-
unfoldable pub delays_part : (s : List ℕ) (at : ℕ) → Option (Word Part)
delays_part s at = do
  name ← word_end s at " delays"
  delay ← u32_at s name space
  proposed ← maybe_u32_at s delay.next space
  Some (word (Delays (record { delay = delay.value; proposed = proposed.value })) proposed.next)

-- `sum`: bucket u32, sum u64
unfoldable pub sum_part : (s : List ℕ) (at buckets : ℕ) → Option (Word Part)
sum_part s at buckets = do
  name ← word_end s at " sum"
  words ← sum_at s name buckets
  Some (word (Sum words.value) words.next)

infixl 20 ◌or◌
abbrev ◌or◌ : {A : Type 0} → (first second : Option (Word A)) → Option (Word A)
first or second = option_or first second

unfoldable pub put_line : (s : List ℕ) (at inputs buckets : ℕ) → Option (Word Call)
put_line s at inputs buckets = do
  name ← word_end s at "put"
  input ← u64_at s name space
  part ← window_part s input.next buckets
      or hold_part s input.next
      or counters_part s input.next
      or delays_part s input.next
      or sum_part s input.next buckets
  pick (leb inputs input.value) None (Some (word (Put (record { input = input.value; part = part.value })) part.next))

-- ---- all lines but a tick: the first that is there; before the first `new` there is no other
unfoldable pub change_lines : (s : List ℕ) (at : ℕ) → Option (Word Call)
change_lines s at = route_line s at
    or update_line s at
    or confirm_line s at

unfoldable pub ask_lines : (s : List ℕ) (at : ℕ) → Option (Word Call)
ask_lines s at = status_line s at
    or has_line s at
    or settled_line s at
    or dump_line s at
    or dwrite1_line s at

unfoldable pub call_line : (s : List ℕ) (at : ℕ) (known : Known) → Option (Word Call)
call_line s at known =
    pick (eqb known.inputs 0)
    (new_line s at)
    (new_line s at
    or change_lines s at
    or ask_lines s at
    or put_line s at known.inputs known.buckets)
