-- The lists of a line (compare/README.md, "The protocol"): kinds, looks, lags, loaded delays, rows and peaks. Assumes nothing.
use Rattle.std.specs.Prelude.{ℕ, zero, suc, ◌+◌, ◌-◌, ◌<◌, min, false, ◌≡◌, List, [], ◌∷◌, ◌++◌, leb, length, get_or, take, replicate, Option, None, Some, option_map, unwrap_or}
use Rattle.base.specs.Choice.{pick}
use Rattle.byte_order.specs.Bytes.{bytes_at}
use Rattle.rules_calls.specs.NewLoading.{loaded_flow}
use Rattle.rules_record.specs.declared.AutoTag.TheVariants.{Auto as auto-tag}
use Rattle.rules_record.specs.declared.ExtraDelay.{ExtraDelay}
use Rattle.rules_record.specs.declared.ExtraDelay.TheVariants.{Auto}
use Rattle.rules_record.specs.declared.Flow.{Flow}
use Rattle.rules_routing.specs.declared.World.{World}
use Rattle.rules_tick.specs.declared.Look.{Look}
use Rattle.text_scan.specs.declared.Word.{Word}
use Rattle.text_scan.specs.Scan.{word, ◌>>=◌, has_byte, ends_at}
use Rattle.text_words.specs.Words.{u64_at, u32_at, bit_at, maybe_u64_at, maybe_u32_at, flow_at, kind_at}
use Rattle.text_requests.specs.declared.lists.Cell.{Cell}
use Rattle.text_requests.specs.declared.lists.Load.{Load}
use Rattle.text_requests.specs.declared.lists.Peak.{Peak}
use Rattle.text_requests.specs.declared.lists.Row.{Row}
use Rattle.text_requests.specs.Forms.{space, comma, colon, equals, text_end}
use Rattle.text_requests.specs.Parts.{flow_of, kind_of}

-- ---- one of a list
-- a kind
unfoldable pub kind_one : (s : List ℕ) (at : ℕ) → Option (Word ExtraDelay)
kind_one s at = do
  kind ← kind_at s at space
  Some (word (kind_of kind.value) kind.next)

-- a look: watch, open, make, channels, head, applied, count
unfoldable pub look_at : (s : List ℕ) (at : ℕ) → Option (Word Look)
look_at s at = do
  watch ← maybe_u64_at s at space
  opens ← maybe_u64_at s watch.next comma
  make ← bit_at s opens.next comma
  channels ← maybe_u32_at s make.next comma
  head ← u64_at s channels.next comma
  applied ← u32_at s head.next comma
  count ← u32_at s applied.next comma
  let world : World = record { inode = opens.value; made = make.value; reader = channels.value; head = head.value }
  Some (word (record { seen = watch.value; world = world; applied = applied.value; lags = count.value }) count.next)

-- a loaded delay: flow=delay
unfoldable pub load_at : (s : List ℕ) (at : ℕ) → Option (Word Load)
load_at s at = do
  flow ← flow_at s at space
  delay ← u32_at s flow.next equals
  Some (word (record { flow = flow_of flow.value; delay = delay.value }) delay.next)

-- a row's beginning: start:total
unfoldable pub row_at : (s : List ℕ) (at : ℕ) → Option (Word Row)
row_at s at = do
  start ← u64_at s at space
  total ← u64_at s start.next colon
  Some (word (record { start = start.value; total = total.value }) total.next)

-- a count of a row: ,bucket=count
unfoldable pub cell_at : (s : List ℕ) (at : ℕ) → Option (Word Cell)
cell_at s at = do
  bucket ← u32_at s at comma
  count ← u32_at s bucket.next equals
  Some (word (record { bucket = bucket.value; count = count.value }) count.next)

-- a peak: time:lag
unfoldable pub peak_at : (s : List ℕ) (at : ℕ) → Option (Word Peak)
peak_at s at = do
  time ← u64_at s at space
  lag ← u32_at s time.next colon
  Some (word (record { time = time.value; lag = lag.value }) lag.next)

-- ---- the place after so many of them
unfoldable pub times : {A : Type 0} → (one : ℕ → Option (Word A)) (n at : ℕ) → Option ℕ
times one zero at = Some at
times one (suc n) at = do
  w ← one at
  times one n w.next

unfoldable pub kinds_end : (s : List ℕ) (at n : ℕ) → Option ℕ
kinds_end s at n = times (kind_one s) n at

unfoldable pub looks_end : (s : List ℕ) (at n : ℕ) → Option ℕ
looks_end s at n = times (look_at s) n at

unfoldable pub loads_end : (s : List ℕ) (at n : ℕ) → Option ℕ
loads_end s at n = times (load_at s) n at

unfoldable pub peaks_end : (s : List ℕ) (at n : ℕ) → Option ℕ
peaks_end s at n = times (peak_at s) n at

-- ---- one of a list as it is kept, wrong or not: each of its words as it stands there, or none, and after a wrong word nothing more is read
-- a place that no line has: no word stands there
abbrev pub lost : ℕ
lost = 18446744073709551615

abbrev pub or_lost : {A : Type 0} → (none : A) → Option (Word A) → Word A
or_lost none found = unwrap_or found (word none lost)

-- a kind; where none stands there, it is automatic
unfoldable pub kind_kept : (s : List ℕ) (at : ℕ) → Word ExtraDelay
kind_kept s at =
    let kind = or_lost None (kind_at s at space) in
    word (kind_of kind.value) kind.next

-- a look
unfoldable pub look_kept : (s : List ℕ) (at : ℕ) → Word Look
look_kept s at =
    let watch = or_lost None (maybe_u64_at s at space) in
    let opens = or_lost None (maybe_u64_at s watch.next comma) in
    let make = or_lost false (bit_at s opens.next comma) in
    let channels = or_lost None (maybe_u32_at s make.next comma) in
    let head = or_lost 0 (u64_at s channels.next comma) in
    let applied = or_lost 0 (u32_at s head.next comma) in
    let count = or_lost 0 (u32_at s applied.next comma) in
    let world : World = record { inode = opens.value; made = make.value; reader = channels.value; head = head.value } in
    word (record { seen = watch.value; world = world; applied = applied.value; lags = count.value }) count.next

-- a loaded delay
unfoldable pub load_kept : (s : List ℕ) (at : ℕ) → Word Load
load_kept s at =
    let flow = or_lost 0 (flow_at s at space) in
    let delay = or_lost 0 (u32_at s flow.next equals) in
    word (record { flow = flow_of flow.value; delay = delay.value }) delay.next

-- ---- so many of them from a place on, the next at the place after it
abbrev pub listed : {A : Type 0} → (one : ℕ → A) (after : ℕ → ℕ) (n at : ℕ) → List A
listed one after zero at = []
listed one after (suc n) at = one at ∷ listed one after n (after at)

abbrev pub in_line : {A B : Type 0} → (f : A → B) (one : ℕ → Word A) (n at : ℕ) → List B
in_line f one n at = listed (λ (at : ℕ). f (one at).value) (λ (at : ℕ). (one at).next) n at

-- in 16 places the first n, at most 16, and after them none
unfoldable pub sixteen : {A : Type 0} → (one : ℕ → Word A) (none : A) (n at : ℕ) → List A
sixteen one none n at = in_line (λ x. x) one (min n 16) at ++ replicate (16 - n) none

-- `new`: n kinds; an input that does not exist is automatic
unfoldable pub kinds_at : (s : List ℕ) (at n : ℕ) → List ExtraDelay
kinds_at s at n = sixteen (kind_kept s) (Auto auto-tag) n at

-- `tick`: a look for each input; nothing is seen of an input that does not exist
abbrev pub nothing_seen : Look
nothing_seen = record { seen = None; world = record { inode = None; made = false; reader = None; head = 0 }; applied = 0; lags = 0 }

unfoldable pub looks_at : (s : List ℕ) (at n : ℕ) → List Look
looks_at s at n = sixteen (look_kept s) nothing_seen n at

-- `new`: k times flow=delay, of which 16,384 have room
pub record Loads : Type 0 where
  pub flows : List Flow
  pub delays : List ℕ

unfoldable pub loads_at : (s : List ℕ) (at n : ℕ) → Loads
loads_at s at n = record {
  flows = in_line (λ load. load.flow) (load_kept s) (min n 16384) at;
  delays = in_line (λ load. load.delay) (load_kept s) (min n 16384) at;
}

-- what was stored of the first n: the flows as `new` reads their bytes, and the delays
abbrev pub loaded_flows : (n : ℕ) (bytes : List ℕ) → List Flow
loaded_flows zero bytes = []
loaded_flows (suc n) bytes = loaded_flows n bytes ++ (loaded_flow bytes n ∷ [])

abbrev pub loaded_as : (n : ℕ) (bytes delays : List ℕ) → Loads
loaded_as n bytes delays = record { flows = loaded_flows (min n 16384) bytes; delays = take (min n 16384) delays }

-- a number stands in the 8 bytes from a place on, and the bytes before them are as they were
pub record HalfPut (place value : ℕ) (before after : List ℕ) : Type 0 where
  pub there : bytes_at after place 8 ≡ value
  pub below : (k : ℕ) → k < place → get_or after k 0 ≡ get_or before k 0

-- ---- the lags: `L`, then each up to the end of the line, after those that were read; they are fewer than the list has room for
pub record Lags : Type 0 where
  pub count : ℕ
  pub list : List ℕ

unfoldable pub lags_after : (s : List ℕ) (more at : ℕ) (read : List ℕ) → Option (Word Lags)
lags_after s zero at read = None
lags_after s (suc more) at read =
    pick (ends_at s at) (Some (word (record { count = length read; list = read }) at)) (u32_at s at space >>= λ lag. lags_after s more lag.next (read ++ lag.value ∷ []))

unfoldable pub lags_at : (s : List ℕ) (at room : ℕ) → Option (Word Lags)
lags_at s at room = do
  next ← text_end s at " L"
  lags_after s room next []

-- what was stored: the first so many places of the list
abbrev pub heard_as : (next : ℕ) (count : Option ℕ) (heard : List ℕ) → Option (Word Lags)
heard_as next count heard = option_map (λ n. word (record { count = n; list = take n heard }) next) count

-- ---- the rows up to the end of the line, with cells of buckets that exist; a line has fewer of either than bytes
unfoldable pub cells_after : (s : List ℕ) (buckets more at : ℕ) → Option ℕ
cells_after s buckets zero at = None
cells_after s buckets (suc more) at =
    pick (has_byte s at comma) (cell_at s at >>= λ cell. pick (leb buckets cell.value.bucket) None (cells_after s buckets more cell.next)) (Some at)

unfoldable pub cells_end : (s : List ℕ) (at buckets : ℕ) → Option ℕ
cells_end s at buckets = cells_after s buckets (length s) at

unfoldable pub rows_after : (s : List ℕ) (buckets more at read : ℕ) → Option (Word ℕ)
rows_after s buckets zero at read = None
rows_after s buckets (suc more) at read =
    pick (ends_at s at)
    (Some (word read at))
    (row_at s at >>= λ row. cells_end s row.next buckets >>= λ next. rows_after s buckets more next (read + 1))

unfoldable pub rows_at : (s : List ℕ) (at buckets : ℕ) → Option (Word ℕ)
rows_at s at buckets = rows_after s buckets (length s) at 0
