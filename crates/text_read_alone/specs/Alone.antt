-- The lines of the calls that need no supervisor, row by row as compare/README.md's table has them: the name, then the words, each after a
-- space, and what is read with the place after it. None where the name is another, or a word is missing or of another form. Assumes nothing.
use Rattle.std.specs.Prelude.{ℕ, List, Option, None, Some, leb}
use Rattle.std.specs.Option.{option_or}
use Rattle.std.specs.Float.{binary64}
use Rattle.std.specs.Float.Ieee.{of_bits}
use Rattle.base.specs.Choice.{pick}
use Rattle.delay_hold.specs.declared.DelayHold.{DelayHold}
use Rattle.text_scan.specs.declared.Word.{Word}
use Rattle.text_scan.specs.Scan.{word, ◌>>=◌, after_word}
use Rattle.text_scan.specs.Text.{text}
use Rattle.text_words.specs.Words.{u64_at, hex_at, u32_at, u8_at, bit_at, maybe_u64_at, maybe_u32_at, maybe_pair_at}
use Rattle.text_files.specs.Files.{file_at}
use Rattle.text_requests.specs.declared.HoldAsked.{HoldAsked}
use Rattle.text_requests.specs.declared.Lone.{Lone}
use Rattle.text_requests.specs.declared.Lone.TheVariants.{Number, Window, WindowSet, WindowSum, Hold, HoldSet, Coalesce, Schedule, ReadDelays}
use Rattle.text_requests.specs.declared.NumberCall.TheVariants.{Ms, Samples, Need, IndexAt, TimeOf}
use Rattle.text_requests.specs.declared.WindowCall.TheVariants.{WindowNew, Push, Clear, Span, Quantile}
use Rattle.text_requests.specs.declared.HoldCall.TheVariants.{HoldNew, Next}
use Rattle.text_requests.specs.declared.CoalesceCall.TheVariants.{CoalesceSet, Changed, Pending, Take, TakeDue}
use Rattle.text_requests.specs.declared.ScheduleCall.TheVariants.{QuerySet, QueryUp, QueryFailed}
use Rattle.text_requests.specs.declared.SumAsked.{SumAsked}
use Rattle.text_requests.specs.Forms.{space, word_end}
use Rattle.text_requests.specs.Lists.{peaks_end, rows_at}
use Rattle.text_requests.specs.Parts.{down_of, timer_of, seed_of}

-- a line that is its name alone, which says this value
abbrev pub bare_line : {A : Type 0} → (s : List ℕ) (at : ℕ) (name : List ℕ) (value : A) → Option (Word A)
bare_line s at name value = do
  end ← after_word s at name
  Some (word value end)

-- ---- numbers

-- `ms`: u32
unfoldable pub ms_line : (s : List ℕ) (at : ℕ) → Option (Word Lone)
ms_line s at = do
  name ← word_end s at "ms"
  n ← u32_at s name space
  Some (word (Number (Ms n.value)) n.next)

-- `samples`: hex64
unfoldable pub samples_line : (s : List ℕ) (at : ℕ) → Option (Word Lone)
samples_line s at = do
  name ← word_end s at "samples"
  m ← hex_at s name space
  Some (word (Number (Samples (of_bits binary64 m.value))) m.next)

-- `need`: offset u32, max u32, margin u32, percent hex64, lag u32
unfoldable pub need_line : (s : List ℕ) (at : ℕ) → Option (Word Lone)
need_line s at = do
  name ← word_end s at "need"
  offset ← u32_at s name space
  most ← u32_at s offset.next space
  margin ← u32_at s most.next space
  percent ← hex_at s margin.next space
  lag ← u32_at s percent.next space
  Some (word (Number (Need (record { offset = offset.value; most = most.value; margin = margin.value; percent = of_bits binary64 percent.value; lag = lag.value }))) lag.next)

-- `index_at`: u64
unfoldable pub index_at_line : (s : List ℕ) (at : ℕ) → Option (Word Lone)
index_at_line s at = do
  name ← word_end s at "index_at"
  time ← u64_at s name space
  Some (word (Number (IndexAt time.value)) time.next)

-- `time_of`: u64
unfoldable pub time_of_line : (s : List ℕ) (at : ℕ) → Option (Word Lone)
time_of_line s at = do
  name ← word_end s at "time_of"
  index ← u64_at s name space
  Some (word (Number (TimeOf index.value)) index.next)

-- ---- the window

-- `wnew`: offset u32, max u32, W u32
unfoldable pub wnew_line : (s : List ℕ) (at : ℕ) → Option (Word Lone)
wnew_line s at = do
  name ← word_end s at "wnew"
  offset ← u32_at s name space
  most ← u32_at s offset.next space
  width ← u32_at s most.next space
  Some (word (Window (WindowNew (record { offset = offset.value; most = most.value; width = width.value }))) width.next)

-- `wset`: rows
unfoldable pub wset_line : (s : List ℕ) (at buckets : ℕ) → Option (Word Lone)
wset_line s at buckets = do
  name ← word_end s at "wset"
  rows ← rows_at s name buckets
  Some (word (WindowSet (record { at = name; seconds = rows.value })) rows.next)

-- a sum: bucket u32, which exists, sum u64
unfoldable pub sum_at : (s : List ℕ) (at buckets : ℕ) → Option (Word SumAsked)
sum_at s at buckets = do
  bucket ← u32_at s at space
  sum ← u64_at s bucket.next space
  pick (leb buckets bucket.value) None (Some (word (record { bucket = bucket.value; sum = sum.value }) sum.next))

-- `wsum`: a sum
unfoldable pub wsum_line : (s : List ℕ) (at buckets : ℕ) → Option (Word Lone)
wsum_line s at buckets = do
  name ← word_end s at "wsum"
  words ← sum_at s name buckets
  Some (word (WindowSum words.value) words.next)

-- `wpush`: lag u32, now u64
unfoldable pub wpush_line : (s : List ℕ) (at : ℕ) → Option (Word Lone)
wpush_line s at = do
  name ← word_end s at "wpush"
  lag ← u32_at s name space
  time ← u64_at s lag.next space
  Some (word (Window (Push (record { lag = lag.value; time = time.value }))) time.next)

-- `wclear`: nothing
abbrev pub wclear_line : (s : List ℕ) (at : ℕ) → Option (Word Lone)
wclear_line s at = bare_line s at (text "wclear") (Window Clear)

-- `wspan`: nothing
abbrev pub wspan_line : (s : List ℕ) (at : ℕ) → Option (Word Lone)
wspan_line s at = bare_line s at (text "wspan") (Window Span)

-- `wquant`: q hex64, limit u32
unfoldable pub wquant_line : (s : List ℕ) (at : ℕ) → Option (Word Lone)
wquant_line s at = do
  name ← word_end s at "wquant"
  q ← hex_at s name space
  limit ← u32_at s q.next space
  Some (word (Window (Quantile (record { q = of_bits binary64 q.value; limit = limit.value }))) limit.next)

-- ---- the hold

-- the fields of a hold: n, n times time:lag, last change u64|-, timer (u64:u32)|-, started u64|-, startup lates (0 to 255), late before bit,
-- seed (u64:u32)|-
unfoldable pub hold_at : (s : List ℕ) (at : ℕ) → Option (Word HoldAsked)
hold_at s at = do
  n ← u64_at s at space
  end ← peaks_end s n.next n.value
  last ← maybe_u64_at s end space
  lower ← maybe_pair_at s last.next space 4294967295
  started ← maybe_u64_at s lower.next space
  lates ← u8_at s started.next space
  late ← bit_at s lates.next space
  seeded ← maybe_pair_at s late.next space 4294967295
  let hold : DelayHold = record {
    peaks = n.value;
    last_change = last.value;
    lower = timer_of lower.value;
    started = started.value;
    startup_late = lates.value;
    late_before = late.value;
    seeded = seed_of seeded.value;
  }
  Some (word (record { at = n.next; hold = hold }) seeded.next)

-- `hnew`: nothing
abbrev pub hnew_line : (s : List ℕ) (at : ℕ) → Option (Word Lone)
hnew_line s at = bare_line s at (text "hnew") (Hold HoldNew)

-- `hset`: fields
unfoldable pub hset_line : (s : List ℕ) (at : ℕ) → Option (Word Lone)
hset_line s at = do
  name ← word_end s at "hset"
  words ← hold_at s name
  Some (word (HoldSet words.value) words.next)

-- `next`: offset u32, max u32, W u32, hold u64, window u64, margin u32, percent hex64, p999 u32|-, lag u32|-, current u32, now u64
unfoldable pub next_line : (s : List ℕ) (at : ℕ) → Option (Word Lone)
next_line s at = do
  name ← word_end s at "next"
  offset ← u32_at s name space
  most ← u32_at s offset.next space
  width ← u32_at s most.next space
  hold ← u64_at s width.next space
  window ← u64_at s hold.next space
  margin ← u32_at s window.next space
  percent ← hex_at s margin.next space
  p999 ← maybe_u32_at s percent.next space
  largest ← maybe_u32_at s p999.next space
  current ← u32_at s largest.next space
  time ← u64_at s current.next space
  Some (word (Hold (Next (record { offset = offset.value; most = most.value; width = width.value; hold = hold.value; window = window.value; margin = margin.value; percent = of_bits binary64 percent.value; p999 = p999.value; largest = largest.value; current = current.value; time = time.value }))) time.next)

-- ---- the clocks

-- `co_set`: due u64|-
unfoldable pub co_set_line : (s : List ℕ) (at : ℕ) → Option (Word Lone)
co_set_line s at = do
  name ← word_end s at "co_set"
  due ← maybe_u64_at s name space
  Some (word (Coalesce (CoalesceSet due.value)) due.next)

-- `co_changed`: now u64, delay u64
unfoldable pub co_changed_line : (s : List ℕ) (at : ℕ) → Option (Word Lone)
co_changed_line s at = do
  name ← word_end s at "co_changed"
  time ← u64_at s name space
  delay ← u64_at s time.next space
  Some (word (Coalesce (Changed (record { time = time.value; delay = delay.value }))) delay.next)

-- `co_pending`: nothing
abbrev pub co_pending_line : (s : List ℕ) (at : ℕ) → Option (Word Lone)
co_pending_line s at = bare_line s at (text "co_pending") (Coalesce Pending)

-- `co_take`: nothing
abbrev pub co_take_line : (s : List ℕ) (at : ℕ) → Option (Word Lone)
co_take_line s at = bare_line s at (text "co_take") (Coalesce Take)

-- `co_take_due`: now u64
unfoldable pub co_take_due_line : (s : List ℕ) (at : ℕ) → Option (Word Lone)
co_take_due_line s at = do
  name ← word_end s at "co_take_due"
  time ← u64_at s name space
  Some (word (Coalesce (TakeDue time.value)) time.next)

-- `q_set`: (until u64:wait u64)|-
unfoldable pub q_set_line : (s : List ℕ) (at : ℕ) → Option (Word Lone)
q_set_line s at = do
  name ← word_end s at "q_set"
  down ← maybe_pair_at s name space 18446744073709551615
  Some (word (Schedule (QuerySet (down_of down.value))) down.next)

-- `q_up`: now u64
unfoldable pub q_up_line : (s : List ℕ) (at : ℕ) → Option (Word Lone)
q_up_line s at = do
  name ← word_end s at "q_up"
  time ← u64_at s name space
  Some (word (Schedule (QueryUp time.value)) time.next)

-- `q_failed`: now u64
unfoldable pub q_failed_line : (s : List ℕ) (at : ℕ) → Option (Word Lone)
q_failed_line s at = do
  name ← word_end s at "q_failed"
  time ← u64_at s name space
  Some (word (Schedule (QueryFailed time.value)) time.next)

-- ---- a delay file

-- `dread1`: the bytes of a delay file, two hex digits each, or - for none
unfoldable pub dread1_line : (s : List ℕ) (at : ℕ) → Option (Word Lone)
dread1_line s at = do
  name ← word_end s at "dread1"
  file ← file_at s name space
  Some (word (ReadDelays file.value) file.next)

-- ---- all lines: the first that is there
infixl 20 ◌or◌
abbrev ◌or◌ : (first second : Option (Word Lone)) → Option (Word Lone)
first or second = option_or first second

unfoldable pub number_lines : (s : List ℕ) (at : ℕ) → Option (Word Lone)
number_lines s at = ms_line s at
    or samples_line s at
    or need_line s at
    or index_at_line s at
    or time_of_line s at

unfoldable pub window_lines : (s : List ℕ) (at buckets : ℕ) → Option (Word Lone)
window_lines s at buckets = wnew_line s at
    or wset_line s at buckets
    or wsum_line s at buckets
    or wpush_line s at
    or wclear_line s at
    or wspan_line s at
    or wquant_line s at

unfoldable pub hold_lines : (s : List ℕ) (at : ℕ) → Option (Word Lone)
hold_lines s at = hnew_line s at
    or hset_line s at
    or next_line s at

unfoldable pub clock_lines : (s : List ℕ) (at : ℕ) → Option (Word Lone)
clock_lines s at = co_set_line s at
    or co_changed_line s at
    or co_pending_line s at
    or co_take_line s at
    or co_take_due_line s at
    or q_set_line s at
    or q_up_line s at
    or q_failed_line s at

unfoldable pub lone_line : (s : List ℕ) (at buckets : ℕ) → Option (Word Lone)
lone_line s at buckets = number_lines s at
    or window_lines s at buckets
    or hold_lines s at
    or clock_lines s at
    or dread1_line s at
