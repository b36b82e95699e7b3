-- The delay file of version 1 as a whole (document 02, §2), over what `read_delays`, `new` and `write_delays` answer. Assumes nothing.
-- Two facts are asked of what a call is given, and every call has them by the types of its arguments: the calls promise them, of every file
-- (`read_delays`: AllBytes) and of every flow table (`write_delays`: TableWidths).
use Rattle.std.specs.Prelude.{ℕ, ◌*◌, ◌/◌, ◌%◌, ◌≤◌, ◌<◌, true, ◌≡◌, List, length, get_or, take, Some}
use Rattle.base.specs.Lists.{padded, listed}
use Rattle.byte_order.specs.Bytes.{AllBytes}
use Rattle.rules_record.specs.declared.ExtraDelay.{ExtraDelay}
use Rattle.rules_record.specs.declared.Flow.{Flow}
use Rattle.rules_record.specs.declared.Inputs.{Inputs}
use Rattle.rules_record.specs.Flows.{flow_at, recalled}
use Rattle.rules_record.specs.Lent.{Lists}
use Rattle.rules_record.specs.Reply.{Reply}
use Rattle.rules_calls.specs.declared.Settings.{Settings}
use Rattle.rules_calls.specs.NewLoading.{loaded_flow, Remembers}
use Rattle.rules_calls.specs.NewReply.{new_reply}
use Rattle.rules_files.specs.Files.{rises, flow_byte, file_of, Widths}
use Rattle.rules_files.specs.ReadFile.{LeftByReader, read_reply}
use Rattle.rules_files.specs.Table.{held_count, sorted_flow, sorted_delay, TableWidths}
use Rattle.rules_files.specs.WriteFile.{LeftByWriter, write_reply}

-- the two calls
abbrev pub read_delays : (file flows delays : List ℕ) → LeftByReader
read_delays file flows delays = read_reply 1 7 file flows delays

abbrev pub write_delays : (s : Inputs) (l : Lists) (file : List ℕ) → LeftByWriter
write_delays s l file = write_reply 1 7 0 s l file

-- `new` with what was read: as many delays as were answered, and 16 flow bytes to each
abbrev pub new_from : (r : LeftByReader) (settings : Settings) (kinds : List ExtraDelay) (time : ℕ) (l : Lists) (commands : List ℕ) → Reply
new_from r settings kinds time l commands = new_reply settings kinds (take (r.count * 16) r.flows) (take r.count r.delays) time l commands

-- ---- "Every accepted file, given to `new` and written, comes back byte for byte.", with its length, the unused places zero
abbrev pub RoundTrip : Type 0
RoundTrip =
    (file flows delays : List ℕ) → AllBytes file → (read_delays file flows delays).number ≡ 0 →
    (settings : Settings) (kinds : List ExtraDelay) (time : ℕ) (l : Lists) (commands : List ℕ) → (new_from (read_delays file flows delays) settings kinds time l commands).number ≡ 0 →
    (out : List ℕ) → length out ≡ 1287 →
    write_delays (new_from (read_delays file flows delays) settings kinds time l commands).inputs (new_from (read_delays file flows delays) settings kinds time l commands).lists out
    ≡ record { number = 0; length = length file; file = padded 1287 file }

-- an accepted file is never refused by 9: its flows have room
abbrev pub NeverNine : Type 0
NeverNine =
    (file flows delays : List ℕ) → (read_delays file flows delays).number ≡ 0 →
    (settings : Settings) (kinds : List ExtraDelay) (time : ℕ) (l : Lists) (commands : List ℕ) → (new_from (read_delays file flows delays) settings kinds time l commands).number ≡ 9 → ⊥

-- ---- what is written is read again
-- the file that was written: the list up to the answered length
abbrev pub file_written : LeftByWriter → List ℕ
file_written w = take w.length w.file

-- the reader accepts it, and gives the delays of the flow table with their flows, the lowest flow first, unused places zero
abbrev pub ReadAgain : Type 0
ReadAgain =
    (s : Inputs) (l : Lists) (out : List ℕ) → TableWidths s.flows → (write_delays s l out).number ≡ 0 →
    (flows delays : List ℕ) → length flows ≡ 1024 → length delays ≡ 64 →
    read_delays (file_written (write_delays s l out)) flows delays
    ≡ record {
      number = 0;
      count = held_count s.flows;
      flows = padded 1024 (listed (λ i. flow_byte (sorted_flow s.flows (i / 16)) (i % 16)) (held_count s.flows * 16));
      delays = padded 64 (listed (sorted_delay s.flows) (held_count s.flows));
    }

-- a delay among those that were read, and of which flow
pub record Given (r : LeftByReader) (flow : Flow) (delay : ℕ) : Type 0 where
  pub at : ℕ
  pub there : at < r.count
  pub of_flow : loaded_flow r.flows at ≡ flow
  pub is : get_or r.delays at 0 ≡ delay

-- they are exactly those that the record remembers: each of them, each flow once, and nothing else ("A known flow with no remembered delay is not written.")
pub record ExactlyRemembered (s : Inputs) (r : LeftByReader) : Type 0 where
  pub each : (place delay : ℕ) → recalled s place ≡ Some delay → Given r (flow_at s place) delay
  pub once : (j k : ℕ) → j < r.count → k < r.count → loaded_flow r.flows j ≡ loaded_flow r.flows k → j ≡ k
  pub only : (k : ℕ) → k < r.count → Remembers s (loaded_flow r.flows k) (get_or r.delays k 0)

abbrev pub GivesTheRemembered : Type 0
GivesTheRemembered =
    (s : Inputs) (l : Lists) (out : List ℕ) → TableWidths s.flows → (write_delays s l out).number ≡ 0 →
    (flows delays : List ℕ) → length flows ≡ 1024 → length delays ≡ 64 →
    ExactlyRemembered s (read_delays (file_written (write_delays s l out)) flows delays)

-- ---- which files are accepted
-- the file of a strictly rising list of at most 64 entries, whose numbers have their widths
pub record OfEntries (file : List ℕ) : Type 0 where
  pub count : ℕ
  pub flows : ℕ → Flow
  pub delays : ℕ → ℕ
  pub few : count ≤ 64
  pub widths : Widths count flows delays
  pub rising : rises flows count ≡ true
  pub same : file ≡ file_of 1 7 0 count flows delays

-- a file is accepted exactly if it is one, where the lent lists have their lengths
abbrev pub AcceptsExactly : Type 0
AcceptsExactly =
    (file flows delays : List ℕ) →
    (AllBytes file → (read_delays file flows delays).number ≡ 0 → OfEntries file) × (length flows ≡ 1024 → length delays ≡ 64 → OfEntries file → (read_delays file flows delays).number ≡ 0)

-- all of it
pub record FileClaims : Type 0 where
  pub round_trip : RoundTrip
  pub never_nine : NeverNine
  pub read_again : ReadAgain
  pub gives_the_remembered : GivesTheRemembered
  pub accepts_exactly : AcceptsExactly
