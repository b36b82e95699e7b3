-- Document 02's sentences about the delay file, each at its edge. Assumes nothing.
use Rattle.std.specs.Prelude.{None, Option, Some}
use Prim.Native.Nat.{ℕ}
use mathlib.Core.Bool.{true, false}
use mathlib.Core.Path.{◌≡◌, refl}
use mathlib.Core.List.{List, [], ◌∷◌, ◌++◌}
use lib.ListN.{replicate}
use Rattle.base.specs.Choice.{both, ask}
use Rattle.base.specs.Lists.{padded, listed, sum, all}
use Rattle.byte_order.specs.Bytes.{bytes_at, little_at, byte_of}
use Rattle.rules_record.specs.declared.Flow.{Flow}
use Rattle.rules_record.specs.declared.FlowEntry.{FlowEntry}
use Rattle.rules_record.specs.Flows.{empty_entry}
use Rattle.rules_files.specs.Files.{lower_flow, rises, head_byte, flow_byte, entry_byte, file_byte, file_of, count_in, flow_in, delay_in, headed}
use Rattle.rules_files.specs.ReadFile.{read_number, flow_byte_in, flows_read, delays_read, read_reply}
use Rattle.rules_files.specs.Table.{held, held_count, rank, ranked_below, sorted_flow, sorted_delay}

abbrev flow : (high low : ℕ) → Flow
flow high low = record { high = high; low = low }

-- "Flows rise strictly by their bytes, the first byte weighing most": a flow is not below itself, and the first eight bytes weigh more than the last
pub flows_in_order :
    lower_flow (flow 1 5) (flow 1 5) ∷ lower_flow (flow 1 5) (flow 1 6) ∷ lower_flow (flow 1 6) (flow 1 5) ∷ lower_flow (flow 1 9) (flow 2 0) ∷ lower_flow (flow 2 0) (flow 1 9) ∷ []
    ≡ false ∷ true ∷ false ∷ true ∷ false ∷ []
unfolding lower_flow both
flows_in_order = refl

-- "the letters DLY, a 16-bit version 1, a 16-bit count .., then for each flow its 16 bytes and a 32-bit delay. Numbers are little-endian.":
-- the flow 1, 2, .., 16 with the delay 4 + 3 · 256 + 2 · 65,536 + 1 · 16,777,216
abbrev file_of_one : List ℕ
file_of_one = 68 ∷ 76 ∷ 89 ∷ 1 ∷ 0 ∷ 1 ∷ 0 ∷ 1 ∷ 2 ∷ 3 ∷ 4 ∷ 5 ∷ 6 ∷ 7 ∷ 8 ∷ 9 ∷ 10 ∷ 11 ∷ 12 ∷ 13 ∷ 14 ∷ 15 ∷ 16 ∷ 4 ∷ 3 ∷ 2 ∷ 1 ∷ []

pub file_of_one_law : file_of 1 7 0 1 (λ k. flow 0x0102030405060708 0x090a0b0c0d0e0f10) (λ k. 16909060) ≡ file_of_one
unfolding file_of file_byte head_byte entry_byte flow_byte byte_of listed
file_of_one_law = refl

pub file_of_none : file_of 1 7 0 0 (λ k. flow 0 0) (λ k. 0) ≡ 68 ∷ 76 ∷ 89 ∷ 1 ∷ 0 ∷ 0 ∷ 0 ∷ []
unfolding file_of file_byte head_byte byte_of listed
file_of_none = refl

-- two entries, with these last flow bytes
abbrev file_of_two : (first second : ℕ) → List ℕ
file_of_two first second =
    (68 ∷ 76 ∷ 89 ∷ 1 ∷ 0 ∷ 2 ∷ 0 ∷ []) ++ (replicate 15 0 ++ ((first ∷ 0 ∷ 0 ∷ 0 ∷ 0 ∷ []) ++ (replicate 15 0 ++ (second ∷ 0 ∷ 0 ∷ 0 ∷ 0 ∷ []))))

abbrev read : List ℕ → ℕ
read file = read_number 1 7 file 1024 64

-- "Number 19 is for a wrong mark, version, count or length": a byte less, a byte more, another mark, version or count, no byte at all, 65 entries
pub wrong_files :
    read file_of_one
    ∷ read (file_of_one ++ (0 ∷ []))
    ∷ read (68 ∷ 76 ∷ 89 ∷ 1 ∷ 0 ∷ 0 ∷ [])
    ∷ read (68 ∷ 76 ∷ 90 ∷ 1 ∷ 0 ∷ 0 ∷ 0 ∷ [])
    ∷ read (68 ∷ 76 ∷ 89 ∷ 2 ∷ 0 ∷ 0 ∷ 0 ∷ [])
    ∷ read (68 ∷ 76 ∷ 89 ∷ 1 ∷ 0 ∷ 1 ∷ 0 ∷ [])
    ∷ read []
    ∷ read (padded 1307 (68 ∷ 76 ∷ 89 ∷ 1 ∷ 0 ∷ 65 ∷ 0 ∷ []))
    ∷ []
    ≡ 0 ∷ 19 ∷ 19 ∷ 19 ∷ 19 ∷ 19 ∷ 19 ∷ 19 ∷ []
unfolding read_number ask headed both little_at count_in rises all flow_in bytes_at lower_flow padded
wrong_files = refl

-- "20 for flows that do not rise": rising, equal, falling; "up to 64": 64 entries are asked for their flows
pub flows_that_rise : read (file_of_two 1 2) ∷ read (file_of_two 1 1) ∷ read (file_of_two 2 1) ∷ read (padded 1287 (68 ∷ 76 ∷ 89 ∷ 1 ∷ 0 ∷ 64 ∷ 0 ∷ [])) ∷ [] ≡ 0 ∷ 20 ∷ 20 ∷ 20 ∷ []
unfolding read_number ask headed both little_at count_in rises all flow_in bytes_at lower_flow padded
flows_that_rise = refl

-- 19 "asked first in the reader", 20 "asked last in the reader", 5 between them
pub order_of_the_checks :
    read_number 1 7 [] 1023 64 ∷ read_number 1 7 file_of_one 1023 64 ∷ read_number 1 7 file_of_one 1025 64 ∷ read_number 1 7 file_of_one 1024 63 ∷ read_number 1 7 (file_of_two 1 1) 1024 65 ∷ []
    ≡ 19 ∷ 5 ∷ 5 ∷ 5 ∷ 5 ∷ []
unfolding read_number ask headed both little_at count_in rises all flow_in bytes_at lower_flow
order_of_the_checks = refl

-- "The reader fills 1,024 flow bytes and 64 delays, unused ones zero, and answers the count"
pub reads_one :
    read_reply 1 7 file_of_one (replicate 1024 7) (replicate 64 7)
    ≡ record { number = 0; count = 1; flows = (1 ∷ 2 ∷ 3 ∷ 4 ∷ 5 ∷ 6 ∷ 7 ∷ 8 ∷ 9 ∷ 10 ∷ 11 ∷ 12 ∷ 13 ∷ 14 ∷ 15 ∷ 16 ∷ []) ++ replicate 1008 0; delays = 16909060 ∷ replicate 63 0 }
unfolding read_reply read_number ask headed both little_at count_in rises all flow_in bytes_at lower_flow flows_read flow_byte_in delays_read delay_in listed padded
reads_one = refl

-- a refused file writes nothing
pub refused_writes_nothing : read_reply 1 7 (file_of_one ++ (0 ∷ [])) (replicate 1024 7) (replicate 64 7) ≡ record { number = 19; count = 0; flows = replicate 1024 7; delays = replicate 64 7 }
unfolding read_reply read_number ask headed both little_at count_in
refused_writes_nothing = refl

-- "A known flow with no remembered delay is not written", the lowest flow first; a remembered 0 is remembered
abbrev entry : (low : ℕ) (remembered : Option ℕ) → FlowEntry
entry low remembered = record { flow = record { high = 0; low = low }; remembered = remembered }

abbrev table : List FlowEntry
table = entry 9 (Some 90) ∷ entry 1 None ∷ entry 2 (Some 0) ∷ entry 5 (Some 50) ∷ []

pub delays_in_order :
    held_count table ∷ (sorted_flow table 0).low ∷ (sorted_flow table 1).low ∷ (sorted_flow table 2).low ∷ sorted_delay table 0 ∷ sorted_delay table 1 ∷ sorted_delay table 2 ∷ []
    ≡ 3 ∷ 2 ∷ 5 ∷ 9 ∷ 0 ∷ 50 ∷ 90 ∷ []
unfolding held_count sorted_flow sorted_delay ranked_below rank held sum lower_flow both empty_entry
delays_in_order = refl
