-- The writer of the remembered delays: its checks and what it leaves. Assumes nothing.
use Rattle.std.specs.Prelude.{Result, ℕ, ◌+◌, ◌*◌, List, length}
use Rattle.base.specs.Choice.{accepted}
use Rattle.base.specs.Lists.{padded}
use Rattle.rules_record.specs.declared.FlowEntry.{FlowEntry}
use Rattle.rules_record.specs.declared.Inputs.{Inputs}
use Rattle.rules_record.specs.declared.Output.TheVariants.{Bytes}
use Rattle.rules_record.specs.Lent.{Lists}
use Rattle.rules_record.specs.Checks.{record_number}
use Rattle.refusals.specs.declared.Refusal.{Refusal}
use Rattle.refusals.specs.Numbers.{number_in, value_in}
use Rattle.rules_files.specs.Files.{file_of}
use Rattle.rules_files.specs.Table.{held_count, sorted_flow, sorted_delay}

-- the file of a flow table
unfoldable pub table_file : (version head rate : ℕ) (table : List FlowEntry) → List ℕ
table_file version head rate table = file_of version head rate (held_count table) (sorted_flow table) (sorted_delay table)

-- the checks of a call on a whole supervisor; 5: "The writer's list is 1,287 bytes", which are the head and 64 entries
abbrev pub write_number : (head : ℕ) (s : Inputs) (l : Lists) (bytes : ℕ) → ℕ
write_number head s l bytes = record_number s l (Bytes bytes (head + 1280)) 0

-- what a writing leaves
pub record LeftByWriter : Type 0 where
  pub number : ℕ
  pub length : ℕ
  pub file : List ℕ

-- .. of each case of what the writer gives, which is a length
abbrev pub left_written : Result ℕ Refusal → (file : List ℕ) → LeftByWriter
left_written result file = record { number = number_in result; length = value_in 0 result; file = file }

-- ".. the unused ones zero, and it answers the length"; refused: "that number, a zero value, and record and buffers unchanged"
unfoldable pub write_reply : (version head rate : ℕ) (s : Inputs) (l : Lists) (file : List ℕ) → LeftByWriter
write_reply version head rate s l file =
    accepted (write_number head s l (length file))
    (record { number = write_number head s l (length file); length = 0; file = file })
    (record { number = 0; length = head + held_count s.flows * 20; file = padded (head + 1280) (table_file version head rate s.flows) })
