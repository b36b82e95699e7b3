-- The reader of a delay file: its checks and what it leaves. Assumes nothing.
use Rattle.std.specs.Prelude.{Result, ℕ, ◌+◌, ◌*◌, ◌/◌, ◌%◌, List, eqb, get_or, length}
use Rattle.base.specs.Choice.{ask, accepted}
use Rattle.base.specs.Lists.{padded, listed}
use Rattle.refusals.specs.declared.Refusal.{Refusal}
use Rattle.refusals.specs.Numbers.{number_in, value_in}
use Rattle.rules_files.specs.Files.{rises, count_in, flow_in, delay_in, headed}

-- "Number 19 is for a wrong mark, version, count or length, asked first in the reader; 20 for flows that do not rise, asked last in the reader":
-- 19 5 20, with so many flow bytes and delays lent
unfoldable pub read_number : (version head : ℕ) (file : List ℕ) (bytes delays : ℕ) → ℕ
read_number version head file bytes delays =
    ask 19 (headed version head file)
    (ask 5 (eqb bytes 1024)
    (ask 5 (eqb delays 64)
    (ask 20 (rises (flow_in file head) (count_in file)) 0)))

-- byte i of the flows of a file: 16 to each entry
unfoldable pub flow_byte_in : (file : List ℕ) (head i : ℕ) → ℕ
flow_byte_in file head i = get_or file (head + i / 16 * 20 + i % 16) 0

-- "The reader fills 1,024 flow bytes and 64 delays, unused ones zero"
unfoldable pub flows_read : (file : List ℕ) (head : ℕ) → List ℕ
flows_read file head = padded 1024 (listed (flow_byte_in file head) (count_in file * 16))

unfoldable pub delays_read : (file : List ℕ) (head : ℕ) → List ℕ
delays_read file head = padded 64 (listed (delay_in file head) (count_in file))

-- what a reading leaves
pub record LeftByReader : Type 0 where
  pub number : ℕ
  pub count : ℕ
  pub flows : List ℕ
  pub delays : List ℕ

-- .. of each case of what the reader gives, which is a count
abbrev pub left_read : Result ℕ Refusal → (flows delays : List ℕ) → LeftByReader
left_read result flows delays = record { number = number_in result; count = value_in 0 result; flows = flows; delays = delays }

-- ".. and answers the count"; refused: "that number, a zero value, and record and buffers unchanged"
unfoldable pub read_reply : (version head : ℕ) (file flows delays : List ℕ) → LeftByReader
read_reply version head file flows delays =
    accepted (read_number version head file (length flows) (length delays))
    (record { number = read_number version head file (length flows) (length delays); count = 0; flows = flows; delays = delays })
    (record { number = 0; count = count_in file; flows = flows_read file head; delays = delays_read file head })
