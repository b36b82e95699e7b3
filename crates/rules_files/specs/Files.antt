-- The delay file (document 02, §2). Its edition is a parameter: its version, how many bytes its head has, and the rate that stands in the head after the
-- count (a head of 7 bytes has none). Assumes nothing.
use Rattle.std.specs.Prelude.{ℕ, ◌+◌, ◌-◌, ◌*◌, ◌/◌, ◌%◌, ◌^◌, ◌<◌, Bool, true, List, eqb, ltb, leb, get_or, length}
use Rattle.base.specs.Choice.{pick, both}
use Rattle.base.specs.Lists.{all, listed}
use Rattle.byte_order.specs.Bytes.{little_at, byte_of}
use Rattle.rules_record.specs.declared.Flow.{Flow}
use Rattle.rules_record.specs.Flows.{flow_from}

-- ---- flows in order
-- "by their bytes, the first byte weighing most"
unfoldable pub lower_flow : (a b : Flow) → Bool
lower_flow a b = pick (ltb a.high b.high) true (both (eqb a.high b.high) (ltb a.low b.low))

-- "Flows rise strictly": each of n flows but the last is lower than the one after it
unfoldable pub rises : (flows : (ℕ → Flow)) (n : ℕ) → Bool
rises flows n = all (λ k. lower_flow (flows k) (flows (k + 1))) (n - 1)

-- ---- the file of so many flows with their delays
-- "the letters DLY, a 16-bit version .., a 16-bit count", "Numbers are little-endian"; in a longer head the rate follows
unfoldable pub head_byte : (version rate count i : ℕ) → ℕ
head_byte version rate count i =
    pick (eqb i 0) 68
    (pick (eqb i 1) 76
    (pick (eqb i 2) 89
    (pick (ltb i 5) (byte_of (i - 3) version)
    (pick (ltb i 7) (byte_of (i - 5) count) (byte_of (i - 7) rate)))))

-- a flow's "16 bytes", "the first byte weighing most"
unfoldable pub flow_byte : (flow : Flow) (j : ℕ) → ℕ
flow_byte flow j = pick (ltb j 8) (byte_of (7 - j) flow.high) (byte_of (15 - j) flow.low)

-- "for each flow its 16 bytes and a 32-bit delay"
unfoldable pub entry_byte : (flow : Flow) (delay j : ℕ) → ℕ
entry_byte flow delay j = pick (ltb j 16) (flow_byte flow j) (byte_of (j - 16) delay)

unfoldable pub file_byte : (version head rate count : ℕ) (flows : (ℕ → Flow)) (delays : (ℕ → ℕ)) (i : ℕ) → ℕ
file_byte version head rate count flows delays i =
    pick (ltb i head) (head_byte version rate count i)
    (entry_byte (flows ((i - head) / 20)) (delays ((i - head) / 20)) ((i - head) % 20))

-- "Nothing follows the last one."
unfoldable pub file_of : (version head rate count : ℕ) (flows : (ℕ → Flow)) (delays : (ℕ → ℕ)) → List ℕ
file_of version head rate count flows delays = listed (file_byte version head rate count flows delays) (head + count * 20)

-- the numbers of so many flows and delays have their widths, as in every value of the program's types
pub record Widths (count : ℕ) (flows : (ℕ → Flow)) (delays : (ℕ → ℕ)) : Type 0 where
  pub high : (k : ℕ) → k < count → (flows k).high < 2 ^ 64
  pub low : (k : ℕ) → k < count → (flows k).low < 2 ^ 64
  pub delay : (k : ℕ) → k < count → delays k < 2 ^ 32

-- ---- what a file holds
unfoldable pub count_in : (file : List ℕ) → ℕ
count_in file = little_at file 5 2

-- the flow and the delay of entry k
unfoldable pub flow_in : (file : List ℕ) (head k : ℕ) → Flow
flow_in file head k = flow_from file (head + k * 20)

unfoldable pub delay_in : (file : List ℕ) (head k : ℕ) → ℕ
delay_in file head k = little_at file (head + k * 20 + 16) 4

-- mark, version, count ("up to 64") and length are right
unfoldable pub headed : (version head : ℕ) (file : List ℕ) → Bool
headed version head file =
    both (eqb (get_or file 0 0) 68)
    (both (eqb (get_or file 1 0) 76)
    (both (eqb (get_or file 2 0) 89)
    (both (eqb (little_at file 3 2) version)
    (both (leb (count_in file) 64) (eqb (length file) (head + count_in file * 20))))))
