-- A file of bytes whose head is right is the file of its own entries. Assumes nothing.
use Prim.Native.Nat.{ℕ, ◌+◌, ◌-◌, ◌*◌, ◌/◌, ◌%◌, ◌<◌, ◌≤◌}
use mathlib.Core.Path.{◌≡◌, sym, ap, ◌∙◌}
use mathlib.Core.List.{List}
use native.Mathlib.Omega.{arith}
use lib.Dec.{eqb}
use lib.ListN.{get_or}
use lib.Seq.{ext_get_or}
use borrow.Author.Tests.{eqb-true, eqb-false}
use Rattle.base.proofs.Choices.{pick_rule, lt_rule}
use Rattle.base.proofs.Listed.{listed_length, listed_at}
use Rattle.byte_order.specs.Bytes.{bytes_at, little_at, byte_of, AllBytes}
use Rattle.byte_order.proofs.Inverse.{weight, big_byte, little_byte, big_small, little_small}
use Rattle.rules_files.specs.Files.{head_byte, flow_byte, entry_byte, file_byte, file_of, Widths, count_in, flow_in, delay_in}
use Rattle.rules_files.proofs.Heads.{Headed}

-- the rate in a head that is longer than 7 bytes
abbrev pub Rated : (head rate : ℕ) → List ℕ → Type 0
Rated head rate file = (i : ℕ) → 7 ≤ i → i < head → get_or file i 0 ≡ byte_of (i - 7) rate

from_three : (i : ℕ) → (i ≡ 0 → ⊥) → (i ≡ 1 → ⊥) → (i ≡ 2 → ⊥) → 3 ≤ i
from_three i a b c = omega (arith, a, b, c)

past : (m i : ℕ) → m ≤ i → i ≡ m + (i - m)
past m i l = omega arith

-- ---- an accepted file is the file of its entries
module _ (version head rate : ℕ) (file : List ℕ) (small : AllBytes file) (h : Headed version head file) (rated : Rated head rate file) where
  head_same : (i : ℕ) → i < head → get_or file i 0 ≡ head_byte version rate (count_in file) i
  unfolding head_byte count_in
  head_same i l =
      pick_rule (λ (v : ℕ). get_or file i 0 ≡ v) (eqb i 0) _ _ (λ e. ap (λ (k : ℕ). get_or file k 0) (eqb-true i 0 e) ∙ h.first)
      (λ n0. pick_rule (λ (v : ℕ). get_or file i 0 ≡ v) (eqb i 1) _ _ (λ e. ap (λ (k : ℕ). get_or file k 0) (eqb-true i 1 e) ∙ h.second)
      (λ n1. pick_rule (λ (v : ℕ). get_or file i 0 ≡ v) (eqb i 2) _ _ (λ e. ap (λ (k : ℕ). get_or file k 0) (eqb-true i 2 e) ∙ h.third)
      (λ n2. lt_rule i 5 _ _ (λ (v : ℕ). get_or file i 0 ≡ v) (λ m. edition m (eqb-false i 0 n0) (eqb-false i 1 n1) (eqb-false i 2 n2))
      (λ m. lt_rule i 7 _ _ (λ (v : ℕ). get_or file i 0 ≡ v) (λ k. count m k) (λ k. rated i k l)))))
    where
      edition : i < 5 → (i ≡ 0 → ⊥) → (i ≡ 1 → ⊥) → (i ≡ 2 → ⊥) → get_or file i 0 ≡ byte_of (i - 3) version
      edition m a b c =
          let j : i - 3 < 2 = omega arith in
          ap (λ (k : ℕ). get_or file k 0) (past 3 i (from_three i a b c)) ∙ sym (little_byte file 3 2 (i - 3) small j) ∙ ap (byte_of (i - 3)) h.edition

      count : 5 ≤ i → i < 7 → get_or file i 0 ≡ byte_of (i - 5) (little_at file 5 2)
      count m k =
          let j : i - 5 < 2 = omega arith in
          let q : i ≡ 5 + (i - 5) = omega arith in
          ap (λ (k : ℕ). get_or file k 0) q ∙ sym (little_byte file 5 2 (i - 5) small j)

  flow_same : (k j : ℕ) → j < 16 → get_or file (head + k * 20 + j) 0 ≡ flow_byte (flow_in file head k) j
  unfolding flow_byte flow_in
  flow_same k j l =
      lt_rule j 8 _ _ (λ (v : ℕ). get_or file (head + k * 20 + j) 0 ≡ v) (λ m. sym (big_byte file (head + k * 20) 8 j small m)) low
    where
      low : 8 ≤ j → get_or file (head + k * 20 + j) 0 ≡ byte_of (15 - j) (bytes_at file (head + k * 20 + 8) 8)
      low m =
          let a : j - 8 < 8 = omega arith in
          let q : head + k * 20 + j ≡ head + k * 20 + 8 + (j - 8) = omega arith in
          let r : 7 - (j - 8) ≡ 15 - j = omega arith in
          ap (λ (p : ℕ). get_or file p 0) q ∙ sym (big_byte file (head + k * 20 + 8) 8 (j - 8) small a) ∙ ap (λ (p : ℕ). byte_of p (bytes_at file (head + k * 20 + 8) 8)) r

  entry_same : (k j : ℕ) → j < 20 → get_or file (head + k * 20 + j) 0 ≡ entry_byte (flow_in file head k) (delay_in file head k) j
  unfolding entry_byte delay_in
  entry_same k j l =
      lt_rule j 16 _ _ (λ (v : ℕ). get_or file (head + k * 20 + j) 0 ≡ v) (λ m. flow_same k j m) late
    where
      late : 16 ≤ j → get_or file (head + k * 20 + j) 0 ≡ byte_of (j - 16) (little_at file (head + k * 20 + 16) 4)
      late m =
          let a : j - 16 < 4 = omega arith in
          let q : head + k * 20 + j ≡ head + k * 20 + 16 + (j - 16) = omega arith in
          ap (λ (p : ℕ). get_or file p 0) q ∙ sym (little_byte file (head + k * 20 + 16) 4 (j - 16) small a)

  pub file_again : file ≡ file_of version head rate (count_in file) (flow_in file head) (delay_in file head)
  unfolding file_of file_byte
  file_again = ext_get_or 0 file _ (h.long ∙ sym (listed_length _ _)) (λ i l. at i (rw h.long at l) ∙ sym (listed_at (file_byte version head rate (count_in file) (flow_in file head) (delay_in file head)) (head + count_in file * 20) i (rw h.long at l)))
    where
      at : (i : ℕ) → i < head + count_in file * 20 → get_or file i 0 ≡ file_byte version head rate (count_in file) (flow_in file head) (delay_in file head) i
      at i l =
          lt_rule i head _ _ (λ (v : ℕ). get_or file i 0 ≡ v) (λ m. head_same i m)
          (λ m. let q : i ≡ head + (i - head) / 20 * 20 + (i - head) % 20 = omega arith in ap (λ (p : ℕ). get_or file p 0) q ∙ entry_same ((i - head) / 20) ((i - head) % 20) (omega arith))

-- its flows and delays have their widths
pub widths_in : (file : List ℕ) (head : ℕ) → AllBytes file → Widths (count_in file) (flow_in file head) (delay_in file head)
unfolding flow_in delay_in weight
widths_in file head small = record { high = λ k l. big_small file _ 8 small; low = λ k l. big_small file _ 8 small; delay = λ k l. little_small file _ 4 small }
