-- The file of a strictly rising list of at most 64 entries is accepted, and gives its entries back. Assumes nothing.
use Prim.Native.Nat.{ℕ, ◌+◌, ◌-◌, ◌*◌, ◌/◌, ◌%◌, ◌<◌, ◌≤◌}
use mathlib.Core.Bool.{true}
use mathlib.Core.Path.{◌≡◌, refl, sym, ap, ap₂, ◌∙◌}
use mathlib.Core.List.{List}
use native.Mathlib.Omega.{arith}
use lib.ListN.{length, get_or}
use borrow.Author.Tests.{ne_eqb}
use Rattle.base.specs.Lists.{padded, listed}
use Rattle.base.proofs.Choices.{lt_yes, lt_no, no_pick}
use Rattle.base.proofs.Listed.{listed_length, listed_at, listed_cong}
use Rattle.base.proofs.Tests.{all_cong}
use Rattle.byte_order.specs.Bytes.{byte_of}
use Rattle.byte_order.proofs.Inverse.{weight, big_of, little_of}
use Rattle.rules_record.specs.declared.Flow.{Flow}
use Rattle.rules_files.specs.Files.{lower_flow, rises, head_byte, flow_byte, entry_byte, file_byte, file_of, Widths, count_in, flow_in, delay_in}
use Rattle.rules_files.specs.ReadFile.{read_number, flow_byte_in, flows_read, delays_read}
use Rattle.rules_files.proofs.ReadCases.{Readable, accepts}

module _ (version head rate n : ℕ) (flows : ℕ → Flow) (delays : ℕ → ℕ) (long-head : 7 ≤ head) where
  abbrev file : List ℕ
  file = file_of version head rate n flows delays

  file_long : length file ≡ head + n * 20
  unfolding file_of
  file_long = listed_length _ (head + n * 20)

  head_at : (i : ℕ) → i < head → get_or file i 0 ≡ head_byte version rate n i
  unfolding file_of file_byte
  head_at i l = listed_at (file_byte version head rate n flows delays) (head + n * 20) i (omega arith) ∙ lt_yes _ _ _ _ l

  entry_at : (k j : ℕ) → k < n → j < 20 → get_or file (head + k * 20 + j) 0 ≡ entry_byte (flows k) (delays k) j
  unfolding file_of file_byte
  entry_at k j l m =
      let a : head + k * 20 + j < head + n * 20 = omega arith in
      let b : head ≤ head + k * 20 + j = omega arith in
      let q : (head + k * 20 + j - head) / 20 ≡ k = omega arith in
      let w : (head + k * 20 + j - head) % 20 ≡ j = omega arith in
      listed_at (file_byte version head rate n flows delays) (head + n * 20) (head + k * 20 + j) a
      ∙ lt_no (head + k * 20 + j) head _ _ b
      ∙ ap₂ (λ (x y : ℕ). entry_byte (flows x) (delays x) y) q w

  flow_at_law : (k j : ℕ) → k < n → j < 16 → get_or file (head + k * 20 + j) 0 ≡ flow_byte (flows k) j
  unfolding entry_byte
  flow_at_law k j l m = entry_at k j l (omega arith) ∙ lt_yes _ _ _ _ m

  edition_at : (j : ℕ) → j < 2 → get_or file (3 + j) 0 ≡ byte_of j version
  unfolding head_byte
  edition_at j l =
      let q : 3 + j - 3 ≡ j = omega arith in
      head_at (3 + j) (omega arith)
      ∙ no_pick _ _ (ne_eqb (3 + j) 0 (λ e. omega arith)) ∙ no_pick _ _ (ne_eqb (3 + j) 1 (λ e. omega arith)) ∙ no_pick _ _ (ne_eqb (3 + j) 2 (λ e. omega arith))
      ∙ lt_yes (3 + j) 5 _ _ (omega arith) ∙ ap (λ (k : ℕ). byte_of k version) q

  count_at : (j : ℕ) → j < 2 → get_or file (5 + j) 0 ≡ byte_of j n
  unfolding head_byte
  count_at j l =
      let q : 5 + j - 5 ≡ j = omega arith in
      head_at (5 + j) (omega arith)
      ∙ no_pick _ _ (ne_eqb (5 + j) 0 (λ e. omega arith)) ∙ no_pick _ _ (ne_eqb (5 + j) 1 (λ e. omega arith)) ∙ no_pick _ _ (ne_eqb (5 + j) 2 (λ e. omega arith))
      ∙ lt_no (5 + j) 5 _ _ (omega arith) ∙ lt_yes (5 + j) 7 _ _ (omega arith) ∙ ap (λ (k : ℕ). byte_of k n) q

  module _ (few : n ≤ 64) where
    pub count_back : count_in file ≡ n
    unfolding count_in weight
    count_back = little_of file 5 2 n (omega arith) count_at

    -- the flow bytes that the reader gives
    pub flow_bytes_back : flows_read file head ≡ padded 1024 (listed (λ i. flow_byte (flows (i / 16)) (i % 16)) (n * 16))
    unfolding flows_read flow_byte_in
    flow_bytes_back = ap (λ (c : ℕ). padded 1024 (listed (flow_byte_in file head) (c * 16))) count_back ∙ ap (padded 1024) (listed_cong _ _ (n * 16) back)
      where
        back : (i : ℕ) → i < n * 16 → get_or file (head + i / 16 * 20 + i % 16) 0 ≡ flow_byte (flows (i / 16)) (i % 16)
        back i l = flow_at_law (i / 16) (i % 16) (omega arith) (omega arith)

    module _ (widths : Widths n flows delays) where
      pub flow_back : (k : ℕ) → k < n → flow_in file head k ≡ flows k
      unfolding flow_in flow_byte weight
      flow_back k l =
          ap₂ (λ (a b : ℕ). record { high = a; low = b })
          (big_of file (head + k * 20) 8 (flows k).high (widths.high k l) (λ j m. flow_at_law k j l (omega arith) ∙ lt_yes _ _ _ _ m))
          (big_of file (head + k * 20 + 8) 8 (flows k).low (widths.low k l) low)
        where
          low : (j : ℕ) → j < 8 → get_or file (head + k * 20 + 8 + j) 0 ≡ byte_of (7 - j) (flows k).low
          low j m =
              let q : head + k * 20 + 8 + j ≡ head + k * 20 + (8 + j) = omega arith in
              let w : 15 - (8 + j) ≡ 7 - j = omega arith in
              ap (λ (p : ℕ). get_or file p 0) q ∙ flow_at_law k (8 + j) l (omega arith) ∙ lt_no (8 + j) 8 _ _ (omega arith) ∙ ap (λ (p : ℕ). byte_of p (flows k).low) w

      pub delay_back : (k : ℕ) → k < n → delay_in file head k ≡ delays k
      unfolding delay_in entry_byte weight
      delay_back k l = little_of file (head + k * 20 + 16) 4 (delays k) (widths.delay k l) late
        where
          late : (j : ℕ) → j < 4 → get_or file (head + k * 20 + 16 + j) 0 ≡ byte_of j (delays k)
          late j m =
              let q : head + k * 20 + 16 + j ≡ head + k * 20 + (16 + j) = omega arith in
              let w : 16 + j - 16 ≡ j = omega arith in
              ap (λ (p : ℕ). get_or file p 0) q ∙ entry_at k (16 + j) l (omega arith) ∙ lt_no (16 + j) 16 _ _ (omega arith) ∙ ap (λ (p : ℕ). byte_of p (delays k)) w

      -- the delays that the reader gives
      pub delays_back : delays_read file head ≡ padded 64 (listed delays n)
      unfolding delays_read
      delays_back = ap (λ (c : ℕ). padded 64 (listed (delay_in file head) c)) count_back ∙ ap (padded 64) (listed_cong _ _ n delay_back)

      rises_back : rises (flow_in file head) n ≡ rises flows n
      unfolding rises
      rises_back = all_cong _ _ (n - 1) (λ k l. ap₂ lower_flow (flow_back k (omega arith)) (flow_back (k + 1) (omega arith)))

      pub file_readable : version < weight 2 → rises flows n ≡ true → Readable version head file 1024 64
      unfolding head_byte
      file_readable v up = record {
        headed = record { first = head_at 0 (omega arith); second = head_at 1 (omega arith); third = head_at 2 (omega arith); edition = little_of file 3 2 version v edition_at; few = omega (arith, count_back); long = file_long ∙ ap (λ (c : ℕ). head + c * 20) (sym count_back) };
        bytes_long = refl;
        delays_long = refl;
        rising = ap (rises (flow_in file head)) count_back ∙ rises_back ∙ up;
      }

      pub file_accepted : version < weight 2 → rises flows n ≡ true → read_number version head file 1024 64 ≡ 0
      file_accepted v up = accepts version head file 1024 64 (file_readable v up)
