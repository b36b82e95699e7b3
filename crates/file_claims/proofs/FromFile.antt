-- An accepted file given to `new`: its flows have room, and stand in the table in the file's order. Assumes nothing.
use Rattle.std.specs.Prelude.{Some}
use Prim.Native.Nat.{ℕ, ◌+◌, ◌*◌, ◌/◌, ◌%◌, ◌<◌}
use mathlib.Core.Path.{◌≡◌, refl, sym, ap, ap₂, ◌∙◌}
use mathlib.Core.List.{List}
use native.Mathlib.Omega.{arith}
use lib.ListN.{length, get_or, take}
use lib.Seq.{get_or-take}
use borrow.Author.Tests.{eq-eqb}
use Rattle.base.specs.Lists.{padded, listed}
use Rattle.base.proofs.Choices.{lt_yes, accepted_all, accepted_new}
use Rattle.base.proofs.Listed.{listed_length, listed_padded}
use Rattle.base.proofs.Pads.{take_padded}
use Rattle.base.proofs.Tests.{not_both}
use Rattle.byte_order.specs.Bytes.{AllBytes}
use Rattle.byte_order.proofs.Inverse.{big_cong}
use Rattle.rules_record.specs.declared.ExtraDelay.{ExtraDelay}
use Rattle.rules_record.specs.declared.FlowEntry.{FlowEntry}
use Rattle.rules_record.specs.declared.Inputs.{Inputs}
use Rattle.rules_record.specs.declared.Output.TheVariants.{Bytes}
use Rattle.rules_record.specs.Flows.{empty_entry, entry_at, flow_at, recalled}
use Rattle.rules_record.specs.Lent.{Lists}
use Rattle.rules_record.specs.Reply.{Reply, carried_out}
use Rattle.rules_record.proofs.Checked.{of_checked}
use Rattle.rules_calls.specs.declared.Settings.{Settings}
use Rattle.rules_calls.specs.NewRecord.{blank, blank_for}
use Rattle.rules_calls.specs.NewLoading.{loaded_flow, load_fits}
use Rattle.rules_calls.specs.NewStart.{started, loaded, zeroed_lists}
use Rattle.rules_calls.specs.NewChecks.{new_number}
use Rattle.rules_calls.specs.NewReply.{new_reply}
use Rattle.rules_calls.proofs.NewBlank.{blank_checked}
use Rattle.rules_calls.proofs.NewAccepted.{fit_of, accepted_of, new_checked, new_rest}
use Rattle.rules_calls.proofs.NewPlaces.{Loads, loads_all, loads_fit, full_by_nine}
use Rattle.rules_files.specs.Files.{count_in, flow_in, delay_in}
use Rattle.rules_files.specs.ReadFile.{flow_byte_in, flows_read, delays_read}
use Rattle.rules_files.specs.Table.{held_count}
use Rattle.rules_files.specs.WriteFile.{table_file, write_reply}
use Rattle.rules_files.proofs.FlowOrder.{rises_below, lower_apart}
use Rattle.rules_files.proofs.ReadCases.{Readable}
use Rattle.rules_files.proofs.FileAgain.{Rated, file_again}
use Rattle.rules_files.proofs.InOrder.{Stands, stands_count, stands_file}
use Rattle.rules_files.proofs.WriteCases.{write_reply_accepted}

-- the flow bytes and the delays of a file that was read, without the unused places
abbrev pub bytes_of : (file : List ℕ) (head : ℕ) → List ℕ
bytes_of file head = take (count_in file * 16) (flows_read file head)

abbrev pub delays_of : (file : List ℕ) (head : ℕ) → List ℕ
delays_of file head = take (count_in file) (delays_read file head)

-- ---- what `new` answers
module _ (settings : Settings) (kinds : List ExtraDelay) (bytes delays : List ℕ) (time : ℕ) (l : Lists) (commands : List ℕ) where
  pub new_number_law : (new_reply settings kinds bytes delays time l commands).number ≡ new_number settings bytes delays time l (length commands)
  unfolding new_reply
  new_number_law = accepted_all (λ (r : Reply). r.number ≡ new_number settings bytes delays time l (length commands)) (new_number settings bytes delays time l (length commands)) _ _ refl (λ z. refl)

  pub new_leaves : new_number settings bytes delays time l (length commands) ≡ 0
      → new_reply settings kinds bytes delays time l commands ≡ carried_out (new_number settings bytes delays time l (length commands)) commands (started settings kinds bytes delays time l)
  unfolding new_reply
  new_leaves z = accepted_new (new_number settings bytes delays time l (length commands)) _ _ z

-- ---- a file that was read
module _ (file : List ℕ) (head : ℕ) where
  byte_read : (k j : ℕ) → k < count_in file → j < 16 → get_or (flows_read file head) (k * 16 + j) 0 ≡ get_or file (head + k * 20 + j) 0
  unfolding flows_read flow_byte_in
  byte_read k j l m =
      let a : k * 16 + j < count_in file * 16 = omega arith in
      let q : (k * 16 + j) / 16 ≡ k = omega arith in
      let w : (k * 16 + j) % 16 ≡ j = omega arith in
      listed_padded (flow_byte_in file head) 1024 (count_in file * 16) (k * 16 + j)
      ∙ lt_yes (k * 16 + j) (count_in file * 16) _ _ a
      ∙ ap₂ (λ (x y : ℕ). get_or file (head + x * 20 + y) 0) q w

  -- a list that begins with these bytes has the flows of the file
  flow_of_bytes : (bytes : List ℕ) → ((i : ℕ) → i < count_in file * 16 → get_or bytes i 0 ≡ get_or (flows_read file head) i 0) → (k : ℕ) → k < count_in file → loaded_flow bytes k ≡ flow_in file head k
  unfolding loaded_flow flow_in
  flow_of_bytes bytes same k l =
      ap₂ (λ (a b : ℕ). record { high = a; low = b })
      (big_cong bytes file (k * 16) (head + k * 20) 8 (λ j m. there j (omega arith)))
      (big_cong bytes file (k * 16 + 8) (head + k * 20 + 8) 8 low)
    where
      there : (j : ℕ) → j < 16 → get_or bytes (k * 16 + j) 0 ≡ get_or file (head + k * 20 + j) 0
      there j m = let a : k * 16 + j < count_in file * 16 = omega arith in same (k * 16 + j) a ∙ byte_read k j l m

      low : (j : ℕ) → j < 8 → get_or bytes (k * 16 + 8 + j) 0 ≡ get_or file (head + k * 20 + 8 + j) 0
      low j m =
          let q : k * 16 + 8 + j ≡ k * 16 + (8 + j) = omega arith in
          let w : head + k * 20 + (8 + j) ≡ head + k * 20 + 8 + j = omega arith in
          ap (λ (p : ℕ). get_or bytes p 0) q ∙ there (8 + j) (omega arith) ∙ ap (λ (p : ℕ). get_or file p 0) w

  pub flow_read : (k : ℕ) → k < count_in file → loaded_flow (flows_read file head) k ≡ flow_in file head k
  flow_read = flow_of_bytes (flows_read file head) (λ i l. refl)

  pub delay_read : (k : ℕ) → k < count_in file → get_or (delays_read file head) k 0 ≡ delay_in file head k
  unfolding delays_read
  delay_read k l = listed_padded (delay_in file head) 64 (count_in file) k ∙ lt_yes _ _ _ _ l

-- ---- an accepted file
module _ (version head : ℕ) (file : List ℕ) {places delays-lent : ℕ} (r : Readable version head file places delays-lent) where
  abbrev n : ℕ
  n = count_in file

  abbrev bytes : List ℕ
  bytes = bytes_of file head

  abbrev delays : List ℕ
  delays = delays_of file head

  delays_long : length delays ≡ n
  unfolding delays_read
  delays_long = ap length (take_padded 64 (listed (delay_in file head) n) n (listed_length (delay_in file head) n)) ∙ listed_length (delay_in file head) n

  flow_given : (k : ℕ) → k < n → loaded_flow bytes k ≡ flow_in file head k
  flow_given = flow_of_bytes file head bytes (λ i l. get_or-take (n * 16) (flows_read file head) i 0 l)

  delay_given : (k : ℕ) → k < n → get_or delays k 0 ≡ delay_in file head k
  delay_given k l = get_or-take n (delays_read file head) k 0 l ∙ delay_read file head k l

  apart : (j k : ℕ) → j < k → k < n → loaded_flow bytes j ≡ loaded_flow bytes k → ⊥
  apart j k l m e = lower_apart _ _ (rises_below (flow_in file head) n r.rising j k l m) (sym (flow_given j (omega arith)) ∙ e ∙ flow_given k m)

  module _ (settings : Settings) (l : Lists) (words : ℕ) where
    blank_count : (blank_for settings).flow_count ≡ 0
    unfolding blank_for blank
    blank_count = refl

    -- its flows have room
    pub never_full : (time : ℕ) → new_number settings bytes delays time l words ≡ 9 → ⊥
    never_full time nine =
        let full = full_by_nine settings bytes delays time l words nine in
        let fit = (fit_of settings l words _ _ 0 full.0).0 in
        not_both
        (ap (λ (m : ℕ). load_fits m bytes delays (blank_for settings)) delays_long
        ∙ loads_fit bytes delays (blank_for settings) (zeroed_lists l) (blank_checked settings l fit.allowed fit.long) blank_count n r.headed.few apart)
        full.1

    module _ (kinds : List ExtraDelay) (time : ℕ) (h : new_number settings bytes delays time l words ≡ 0) where
      abbrev fresh : Inputs
      fresh = (started settings kinds bytes delays time l).inputs

      abbrev left : Lists
      left = (started settings kinds bytes delays time l).lists

      in_table : Loads n (loaded_flow bytes) (λ k. get_or delays k 0) (loaded settings bytes delays) (zeroed_lists l)
      in_table =
          let fit = (accepted_of settings l words bytes delays time h).0 in
          rw delays_long (loads_all bytes delays (blank_for settings) (zeroed_lists l) (blank_checked settings l fit.allowed fit.long) blank_count n r.headed.few apart n (omega arith))

      -- the flows of the file stand in its order, each with its delay, and no other place has one
      fresh_stands : Stands n (flow_in file head) (delay_in file head) fresh.flows
      unfolding flow_at recalled entry_at empty_entry
      fresh_stands =
          let rest = new_rest settings kinds bytes delays time l words h in
          let count : fresh.flow_count ≡ n = ap (λ (z : Inputs). z.flow_count) rest ∙ in_table.count in
          record {
            most = r.headed.few;
            flow = λ k m. ap (λ (z : Inputs). flow_at z k) rest ∙ in_table.flow k m ∙ flow_given k m;
            delay = λ k m. ap (λ (z : Inputs). recalled z k) rest ∙ in_table.delay k m ∙ ap Some (delay_given k m);
            none = λ k m. ap (λ (x : FlowEntry). x.remembered) ((new_checked settings kinds bytes delays time l words h).whole.flows.unused k (omega (arith, count)));
          }

      -- and its file is written
      pub comes_back : (rate : ℕ) → AllBytes file → Rated head rate file → (out : List ℕ) → length out ≡ head + 1280
          → write_reply version head rate fresh left out ≡ record { number = 0; length = length file; file = padded (head + 1280) file }
      comes_back rate small rated out long =
          write_reply_accepted version head rate fresh left out
          (of_checked fresh left (Bytes (length out) (head + 1280)) (new_checked settings kinds bytes delays time l words h) (eq-eqb _ _ long) 0)
          ∙ (λ t. record { number = 0; length = so_long t; file = padded (head + 1280) (written t) })
        where
          so_long : head + held_count fresh.flows * 20 ≡ length file
          so_long = ap (λ (c : ℕ). head + c * 20) (stands_count n (flow_in file head) (delay_in file head) fresh.flows fresh_stands) ∙ sym r.headed.long

          written : table_file version head rate fresh.flows ≡ file
          written = stands_file n (flow_in file head) (delay_in file head) fresh.flows fresh_stands r.rising version head rate ∙ sym (file_again version head rate file small r.headed rated)
