-- The writer's bytes and replies, case by case. Assumes nothing.
use Prim.Native.Nat.{ℕ, ◌+◌, ◌-◌, ◌*◌, ◌/◌, ◌%◌, ◌≤◌, ◌<◌}
use mathlib.Core.Path.{◌≡◌, refl, sym, ap, ◌∙◌}
use mathlib.Core.List.{List}
use native.Mathlib.Omega.{arith}
use lib.Dec.{ltb}
use lib.ListN.{length, get_or}
use borrow.Author.Tests.{eqb-true}
use Rattle.std.specs.Prelude.{Option, None, Some}
use Rattle.std.specs.Option.{unwrap_or}
use Rattle.base.specs.Choice.{pick}
use Rattle.base.specs.Lists.{padded, listed}
use Rattle.base.proofs.Choices.{lt_yes, lt_no, by_le, refused_old, accepted_new, accepted_all}
use Rattle.base.proofs.Listed.{listed_at}
use Rattle.rules_record.specs.declared.FlowEntry.{FlowEntry}
use Rattle.rules_record.specs.declared.Inputs.{Inputs}
use Rattle.rules_record.specs.declared.Output.TheVariants.{Bytes}
use Rattle.rules_record.specs.Flows.{empty_entry, entry_in}
use Rattle.rules_record.specs.Lent.{Lists}
use Rattle.rules_record.proofs.Checked.{checked_output}
use Rattle.rules_files.specs.Files.{head_byte, entry_byte, file_byte, file_of}
use Rattle.rules_files.specs.Table.{delay_of, held_count, ranked_below, sorted_flow, sorted_delay}
use Rattle.rules_files.specs.WriteFile.{table_file, write_number, LeftByWriter, write_reply}
use Rattle.rules_files.specs.WriteInPlace.{byte_by}
use Rattle.rules_files.proofs.RankLoops.{entry_there, ranked_within}

-- ---- one byte
-- a delay as std answers it, 0 where there is none
pub delay_or_zero : (remembered : Option ℕ) → unwrap_or remembered 0 ≡ delay_of remembered
delay_or_zero None = refl
delay_or_zero (Some delay) = refl

module _ (head i : ℕ) (within : i < head + 1280) {k : ℕ} (e : k ≡ (i - head) / 20) where
  pub entry_few : k < 64
  entry_few = omega arith

  module _ (table : List FlowEntry) {places : List ℕ} (p : places ≡ listed (ranked_below 64 table) 64) where
    place_there : get_or places k 0 ≡ ranked_below 64 table k
    place_there = ap (λ (xs : List ℕ). get_or xs k 0) p ∙ listed_at (ranked_below 64 table) 64 k entry_few

    pub place_within : get_or places k 0 < 64
    place_within = rw place_there (ranked_within 64 table k (omega arith))

    pub byte_by_entry : (version rate count : ℕ) {v : ℕ} → v ≡ byte_by version head rate count (get_or table (get_or places k 0) empty_entry) i
        → v ≡ pick (ltb i (head + count * 20)) (file_byte version head rate count (sorted_flow table) (sorted_delay table) i) 0
    unfolding file_byte sorted_flow sorted_delay
    byte_by_entry version rate count q = q ∙ ap (λ (v : ℕ). pick (ltb i (head + count * 20)) v 0) inner
      where
        entry : FlowEntry
        entry = get_or table (get_or places k 0) empty_entry

        there : entry ≡ entry_in table (ranked_below 64 table ((i - head) / 20))
        there = sym (entry_there table _ place_within) ∙ ap (entry_in table) (place_there ∙ ap (ranked_below 64 table) e)

        inner : pick (ltb i head) (head_byte version rate count i) (entry_byte entry.flow (delay_of entry.remembered) ((i - head) % 20)) ≡ file_byte version head rate count (sorted_flow table) (sorted_delay table) i
        inner =
            by_le head i
            (λ l. ap (λ (x : FlowEntry). pick (ltb i head) (head_byte version rate count i) (entry_byte x.flow (delay_of x.remembered) ((i - head) % 20))) there)
            (λ l. lt_yes i head _ _ l ∙ sym (lt_yes i head _ _ l))

module _ (version head rate count : ℕ) (entry : FlowEntry) (i : ℕ) (l : i < head + count * 20) where
  pub byte_in_head : i < head → {v : ℕ} → v ≡ head_byte version rate count i → v ≡ byte_by version head rate count entry i
  byte_in_head m e = e ∙ sym (lt_yes _ _ _ _ l ∙ lt_yes _ _ _ _ m)

  pub byte_in_entry : head ≤ i → {delay : ℕ} → delay ≡ delay_of entry.remembered → {v : ℕ} → v ≡ entry_byte entry.flow delay ((i - head) % 20) → v ≡ byte_by version head rate count entry i
  byte_in_entry m d e = e ∙ ap (λ (delay : ℕ). entry_byte entry.flow delay ((i - head) % 20)) d ∙ sym (lt_yes _ _ _ _ l ∙ lt_no _ _ _ _ m)

-- ---- the checks
pub write_long : (head : ℕ) (s : Inputs) (l : Lists) (bytes : ℕ) → write_number head s l bytes ≡ 0 → bytes ≡ head + 1280
write_long head s l bytes h = eqb-true _ _ (checked_output s l (Bytes bytes (head + 1280)) h)

-- ---- the replies
module _ (version head rate : ℕ) (s : Inputs) (l : Lists) (file : List ℕ) where
  pub write_reply_number : (write_reply version head rate s l file).number ≡ write_number head s l (length file)
  unfolding write_reply
  write_reply_number = accepted_all (λ (r : LeftByWriter). r.number ≡ number) number _ _ refl (λ z. sym z)
    where
      number : ℕ
      number = write_number head s l (length file)

  pub write_reply_accepted : write_number head s l (length file) ≡ 0
      → write_reply version head rate s l file ≡ record { number = 0; length = head + held_count s.flows * 20; file = padded (head + 1280) (table_file version head rate s.flows) }
  unfolding write_reply
  write_reply_accepted z = accepted_new (write_number head s l (length file)) _ _ z

module _ (version head rate : ℕ) (s : Inputs) (l : Lists) (file : List ℕ) {number : ℕ} (e : number ≡ write_number head s l (length file)) where
  pub write_refused : (number ≡ 0 → ⊥) → ◌≡◌ {A = LeftByWriter} (record { number = number; length = 0; file = file }) (write_reply version head rate s l file)
  unfolding write_reply
  write_refused h =
      ap (λ (n : ℕ). let left : LeftByWriter = record { number = n; length = 0; file = file } in left) e
      ∙ sym (refused_old (write_number head s l (length file)) _ _ (λ z. h (e ∙ z)))

  pub write_accepted : number ≡ 0 → {count : ℕ} → count ≡ held_count s.flows → {out : List ℕ} → out ≡ padded (head + 1280) (listed (file_byte version head rate count (sorted_flow s.flows) (sorted_delay s.flows)) (head + count * 20))
      → ◌≡◌ {A = LeftByWriter} (record { number = number; length = head + count * 20; file = out }) (write_reply version head rate s l file)
  unfolding table_file file_of
  write_accepted h {count} c {out} f = rw (f, c, h) (sym (write_reply_accepted version head rate s l file (sym e ∙ h)))
