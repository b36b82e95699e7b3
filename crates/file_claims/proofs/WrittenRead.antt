-- What the writer writes the reader accepts, and gives exactly the remembered delays. Assumes nothing.
use Rattle.std.specs.Prelude.{Some}
use Prim.Native.Nat.{ℕ, ◌+◌, ◌*◌, ◌/◌, ◌%◌, ◌<◌, ◌≤◌}
use mathlib.Core.Bool.{true}
use mathlib.Core.Path.{◌≡◌, sym, ap, ap₂, subst, ◌∙◌}
use mathlib.Core.Logic.{⊎_elim}
use mathlib.Core.List.{List}
use native.Mathlib.Nat.{eq-or-lt_of_le}
use native.Mathlib.Omega.{arith}
use lib.ListN.{length, get_or}
use Rattle.base.specs.Lists.{padded, listed}
use Rattle.base.proofs.Choices.{by_le}
use Rattle.base.proofs.Listed.{listed_length}
use Rattle.base.proofs.Pads.{take_padded}
use Rattle.base.proofs.Tests.{not_both}
use Rattle.byte_order.proofs.Inverse.{weight}
use Rattle.rules_record.specs.declared.FlowEntry.{FlowEntry}
use Rattle.rules_record.specs.declared.Inputs.{Inputs}
use Rattle.rules_record.specs.declared.Output.TheVariants.{Bytes}
use Rattle.rules_record.specs.Flows.{empty_entry, entry_in, entry_at, flow_at, recalled, known}
use Rattle.rules_record.specs.Lent.{Lists}
use Rattle.rules_record.specs.Facts.{Whole}
use Rattle.rules_record.proofs.Checked.{settings_told}
use Rattle.rules_record.proofs.FlowTable.{distinct_places}
use Rattle.rules_calls.specs.NewLoading.{loaded_flow, Remembers}
use Rattle.rules_files.specs.Files.{rises, flow_byte, file_of, Widths, count_in, flow_in, delay_in}
use Rattle.rules_files.specs.ReadFile.{read_number, flows_read, delays_read, LeftByReader, read_reply}
use Rattle.rules_files.specs.Table.{has_delay, delay_of, flow_of, held, held_count, rank, ranked_below, sorted_flow, sorted_delay, TableWidths}
use Rattle.rules_files.specs.WriteFile.{table_file, write_number, write_reply}
use Rattle.rules_files.proofs.FlowOrder.{rises_below, lower_apart}
use Rattle.rules_files.proofs.ReadCases.{read_reply_accepted}
use Rattle.rules_files.proofs.WriteCases.{write_reply_accepted}
use Rattle.rules_files.proofs.Ranks.{Apart, sorted_rises, sorted_at, sorted_held, held_most, delay_held, sorted_widths}
use Rattle.rules_files.proofs.FileAccepted.{file_accepted, count_back, flow_bytes_back, flow_back, delay_back, delays_back}
use Rattle.file_claims.specs.FileClaims.{file_written, Given, ExactlyRemembered}
use Rattle.file_claims.proofs.FromFile.{flow_read, delay_read}

-- ---- the table of a whole record
module _ (s : Inputs) (l : Lists) (whole : Whole s l) where
  abbrev table : List FlowEntry
  table = s.flows

  -- a place with a delay is in use
  held_known : (p : ℕ) → held table p ≡ true → p < s.flow_count
  unfolding held entry_at empty_entry
  held_known p h =
      by_le s.flow_count p
      (λ m. absurd (not_both h (ap (λ (x : FlowEntry). has_delay x.remembered) (whole.flows.unused p m))))
      (λ m. m)

  places_apart : Apart table
  unfolding flow_at entry_at known
  places_apart p q i j hp hq e = distinct_places s whole.flows.distinct p q (omega (arith, i, held_known p hp)) (omega (arith, j, held_known q hq)) e

  rising : rises (sorted_flow table) (held_count table) ≡ true
  rising = sorted_rises table places_apart

  module _ (version head rate : ℕ) (long-head : 7 ≤ head) (small : version < weight 2) (t : TableWidths table) where
    widths : Widths (held_count table) (sorted_flow table) (sorted_delay table)
    widths = sorted_widths table t

    abbrev file : List ℕ
    file = table_file version head rate table

    table_accepted : read_number version head file 1024 64 ≡ 0
    unfolding table_file
    table_accepted = file_accepted version head rate (held_count table) (sorted_flow table) (sorted_delay table) long-head (held_most table) widths small rising

    table_count : count_in file ≡ held_count table
    unfolding table_file
    table_count = count_back version head rate (held_count table) (sorted_flow table) (sorted_delay table) long-head (held_most table)

    table_flow : (k : ℕ) → k < held_count table → flow_in file head k ≡ sorted_flow table k
    unfolding table_file
    table_flow = flow_back version head rate (held_count table) (sorted_flow table) (sorted_delay table) long-head (held_most table) widths

    table_delay : (k : ℕ) → k < held_count table → delay_in file head k ≡ sorted_delay table k
    unfolding table_file
    table_delay = delay_back version head rate (held_count table) (sorted_flow table) (sorted_delay table) long-head (held_most table) widths

    -- what the reader gives, entry by entry
    abbrev given : LeftByReader
    given = record { number = 0; count = count_in file; flows = flows_read file head; delays = delays_read file head }

    flow_is : (k : ℕ) → k < count_in file → loaded_flow (flows_read file head) k ≡ sorted_flow table k
    flow_is k m = flow_read file head k m ∙ table_flow k (omega (arith, table_count))

    delay_is : (k : ℕ) → k < count_in file → get_or (delays_read file head) k 0 ≡ sorted_delay table k
    delay_is k m = delay_read file head k m ∙ table_delay k (omega (arith, table_count))

    each : (place delay : ℕ) → recalled s place ≡ Some delay → Given given (flow_at s place) delay
    unfolding recalled flow_at entry_at held sorted_flow sorted_delay
    each place delay e =
        let a = sorted_at table places_apart place (ap has_delay e) in
        let m : rank table (flow_of table place) < count_in file = omega (arith, a.0, table_count) in
        record {
          at = rank table (flow_of table place);
          there = m;
          of_flow = flow_is _ m ∙ ap (flow_of table) a.1;
          is = delay_is _ m ∙ ap (λ (p : ℕ). delay_of (entry_in table p).remembered) a.1 ∙ ap delay_of e;
        }

    once : (j k : ℕ) → j < count_in file → k < count_in file → loaded_flow (flows_read file head) j ≡ loaded_flow (flows_read file head) k → j ≡ k
    once j k i m e =
        by_le j k
        (λ l. ⊎_elim (λ q. q) (λ l. absurd (differ j k l m (sym (flow_is j i) ∙ e ∙ flow_is k m))) (eq-or-lt_of_le l))
        (λ l. absurd (differ k j l i (sym (flow_is k m) ∙ sym e ∙ flow_is j i)))
      where
        differ : (j k : ℕ) → j < k → k < count_in file → sorted_flow table j ≡ sorted_flow table k → ⊥
        differ j k l m = lower_apart _ _ (rises_below (sorted_flow table) (held_count table) rising j k l (omega (arith, table_count)))

    only : (k : ℕ) → k < count_in file → Remembers s (loaded_flow (flows_read file head) k) (get_or (delays_read file head) k 0)
    unfolding recalled flow_at entry_at held sorted_flow sorted_delay
    only k m =
        let h : held table (ranked_below 64 table k) ≡ true = sorted_held table places_apart k (omega (arith, table_count)) in
        record {
          place = ranked_below 64 table k;
          known = held_known (ranked_below 64 table k) h;
          holds = sym (flow_is k m);
          has = delay_held _ h ∙ ap Some (sym (delay_is k m));
        }

    module _ (flows delays : List ℕ) (flows_long : length flows ≡ 1024) (delays_long : length delays ≡ 64) where
      table_number : read_number version head file (length flows) (length delays) ≡ 0
      table_number = ap₂ (read_number version head file) flows_long delays_long ∙ table_accepted

      -- it is read again
      pub table_read : read_reply version head file flows delays
          ≡ record {
            number = 0;
            count = held_count table;
            flows = padded 1024 (listed (λ i. flow_byte (sorted_flow table (i / 16)) (i % 16)) (held_count table * 16));
            delays = padded 64 (listed (sorted_delay table) (held_count table));
          }
      unfolding table_file
      table_read =
          read_reply_accepted version head file flows delays table_number
          ∙ (λ i. record {
            number = 0;
            count = table_count i;
            flows = flow_bytes_back version head rate (held_count table) (sorted_flow table) (sorted_delay table) long-head (held_most table) i;
            delays = delays_back version head rate (held_count table) (sorted_flow table) (sorted_delay table) long-head (held_most table) widths i;
          })

      -- what is given are the delays that it remembers
      pub table_remembered : ExactlyRemembered s (read_reply version head file flows delays)
      table_remembered = subst (ExactlyRemembered s) (sym (read_reply_accepted version head file flows delays table_number)) (record { each = each; once = once; only = only })

-- ---- what the writer leaves
module _ (version head rate : ℕ) (s : Inputs) (l : Lists) (out : List ℕ) (z : write_number head s l (length out) ≡ 0) where
  pub whole_written : Whole s l
  whole_written = (settings_told s l (Bytes (length out) (head + 1280)) 0 z).0.whole

  -- up to the answered length it is the file of the table
  pub file_left : file_written (write_reply version head rate s l out) ≡ table_file version head rate s.flows
  unfolding table_file file_of
  file_left =
      ap file_written (write_reply_accepted version head rate s l out z)
      ∙ take_padded (head + 1280) (table_file version head rate s.flows) (head + held_count s.flows * 20) (listed_length _ (head + held_count s.flows * 20))
