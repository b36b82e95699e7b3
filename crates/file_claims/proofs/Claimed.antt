-- The claims of the delay file. Assumes nothing.
use Prim.Native.Nat.{ℕ, ◌<◌}
use mathlib.Core.Path.{◌≡◌, sym, ap, ap₂, subst, ◌∙◌}
use mathlib.Core.List.{List}
use native.Mathlib.Omega.{arith}
use lib.ListN.{length}
use Rattle.base.specs.Lists.{padded}
use Rattle.byte_order.specs.Bytes.{AllBytes}
use Rattle.byte_order.proofs.Inverse.{weight}
use Rattle.rules_record.specs.declared.ExtraDelay.{ExtraDelay}
use Rattle.rules_record.specs.Lent.{Lists}
use Rattle.rules_record.specs.Reply.{Reply}
use Rattle.rules_calls.specs.declared.Settings.{Settings}
use Rattle.rules_calls.specs.NewChecks.{new_number}
use Rattle.rules_calls.specs.NewReply.{new_reply}
use Rattle.rules_files.specs.Files.{count_in, flow_in, delay_in}
use Rattle.rules_files.specs.ReadFile.{LeftByReader, read_number}
use Rattle.rules_files.proofs.ReadCases.{Readable, readable, read_reply_number, read_reply_accepted}
use Rattle.rules_files.proofs.WriteCases.{write_reply_number}
use Rattle.rules_files.proofs.FileAgain.{file_again, widths_in}
use Rattle.rules_files.proofs.FileAccepted.{file_accepted}
use Rattle.file_claims.specs.FileClaims.{read_delays, write_delays, new_from, RoundTrip, NeverNine, ReadAgain, GivesTheRemembered, ExactlyRemembered, OfEntries, AcceptsExactly, FileClaims}
use Rattle.file_claims.proofs.FromFile.{bytes_of, delays_of, new_number_law, new_leaves, never_full, comes_back}
use Rattle.file_claims.proofs.WrittenRead.{table_read, table_remembered, whole_written, file_left}

one_small : 1 < weight 2
unfolding weight
one_small = omega arith

-- ---- an accepted file given to `new`
module _ (file flows delays : List ℕ) (taken : (read_delays file flows delays).number ≡ 0) where
  passed : read_number 1 7 file (length flows) (length delays) ≡ 0
  passed = sym (read_reply_number 1 7 file flows delays) ∙ taken

  is_read : Readable 1 7 file (length flows) (length delays)
  is_read = readable 1 7 file (length flows) (length delays) passed

  module _ (settings : Settings) (kinds : List ExtraDelay) (time : ℕ) (l : Lists) (commands : List ℕ) where
    -- what it is given
    from_file : new_from (read_delays file flows delays) settings kinds time l commands ≡ new_reply settings kinds (bytes_of file 7) (delays_of file 7) time l commands
    from_file = ap (λ (r : LeftByReader). new_from r settings kinds time l commands) (read_reply_accepted 1 7 file flows delays passed)

    its_number : (new_from (read_delays file flows delays) settings kinds time l commands).number ≡ new_number settings (bytes_of file 7) (delays_of file 7) time l (length commands)
    its_number = ap (λ (r : Reply). r.number) from_file ∙ new_number_law settings kinds (bytes_of file 7) (delays_of file 7) time l commands

    not_nine : (new_from (read_delays file flows delays) settings kinds time l commands).number ≡ 9 → ⊥
    not_nine nine = never_full 1 7 file is_read settings l (length commands) time (sym its_number ∙ nine)

    back : AllBytes file → (new_from (read_delays file flows delays) settings kinds time l commands).number ≡ 0 → (out : List ℕ) → length out ≡ 1287
        → write_delays (new_from (read_delays file flows delays) settings kinds time l commands).inputs (new_from (read_delays file flows delays) settings kinds time l commands).lists out
        ≡ record { number = 0; length = length file; file = padded 1287 file }
    back small made out long =
        let z : new_number settings (bytes_of file 7) (delays_of file 7) time l (length commands) ≡ 0 = sym its_number ∙ made in
        ap (λ (r : Reply). write_delays r.inputs r.lists out) (from_file ∙ new_leaves settings kinds (bytes_of file 7) (delays_of file 7) time l commands z)
        ∙ comes_back 1 7 file is_read settings l (length commands) kinds time z 0 small (λ i a b. absurd (omega arith)) out long

pub round_trip : RoundTrip
round_trip file flows delays small taken settings kinds time l commands made out long = back file flows delays taken settings kinds time l commands small made out long

pub never_nine : NeverNine
never_nine file flows delays taken settings kinds time l commands nine = not_nine file flows delays taken settings kinds time l commands nine

-- ---- what was written
pub read_again : ReadAgain
read_again s l out t taken flows delays flows_long delays_long =
    let z = sym (write_reply_number 1 7 0 s l out) ∙ taken in
    ap (λ (file : List ℕ). read_delays file flows delays) (file_left 1 7 0 s l out z)
    ∙ table_read s l (whole_written 1 7 0 s l out z) 1 7 0 (omega arith) one_small t flows delays flows_long delays_long

pub gives_the_remembered : GivesTheRemembered
gives_the_remembered s l out t taken flows delays flows_long delays_long =
    let z = sym (write_reply_number 1 7 0 s l out) ∙ taken in
    subst (λ (file : List ℕ). ExactlyRemembered s (read_delays file flows delays)) (sym (file_left 1 7 0 s l out z))
    (table_remembered s l (whole_written 1 7 0 s l out z) 1 7 0 (omega arith) one_small t flows delays flows_long delays_long)

-- ---- which files are accepted
pub accepts_exactly : AcceptsExactly
accepts_exactly file flows delays = (λ small taken. entries small (is_read file flows delays taken), λ flows_long delays_long e. read_reply_number 1 7 file flows delays ∙ ap₂ (read_number 1 7 file) flows_long delays_long ∙ of_entries e)
  where
    entries : AllBytes file → Readable 1 7 file (length flows) (length delays) → OfEntries file
    entries small r = record {
      count = count_in file;
      flows = flow_in file 7;
      delays = delay_in file 7;
      few = r.headed.few;
      widths = widths_in file 7 small;
      rising = r.rising;
      same = file_again 1 7 0 file small r.headed (λ i a b. absurd (omega arith));
    }

    of_entries : OfEntries file → read_number 1 7 file 1024 64 ≡ 0
    of_entries e =
        subst (λ (f : List ℕ). read_number 1 7 f 1024 64 ≡ 0) (sym e.same)
        (file_accepted 1 7 0 e.count e.flows e.delays (omega arith) e.few e.widths one_small e.rising)

pub file_claims : FileClaims
file_claims = record { round_trip = round_trip; never_nine = never_nine; read_again = read_again; gives_the_remembered = gives_the_remembered; accepts_exactly = accepts_exactly }
