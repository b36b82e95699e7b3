-- What number 0 of an accepted `status` says. Assumes nothing.
use Rattle.std.specs.Prelude.{◌≡◌, ℕ}
use mathlib.Core.Path.{sym, ◌∙◌}
use borrow.Author.Tests.{leb-true}
use Rattle.base.proofs.Choices.{asked}
use Rattle.rules_record.specs.declared.Inputs.{Inputs}
use Rattle.rules_record.specs.Sized.{Sized}
use Rattle.rules_record.specs.declared.Output.TheVariants.{Absent}
use Rattle.rules_record.specs.Inputs.{slot_at}
use Rattle.rules_record.specs.Lent.{Lists}
use Rattle.rules_record.specs.Facts.{OwnSums}
use Rattle.rules_record.proofs.Checked.{checked}
use Rattle.rules_record.proofs.Shapes.{window_sums}
use Rattle.rules_record.proofs.InputNumbers.{input_told}
use Rattle.rules_calls.specs.StatusChecks.{status_number}
use Rattle.inputs_status.specs.StatusAsked.{Showable}

pub status_showable : (s : Inputs) (l : Lists) (input applied channels : ℕ) {n : ℕ} → Sized s → n ≡ status_number s l input applied channels → n ≡ 0 → Showable s input applied l.sums l.peaks
unfolding status_number
status_showable s l input applied channels sized is_number passed =
    let told = input_told s l Absent input _ (sym is_number ∙ passed) in
    record {
      starts = l.starts;
      totals = l.totals;
      counts = l.counts;
      times = l.times;
      checked = checked s l Absent sized told.0;
      input = told.1;
      applied_most = leb-true _ _ (asked 9 _ _ told.2).0;
    }

pub status_own : (s : Inputs) (l : Lists) (input applied channels : ℕ) {n : ℕ} → Sized s → n ≡ status_number s l input applied channels → n ≡ 0 → OwnSums s l input (slot_at s input)
unfolding status_number
status_own s l input applied channels sized is_number passed =
    let told = input_told s l Absent input _ (sym is_number ∙ passed) in window_sums s l (checked s l Absent sized told.0) input told.1
