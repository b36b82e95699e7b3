-- `text_scan::inner::short_number` meets its contract: the digits that are left give the same number. Assumes nothing.
use Rattle.std.specs.Prelude.{◌≡◌, ◌≤◌, drop, length, max}
use Rattle.text_scan.specs.Scan.{number_from, digits_of}
use Rattle.text_scan.proofs.inner.short_number.Given as goal

abbrev pub invariant-loop-i : goal.invariant-loop-i
invariant-loop-i l = (number_from l.s l.at l.base l.most ≡ digits_of l.base l.most l.at l.value l.i (drop l.i l.s)) × (l.value ≤ l.most) × (l.i ≤ max l.at (length l.s))
