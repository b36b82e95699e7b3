-- `text_scan::first` meets its contract: what is left holds the same byte first. Assumes nothing.
use Rattle.std.specs.Prelude.{◌≡◌, drop}
use Rattle.text_scan.specs.Scan.{first_from, first_of}
use Rattle.text_scan.proofs.first.Given as goal

abbrev pub invariant-loop-i : goal.invariant-loop-i
invariant-loop-i l = first_from l.s l.at l.to l.b ≡ first_of l.to l.b l.i (drop l.i l.s)
