-- `text_scan::after_text` meets its contract: what is left of the text ends where the whole does. Assumes nothing.
use Rattle.std.specs.Prelude.{◌≡◌, drop}
use Rattle.text_scan.specs.Scan.{after_text}
use Rattle.text_scan.proofs.after_text.Given as goal

abbrev pub invariant-loop-b : goal.invariant-loop-b
invariant-loop-b l = after_text l.s l.at l.text ≡ after_text l.s l.next (drop l.b-index l.text)
