-- `text_print::Printer::put_digits` meets its contract. Assumes nothing.
use mathlib.Core.Path.{◌≡◌}
use lib.ListN.{length, drop}
use Rattle.text_print.specs.Print.{digits_text, spelled}
use Rattle.text_print.proofs.Printer.put_digits.Given as goal

abbrev pub invariant-loop-from : goal.invariant-loop-from
invariant-loop-from l = (digits_text l.base l.least l.n ≡ spelled l.base l.least l.from l.rest (drop l.from l.digits)) × (length l.digits ≡ 20) × (l.self ≡ l.initial.self)
