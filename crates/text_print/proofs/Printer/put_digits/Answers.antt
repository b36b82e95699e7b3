-- `text_print::Printer::put_digits` meets its contract. Assumes nothing.
use mathlib.Core.Path.{refl}
use Rattle.text_print.specs.Print.{digits_text}
use Rattle.text_print.proofs.Printer.put_digits.Goals as goal

pub loop-from-init : goal.loop-from-init
unfolding digits_text
loop-from-init c = (refl, refl, refl)
