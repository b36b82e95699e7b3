-- `text_print::Printer::put_text` meets its contract. Assumes nothing.
use native.Mathlib.Omega.{arith}
use Rattle.text_print.proofs.Printing.{laid}
use Rattle.text_print.proofs.Printer.put_text.Goals as goal

pub returns-clause-text : goal.returns-clause-text
returns-clause-text c = laid _ _ _ _ _ _ _ c.min-at.ensures c.min-fitting.ensures (omega arith) c.copy_from_slice.ensures.after
