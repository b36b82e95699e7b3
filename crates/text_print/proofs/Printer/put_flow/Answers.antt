-- `text_print::Printer::put_flow` meets its contract. Assumes nothing.
use Rattle.text_print.proofs.Printing.{print_low, print_high}
use Rattle.text_print.proofs.Printer.put_flow.Goals as goal

pub returns-then-high-eq0-clause-text : goal.returns-then-high-eq0-clause-text
returns-then-high-eq0-clause-text c = search print_low

pub returns-clause-text : goal.returns-clause-text
returns-clause-text c = search print_high
