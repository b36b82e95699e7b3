-- What stands on a printer: its buffer, and the place where the next text goes. Assumes nothing.
use Rattle.text_print.specs.Print.{Page, page}
use Rattle.text_print.specs.declared.Printer.{Printer}

abbrev pub on : Printer → Page
on p = page p.place p.out.now
