-- `text_print::bits::double` meets its contract. Assumes nothing.
use Rattle.text_print.proofs.Patterns.{reads_nan}
use Rattle.text_print.proofs.bits.double.Goals as goal

pub returns-then-is_nan : goal.returns-then-is_nan
returns-then-is_nan c = search reads_nan
