-- `text_print::bits::bits_of` meets its contract. Assumes nothing.
use Rattle.text_print.proofs.Patterns.{writes_nan}
use Rattle.text_print.proofs.bits.bits_of.Goals as goal

pub returns-then-is_nan : goal.returns-then-is_nan
returns-then-is_nan c = search writes_nan
