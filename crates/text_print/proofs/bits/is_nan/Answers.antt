-- `text_print::bits::is_nan` meets its contract. Assumes nothing.
use Rattle.text_print.proofs.Patterns.{nan_digits, nan_exponent}
use Rattle.text_print.proofs.bits.is_nan.Goals as goal

pub returns-then-bits-eq2047 : goal.returns-then-bits-eq2047
returns-then-bits-eq2047 c = search nan_digits

pub returns-else-bits-eq2047 : goal.returns-else-bits-eq2047
returns-else-bits-eq2047 c = search nan_exponent
