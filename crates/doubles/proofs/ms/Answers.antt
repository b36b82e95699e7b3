-- `doubles::ms` meets its contract: the code's two literals are the definition's once `of_bits` is unfolded. Assumes nothing.
use Rattle.std.proofs.Common.{refl}
use lib.Ieee.{of_bits}
use Rattle.doubles.specs.Doubles.{ms_of}
use Rattle.doubles.proofs.ms.Goals as goal

pub returns : goal.returns
unfolding ms_of of_bits
returns c = refl
