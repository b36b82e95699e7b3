-- `byte_order::inner::little_two` meets its contract. Assumes nothing.
use native.Mathlib.Omega.{arith}
use Rattle.byte_order.specs.Bytes.{little_at}
use Rattle.byte_order.proofs.inner.little_two.Goals as goal

pub returns : goal.returns
unfolding little_at
returns c = omega (arith, c.from.ensures, c.from_le_bytes.ensures)
