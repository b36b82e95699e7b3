-- `byte_order::inner::little_four` meets its contract. Assumes nothing.
use Rattle.byte_order.proofs.Written.{four_bytes}
use Rattle.byte_order.proofs.inner.little_four.Goals as goal

pub returns : goal.returns
returns c = four_bytes _ _ c.from_le_bytes.ensures
