-- `byte_order::inner::big_eight` meets its contract. Assumes nothing.
use Rattle.byte_order.proofs.Written.{eight_bytes}
use Rattle.byte_order.proofs.inner.big_eight.Goals as goal

pub returns : goal.returns
returns c = eight_bytes _ _ c.copy_from_slice.ensures.after c.from_be_bytes.ensures
