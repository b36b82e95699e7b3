-- `text_requests::lists::put_half` meets its contract. Assumes nothing.
use Prim.Native.Nat.{◌*◌}
use native.Mathlib.Omega.{arith}
use Rattle.text_requests.proofs.Loads.{half_put}
use Rattle.text_requests.proofs.lists.put_half.Goals as goal

pub returns : goal.returns
returns c = rw (c.copy_from_slice.ensures.after, c.to_be_bytes.ensures) (half_put (c.args.i * 8) c.args.value c.args.flows.now _ (omega arith) (omega arith))
