-- `byte_order::byte_of` meets its contract. Assumes nothing.
use Rattle.std.proofs.Common.{◌≡◌, get_or, arith, rules}
use Rattle.byte_order.proofs.Written.{byte_at_place}
use Rattle.byte_order.proofs.byte_of.Goals as goal

pub returns : goal.returns
returns c =
    let e : c.unwrap_or.result ≡ get_or c.to_le_bytes.result c.args.k 0 = search rules in
    rw (e, c.to_le_bytes.ensures) (byte_at_place c.args.k c.args.value (omega arith))
