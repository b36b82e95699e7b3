-- `base::U64Bits::joined` meets its contract. Assumes nothing.
use Rattle.base.proofs.All.{or_zero}
use Rattle.base.proofs.U64Bits.joined.Goals as goal

pub returns : goal.returns
returns c = or_zero c.args.self c.args.other
