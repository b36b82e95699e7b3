-- `text_scan::first` meets its contract: what is left holds the same byte first. Assumes nothing.
use native.Mathlib.Omega.{arith}
use Rattle.text_scan.proofs.Scanning.{first_end}
use Rattle.text_scan.proofs.first.Goals as goal

pub returns : goal.returns
returns c = first_end c.args.s.now c.args.to c.args.b c.loop-i.i c.loop-i.invariant (omega arith)
