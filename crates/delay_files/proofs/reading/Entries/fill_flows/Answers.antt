-- `delay_files::reading::Entries::fill_flows` meets its contract. Assumes nothing.
use native.Mathlib.Omega.{arith}
use Rattle.base.proofs.Listed.{fill_step, fill_end}
use Rattle.delay_files.proofs.reading.Entries.fill_flows.Goals as goal

pub loop-i-preserved : goal.loop-i-preserved
loop-i-preserved c = fill_step _ _ _ _ _ (omega (arith, c.args.self.in_file.1)) c.requires c.loop-i.invariant c.loop-i-test.true c.flow_byte.ensures

pub returns : goal.returns
returns c = fill_end _ _ _ _ c.loop-i.i (omega (arith, c.args.self.in_file.1)) c.requires c.loop-i.invariant c.loop-i-test.false
