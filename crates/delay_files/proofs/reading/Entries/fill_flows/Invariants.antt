-- `delay_files::reading::Entries::fill_flows` meets its contract. Assumes nothing.
use Rattle.std.specs.Prelude.{◌≡◌, ◌*◌}
use Rattle.base.specs.Lists.{padded, listed}
use Rattle.base.proofs.Toward.{toward}
use Rattle.rules_files.specs.ReadFile.{flow_byte_in}
use Rattle.delay_files.proofs.reading.Entries.fill_flows.Given as goal

abbrev pub invariant-loop-i : goal.invariant-loop-i
invariant-loop-i l = l.flows ≡ toward (padded 1024 (listed (flow_byte_in l.fn.self.file.now l.fn.self.head) (l.fn.self.count * 16))) l.initial.flows l.i
