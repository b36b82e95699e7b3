-- `delay_files::reading::Entries::rising` meets its contract. Assumes nothing.
use Rattle.std.specs.Prelude.{◌≡◌, ◌+◌, ◌-◌, ◌≤◌, true}
use Rattle.base.specs.Lists.{all}
use Rattle.rules_files.specs.Files.{lower_flow, flow_in}
use Rattle.delay_files.proofs.reading.Entries.rising.Given as goal

abbrev pub invariant-loop-k : goal.invariant-loop-k
invariant-loop-k l = (1 ≤ l.k) × (all (λ j. lower_flow (flow_in l.fn.self.file.now l.fn.self.head j) (flow_in l.fn.self.file.now l.fn.self.head (j + 1))) (l.k - 1) ≡ true)
