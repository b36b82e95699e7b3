-- `delay_files::reading::Entries::fill_delays` meets its contract. Assumes nothing.
use Rattle.std.specs.Prelude.{◌≡◌}
use Rattle.base.specs.Lists.{padded, listed}
use Rattle.base.proofs.Toward.{toward}
use Rattle.rules_files.specs.Files.{delay_in}
use Rattle.delay_files.proofs.reading.Entries.fill_delays.Given as goal

abbrev pub invariant-loop-i : goal.invariant-loop-i
invariant-loop-i l = l.delays ≡ toward (padded 64 (listed (delay_in l.fn.self.file.now l.fn.self.head) l.fn.self.count)) l.initial.delays l.i
