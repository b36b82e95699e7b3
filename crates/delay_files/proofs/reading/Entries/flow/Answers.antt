-- `delay_files::reading::Entries::flow` meets its contract. Assumes nothing.
use Rattle.rules_files.specs.Files.{flow_in}
use Rattle.delay_files.proofs.reading.Entries.flow.Goals as goal

pub returns : goal.returns
unfolding flow_in
returns c = c.flow_from.ensures
