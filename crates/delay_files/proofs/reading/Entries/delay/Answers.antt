-- `delay_files::reading::Entries::delay` meets its contract. Assumes nothing.
use mathlib.Core.Path.{sym, ◌∙◌}
use Rattle.base.proofs.Choices.{lt_yes, lt_no}
use Rattle.rules_files.specs.Files.{delay_in}
use Rattle.delay_files.proofs.reading.Entries.delay.Goals as goal

pub returns-then-i-self : goal.returns-then-i-self
unfolding delay_in
returns-then-i-self c = c.little_four.ensures ∙ sym (lt_yes _ _ _ _ c.if-i-self.true)

pub returns : goal.returns
returns c = sym (lt_no _ _ _ _ c.if-i-self.false)
