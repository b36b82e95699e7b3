-- `delay_files::reading::Edition::is_headed` meets its contract. Assumes nothing.
use native.Mathlib.Omega.{arith}
use Rattle.rules_files.proofs.Heads.{unheaded, headed_last}
use mathlib.Core.Path.{sym, ◌∙◌}
use Rattle.rules_files.specs.Files.{count_in}
use Rattle.delay_files.proofs.reading.Edition.is_headed.Goals as goal

pub returns-then-file-lt7 : goal.returns-then-file-lt7
returns-then-file-lt7 c = unheaded _ _ _ (λ h. omega (arith, h.long, c.if-file-lt7.true, c.args.self.head_bounds.0))

pub returns-then-file-ne68 : goal.returns-then-file-ne68
returns-then-file-ne68 c = unheaded _ _ _ (λ h. c.if-file-ne68.true h.first)

pub returns-then-file-ne76 : goal.returns-then-file-ne76
returns-then-file-ne76 c = unheaded _ _ _ (λ h. c.if-file-ne76.true h.second)

pub returns-then-file-ne89 : goal.returns-then-file-ne89
returns-then-file-ne89 c = unheaded _ _ _ (λ h. c.if-file-ne89.true h.third)

pub returns-then-little_two-self : goal.returns-then-little_two-self
returns-then-little_two-self c = unheaded _ _ _ (λ h. c.if-little_two-self.true (c.little_two.ensures ∙ h.edition))

pub returns-then-count-gt64 : goal.returns-then-count-gt64
unfolding count_in
returns-then-count-gt64 c = unheaded _ _ _ (λ h. omega (arith, h.few, c.if-count-gt64.true, c.little_two-count.ensures))

pub returns : goal.returns
unfolding count_in
returns c = headed_last _ _ _ c.if-file-ne68.false c.if-file-ne76.false c.if-file-ne89.false (sym c.little_two.ensures ∙ c.if-little_two-self.false) c.little_two-count.ensures c.if-count-gt64.false
