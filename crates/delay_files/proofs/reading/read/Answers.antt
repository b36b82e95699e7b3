-- `delay_files::reading::read` meets its contract. Assumes nothing.
use Rattle.std.proofs.Common.{refl, rules}
use Rattle.std.specs.Prelude.{◌≡◌, ◌*◌, Err}
use Rattle.refusals.proofs.Answers.{never_zero}
use mathlib.Core.Path.{sym, ap₂, ◌∙◌}
use Rattle.base.specs.Lists.{padded, listed}
use Rattle.rules_files.specs.Files.{delay_in}
use Rattle.rules_files.specs.ReadFile.{flow_byte_in}
use Rattle.rules_files.proofs.ReadCases.{readable, read_refused, read_accepted}
use Rattle.delay_files.proofs.reading.read.Goals as goal

pub returns-in_err-entries-clause-delays_after : goal.returns-in_err-entries-clause-delays_after
returns-in_err-entries-clause-delays_after c = let e : c.from_residual.result ≡ Err c.in_err-entries.field-0.0 = search rules in rw e (read_refused _ _ _ _ _ c.in_err-entries.ensures.number (never_zero _))

pub fill_flows-requires : goal.fill_flows-requires
fill_flows-requires c = (readable _ _ _ _ _ (sym c.in_ok-entries.ensures.number ∙ refl)).bytes_long

pub fill_delays-requires : goal.fill_delays-requires
fill_delays-requires c = (readable _ _ _ _ _ (sym c.in_ok-entries.ensures.number ∙ refl)).delays_long

pub returns-clause-delays_after : goal.returns-clause-delays_after
returns-clause-delays_after c =
    let same = c.in_ok-entries.ensures.entries in
    let count = c.in_ok-entries.entries.count in
    read_accepted _ _ _ _ _ c.in_ok-entries.ensures.number refl same.2
    (c.fill_flows.ensures ∙ ap₂ (λ file head. padded 1024 (listed (flow_byte_in file head) (count * 16))) same.0 same.1)
    (c.fill_delays.ensures ∙ ap₂ (λ file head. padded 64 (listed (delay_in file head) count)) same.0 same.1)
