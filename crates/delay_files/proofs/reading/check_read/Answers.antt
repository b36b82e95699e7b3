-- `delay_files::reading::check_read` meets its contract. Assumes nothing.
use native.Mathlib.Omega.{arith}
use Rattle.std.proofs.Common.{refl}
use mathlib.Core.Path.{sym, ap, ◌∙◌}
use Rattle.base.proofs.All.{told_no, told_yes}
use Rattle.rules_files.specs.Files.{count_in, rises, flow_in}
use Rattle.rules_files.proofs.Heads.{headed_of}
use Rattle.rules_files.proofs.ReadCases.{read_first, read_bytes, read_delays_long, read_falls, read_rises}
use Rattle.delay_files.proofs.reading.check_read.Goals as goal

pub returns-then-not-is_headed-clause-number : goal.returns-then-not-is_headed-clause-number
returns-then-not-is_headed-clause-number c = read_first _ _ _ _ _ (told_no _ _ c.is_headed.ensures c.if-not-is_headed.true)

pub returns-then-flows-ne1024-clause-number : goal.returns-then-flows-ne1024-clause-number
returns-then-flows-ne1024-clause-number c = read_bytes _ _ _ _ _ (told_yes _ _ c.is_headed.ensures c.if-not-is_headed.false) c.if-flows-ne1024.true

pub returns-then-delays-ne64-clause-number : goal.returns-then-delays-ne64-clause-number
returns-then-delays-ne64-clause-number c = read_delays_long _ _ _ _ _ (told_yes _ _ c.is_headed.ensures c.if-not-is_headed.false) c.if-flows-ne1024.false c.if-delays-ne64.true

pub little_two-count-requires : goal.little_two-count-requires
little_two-count-requires c = omega (arith, (headed_of _ _ _ (told_yes _ _ c.is_headed.ensures c.if-not-is_headed.false)).long, c.args.edition.head_bounds.0)

pub invariant_of-entries : goal.invariant_of-entries
unfolding count_in
invariant_of-entries c = let h = headed_of _ _ _ (told_yes _ _ c.is_headed.ensures c.if-not-is_headed.false) in record { in_file = (c.args.edition.head_bounds.1, omega (arith, h.few, c.little_two-count.ensures), omega (arith, h.long, c.little_two-count.ensures)) }

pub returns-then-not-rising-clause-number : goal.returns-then-not-rising-clause-number
unfolding count_in
returns-then-not-rising-clause-number c = read_falls _ _ _ _ _ (told_yes _ _ c.is_headed.ensures c.if-not-is_headed.false) c.if-flows-ne1024.false c.if-delays-ne64.false (sym (ap (rises (flow_in _ _)) c.little_two-count.ensures) ∙ told_no _ _ c.rising.ensures c.if-not-rising.true)

pub returns-clause-number : goal.returns-clause-number
unfolding count_in
returns-clause-number c = read_rises _ _ _ _ _ (told_yes _ _ c.is_headed.ensures c.if-not-is_headed.false) c.if-flows-ne1024.false c.if-delays-ne64.false (sym (ap (rises (flow_in _ _)) c.little_two-count.ensures) ∙ told_yes _ _ c.rising.ensures c.if-not-rising.false)

pub returns-clause-entries : goal.returns-clause-entries
unfolding count_in
returns-clause-entries c = (refl, refl, c.little_two-count.ensures)
