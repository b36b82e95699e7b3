-- `delay_files::reading::Entries::rising` meets its contract. Assumes nothing.
use Rattle.std.specs.Prelude.{◌≡◌, ℕ, ◌+◌, ◌-◌, ◌≤◌, Bool, true}
use mathlib.Core.Path.{ap, ap₂, sym, ◌∙◌}
use native.Mathlib.Omega.{arith}
use Rattle.base.specs.Lists.{all}
use Rattle.base.proofs.Choices.{by_le}
use Rattle.base.proofs.All.{all_none, all_more, all_stop, all_end, told_no, told_yes}
use Rattle.rules_record.specs.declared.Flow.{Flow}
use Rattle.rules_files.specs.Files.{lower_flow, rises, flow_in}
use Rattle.rules_files.proofs.FlowOrder.{lower_lt, rises_none}
use Rattle.delay_files.proofs.reading.Entries.rising.Goals as goal

-- a flow is the one after that before it
after_before : (k : ℕ) → 1 ≤ k → k - 1 + 1 ≡ k
after_before k h = omega (arith, h)

-- what was asked of a flow and the one before it
asked : (f : ℕ → Flow) (k : ℕ) → 1 ≤ k → {r : Bool} → r ≡ lower_flow (f (k - 1)) (f k) → r ≡ lower_flow (f (k - 1)) (f (k - 1 + 1))
asked f k h e = e ∙ ap (λ (j : ℕ). lower_flow (f (k - 1)) (f j)) (sym (after_before k h))

more : (p : ℕ → Bool) (k : ℕ) → 1 ≤ k → all p (k - 1) ≡ true → p (k - 1) ≡ true → all p (k + 1 - 1) ≡ true
more p k h before this =
    let same : k + 1 - 1 ≡ k - 1 + 1 = omega (arith, h) in
    ap (all p) same ∙ all_more p (k - 1) before this

pub loop-k-init : goal.loop-k-init
loop-k-init c = (omega arith, all_none _)

pub returns-then-not-lower : goal.returns-then-not-lower
unfolding rises
returns-then-not-lower c = all_stop _ _ (c.loop-k.k - 1) (omega (arith, c.loop-k.invariant.0, c.loop-k-test.true)) (told_no _ _ (asked (flow_in c.args.self.file.now c.args.self.head) _ c.loop-k.invariant.0 (c.lt-lower.ensures ∙ lower_lt _ _ ∙ ap₂ lower_flow c.flow.ensures c.flow-in-loop-k.ensures)) c.if-not-lower.true)

pub loop-k-preserved : goal.loop-k-preserved
loop-k-preserved c = (omega (arith, c.loop-k.invariant.0), more (λ j. lower_flow ((flow_in c.args.self.file.now c.args.self.head) j) ((flow_in c.args.self.file.now c.args.self.head) (j + 1))) c.loop-k.k c.loop-k.invariant.0 c.loop-k.invariant.1 (told_yes _ _ (asked (flow_in c.args.self.file.now c.args.self.head) _ c.loop-k.invariant.0 (c.lt-lower.ensures ∙ lower_lt _ _ ∙ ap₂ lower_flow c.flow.ensures c.flow-in-loop-k.ensures)) c.if-not-lower.false))

pub returns : goal.returns
unfolding rises
returns c =
    by_le 1 c.args.self.count
    (λ h. all_end _ _ (c.loop-k.k - 1) c.loop-k.invariant.1 (omega (arith, c.loop-k.auto.k-end h)) (omega (arith, c.loop-k-test.false)))
    (λ h. rises_none (flow_in c.args.self.file.now c.args.self.head) _ (omega (arith, h)))
