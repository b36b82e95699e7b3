-- `delay_hold::step_4::join` meets its contract. Assumes nothing.
use mathlib.Core.Path.{sym, ◌∙◌}
use Rattle.delay_hold.proofs.Loops.{new_pos, new_seen}
use native.Mathlib.Omega.{arith}
use Rattle.delay_hold.proofs.step_4.join.Goals as goal

pub bounds-lists-n : goal.bounds-lists-n
bounds-lists-n c =
    (c.requires.2 (sym (c.is_new.ensures ∙ new_seen c.args.n _ c.args.lists.now.times.now c.args.time c.view.ensures.times c.requires.0) ∙ c.if-is_new.true)).0

pub bounds-lists-n-then-is_new : goal.bounds-lists-n-then-is_new
bounds-lists-n-then-is_new c =
    (c.requires.2 (sym (c.is_new.ensures ∙ new_seen c.args.n _ c.args.lists.now.times.now c.args.time c.view.ensures.times c.requires.0) ∙ c.if-is_new.true)).1

pub overflow_add-result : goal.overflow_add-result
overflow_add-result c =
    omega (arith, (c.requires.2 (sym (c.is_new.ensures ∙ new_seen c.args.n _ c.args.lists.now.times.now c.args.time c.view.ensures.times c.requires.0) ∙ c.if-is_new.true)).0)

pub returns-then-is_new-clause-joined : goal.returns-then-is_new-clause-joined
returns-then-is_new-clause-joined c =
    let e = c.is_new.ensures ∙ new_seen c.args.n _ c.args.lists.now.times.now c.args.time c.view.ensures.times c.requires.0 in (simp (c.in-Some.is, ← e, c.if-is_new.true), simp (c.in-Some.is, ← e, c.if-is_new.true), simp (c.in-Some.is, ← e, c.if-is_new.true))

pub overflow_sub-last : goal.overflow_sub-last
overflow_sub-last c =
    new_pos c.args.n c.args.lists.now.times.now c.args.time (sym (c.is_new.ensures ∙ new_seen c.args.n _ c.args.lists.now.times.now c.args.time c.view.ensures.times c.requires.0) ∙ c.if-is_new.false)

pub bounds-lists-last : goal.bounds-lists-last
bounds-lists-last c =
    omega (arith, new_pos c.args.n c.args.lists.now.times.now c.args.time (sym (c.is_new.ensures ∙ new_seen c.args.n _ c.args.lists.now.times.now c.args.time c.view.ensures.times c.requires.0) ∙ c.if-is_new.false), c.requires.1)

pub bounds-lists-last-2 : goal.bounds-lists-last-2
bounds-lists-last-2 c =
    omega (arith, new_pos c.args.n c.args.lists.now.times.now c.args.time (sym (c.is_new.ensures ∙ new_seen c.args.n _ c.args.lists.now.times.now c.args.time c.view.ensures.times c.requires.0) ∙ c.if-is_new.false), c.requires.1)

pub returns-clause-joined : goal.returns-clause-joined
returns-clause-joined c =
    let e = c.is_new.ensures ∙ new_seen c.args.n _ c.args.lists.now.times.now c.args.time c.view.ensures.times c.requires.0 in (simp (c.in-Some.is, ← e, c.if-is_new.false), simp (c.in-Some.is, ← e, c.if-is_new.false), simp (c.in-Some.is, ← e, c.if-is_new.false, c.max-high.ensures))
