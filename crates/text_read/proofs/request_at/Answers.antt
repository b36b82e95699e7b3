-- `text_read::request_at` meets its contract: the first of its lines that was read to the end of the line. Assumes nothing.
use mathlib.Core.Path.{sym, ◌∙◌}
use Rattle.text_read.proofs.Telling.{call_silent, requested}
use Rattle.text_read.proofs.request_at.Goals as goal

pub returns-in-Some : goal.returns-in-Some
returns-in-Some c = sym (requested c.args.s.now c.tick.new.heard c.args.at c.args.known _ c.tick.result c.tick.ensures ∙ rw (← c.whole.ensures, c.in-Some.is))

pub returns-in-Some-whole : goal.returns-in-Some-whole
returns-in-Some-whole c =
    let found = rw c.call_at.ensures at c.whole-2.ensures in
    sym (requested c.args.s.now c.tick.new.heard c.args.at c.args.known _ c.tick.result c.tick.ensures ∙ rw (← c.whole.ensures, c.in_default.is, ← found, c.in-Some-whole.is, call_silent c.args.s.now c.args.at c.args.known (sym c.in-Some-whole.is ∙ found)))

pub returns-in-Some-whole-2 : goal.returns-in-Some-whole-2
returns-in-Some-whole-2 c =
    let called = rw c.call_at.ensures at c.whole-2.ensures in
    let alone = rw c.lone_at.ensures at c.whole-3.ensures in
    sym (requested c.args.s.now c.tick.new.heard c.args.at c.args.known _ c.tick.result c.tick.ensures ∙ rw (← c.whole.ensures, c.in_default.is, ← called, c.in_default-whole.is, ← alone, c.in-Some-whole-2.is))

pub returns-in-Some-whole-3 : goal.returns-in-Some-whole-3
returns-in-Some-whole-3 c =
    let called = rw c.call_at.ensures at c.whole-2.ensures in
    let alone = rw c.lone_at.ensures at c.whole-3.ensures in
    let full = rw c.full.ensures at c.whole-4.ensures in
    sym (requested c.args.s.now c.tick.new.heard c.args.at c.args.known _ c.tick.result c.tick.ensures ∙ rw (← c.whole.ensures, c.in_default.is, ← called, c.in_default-whole.is, ← alone, c.in_default-whole-2.is, ← full, c.in-Some-whole-3.is))

pub returns : goal.returns
returns c =
    let called = rw c.call_at.ensures at c.whole-2.ensures in
    let alone = rw c.lone_at.ensures at c.whole-3.ensures in
    let full = rw c.full.ensures at c.whole-4.ensures in
    sym (requested c.args.s.now c.tick.new.heard c.args.at c.args.known _ c.tick.result c.tick.ensures ∙ rw (← c.whole.ensures, c.in_default.is, ← called, c.in_default-whole.is, ← alone, c.in_default-whole-2.is, ← full, c.in_default-whole-3.is))
