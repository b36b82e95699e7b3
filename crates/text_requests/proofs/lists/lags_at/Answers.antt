-- `text_requests::lists::lags_at` meets its contract: the lags that are left, after those that were stored, are all lags. Assumes nothing.
use mathlib.Core.Path.{sym, ◌∙◌}
use native.Mathlib.Omega.{arith}
use lib.ListN.{length, take}
use lib.Seq.{length-take-le}
use Rattle.text_requests.proofs.Loops.{stored, lags_step}
use Rattle.text_requests.proofs.lists.lags_at.Goals as goal

pub loop-i-preserved : goal.loop-i-preserved
loop-i-preserved c =
    let same = c.loop-i.invariant.0 in
    let n = length c.args.heard.now in (
      c.u32.ensures.same ∙ same,
      c.loop-i.invariant.1 ∙ lags_step c.args.r.now.s.now n c.loop-i.i c.loop-i.r.at (take c.loop-i.i c.loop-i.heard) (omega arith)
          ∙ rw (← rw same at c.ends.ensures, c.if-ends.false, ← rw same at c.u32.ensures.read, c.in_ok-heard.was, stored c.loop-i.heard c.loop-i.i c.in_ok-heard.field-0 (omega arith)),
    )

pub returns-then-ends-clause-read : goal.returns-then-ends-clause-read
returns-then-ends-clause-read c =
    let same = c.loop-i.invariant.0 in
    let n = length c.args.heard.now in
    let read = take c.loop-i.i c.loop-i.heard in
    sym
    (c.loop-i.invariant.1 ∙ lags_step c.args.r.now.s.now n c.loop-i.i c.loop-i.r.at read (omega arith)
    ∙ rw (← rw same at c.ends.ensures, c.if-ends.true, length-take-le c.loop-i.i c.loop-i.heard (omega arith)))
