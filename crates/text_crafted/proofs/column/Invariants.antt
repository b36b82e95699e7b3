-- `text_crafted::column` is safe and ends: eleven counts of 32 bits fit 64. Assumes nothing.
use Prim.Native.Nat.{◌*◌, ◌≤◌}
use Rattle.text_crafted.proofs.column.Given as goal

abbrev pub invariant-loop-i : goal.invariant-loop-i
invariant-loop-i l = l.sum ≤ l._i * 4294967295
