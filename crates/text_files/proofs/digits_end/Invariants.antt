-- `text_files::digits_end` meets its contract: the digits that are left end where all do. Assumes nothing.
use Prim.Native.Nat.{◌+◌, ◌-◌, ◌*◌}
use mathlib.Core.Path.{◌≡◌}
use lib.ListN.{length, drop}
use Rattle.text_files.specs.Files.{bytes_from, digits_end}
use Rattle.text_files.proofs.digits_end.Given as goal

abbrev pub invariant-loop-next : goal.invariant-loop-next
invariant-loop-next l = digits_end l.s l.from ≡ l.next + length (bytes_from (drop l.next l.s)) * 2

abbrev pub decreases-loop-next : goal.decreases-loop-next
decreases-loop-next l = length l.s - l.next
