-- `text_files::store` meets its contract: the bytes that were stored, with those that are left in the line, are all that are kept. Assumes nothing.
use Prim.Native.Nat.{◌-◌}
use mathlib.Core.Path.{◌≡◌}
use mathlib.Core.List.{◌++◌}
use lib.ListN.{take, drop}
use Rattle.text_files.specs.Files.{bytes_from, kept_from}
use Rattle.text_files.proofs.store.Given as goal

abbrev pub invariant-loop-k : goal.invariant-loop-k
invariant-loop-k l = take l.k l.file ++ take (1292 - l.k) (bytes_from (drop l.next l.s)) ≡ kept_from l.s l.at
