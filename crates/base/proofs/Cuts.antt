-- A part of a list that is cut where the list ends. Assumes nothing.
use Rattle.std.specs.Prelude.{◌≡◌, ℕ, ◌-◌, ◌<◌, ◌≤◌, min, List, length, take, drop}
use mathlib.Core.Path.{sym, ◌∙◌}
use native.Mathlib.Omega.{arith}
use lib.ListN.{length-drop, drop_of_length-le}
use lib.Seq.{take_all, take-nil}
use Rattle.base.proofs.Choices.{by_le}

pub part_cut : (s : List ℕ) (from to start end : ℕ) → end ≡ min to (length s) → start ≡ min from end → take (end - start) (drop start s) ≡ take (to - from) (drop from s)
part_cut s from to start end e b = by_le from end begun (λ h. by_le to (length s) (ended h) (past h))
  where
    begun : from ≤ end → take (end - start) (drop start s) ≡ take (to - from) (drop from s)
    begun h =
        let q : start ≡ from = omega arith in
        by_le
        to
        (length s)
        (λ l. let r : end ≡ to = omega arith in rw (q, r))
        (λ l. rw q (take_all (end - from) (drop from s) (rw length-drop (omega arith)) ∙ sym (take_all (to - from) (drop from s) (rw length-drop (omega arith)))))

    ended : end < from → to ≤ length s → take (end - start) (drop start s) ≡ take (to - from) (drop from s)
    ended h l =
        let q : end - start ≡ 0 = omega arith in
        let r : to - from ≡ 0 = omega arith in
        rw (q, r)

    past : end < from → length s < to → take (end - start) (drop start s) ≡ take (to - from) (drop from s)
    past h l =
        let q : end - start ≡ 0 = omega arith in
        rw (q, drop_of_length-le s {i = from} (omega arith)) (sym (take-nil (to - from)))
