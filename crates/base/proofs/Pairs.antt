-- A walk over the neighbours of a list of times: those passed are far enough apart. Assumes nothing.
use Rattle.std.proofs.Common.{◌≡◌, ℕ, ◌+◌, ◌-◌, ◌<◌, ◌≤◌, true, false, List, length, take, drop, get_or, ap, ◌∙◌, arith, Option, Some, None, Bor}
use Rattle.std.specs.Option.{MatchOption}
use Rattle.std.specs.Slice.Iter.{windows_rest, windows_size}
use Rattle.std.specs.declared.slice.Windows.{Windows}
use Rattle.std.proofs.lemmas.Iterator.{window_more}
use lib.ListN.{length-take}
use lib.Seq.{get_or-take}
use Rattle.base.specs.Rows.{apart}
use Rattle.base.proofs.Rows.{apart_none, apart_more, apart_stop, apart_end}
use Rattle.base.proofs.Tests.{all_cong}

-- how many neighbours were passed
abbrev pub passed : List ℕ → Windows ℕ → ℕ
passed used s = length used - length (windows_rest s)

pub record Walked (gap : ℕ) (used : List ℕ) (s : Windows ℕ) : Type 0 where
  pub pairs : windows_size s ≡ 2
  pub within : length (windows_rest s) ≤ length used
  pub left : windows_rest s ≡ drop (passed used s) used
  pub few : passed used s ≤ length used - 1
  pub far : apart gap (passed used s) used ≡ true

-- a step of the iterator
abbrev pub Steps : (s t : Windows ℕ) (r : Option (Bor (List ℕ))) → Type 0
Steps s t r = (windows_size t ≡ windows_size s) × MatchOption r ((length (windows_rest s) < windows_size s) × (t ≡ s)) (λ x. (windows_size s ≤ length (windows_rest s)) × (x.now ≡ take (windows_size s) (windows_rest s)) × (windows_rest t ≡ drop 1 (windows_rest s)) × (length x.now ≡ windows_size s))

module _ (gap : ℕ) (used : List ℕ) where
  pub walk_none : {s : Windows ℕ} → windows_rest s ≡ used → windows_size s ≡ 2 → Walked gap used s
  walk_none {s} e two =
      let none : passed used s ≡ 0 = omega (arith, ap length e) in
      record { pairs = two; within = omega (arith, ap length e); left = rw none e; few = omega arith; far = rw none (apart_none gap used) }

  module _ (s t : Windows ℕ) (h : Walked gap used s) {r : Option (Bor (List ℕ))} {pair : Bor (List ℕ)} (is : r ≡ Some pair) (step : Steps s t r) {a : ℕ} (e : a ≡ get_or pair.now 1 0 - get_or pair.now 0 0) where
    turn : (length (windows_rest t) + 1 ≡ length (windows_rest s)) × (windows_rest t ≡ drop (length used - length (windows_rest t)) used) × (windows_size s ≤ length (windows_rest s)) × ((k d : ℕ) → k < windows_size s → get_or pair.now k d ≡ get_or used (passed used s + k) d)
    turn = window_more used s t r pair is step (omega (arith, h.pairs)) h.within h.left

    difference : a ≡ get_or used (passed used s + 1) 0 - get_or used (passed used s) 0
    difference = let z : passed used s + 0 ≡ passed used s = omega arith in e ∙ rw (turn.3 1 0 (omega (arith, h.pairs)), turn.3 0 0 (omega (arith, h.pairs)), z)

    room : passed used s < length used - 1
    room = omega (arith, turn.0, turn.2, h.pairs, h.within)

    pub walk_more : gap ≤ a → Walked gap used t
    walk_more l =
        let more : passed used t ≡ passed used s + 1 = omega (arith, turn.0, h.within) in
        record { pairs = step.0 ∙ h.pairs; within = omega (arith, turn.0, h.within); left = turn.1; few = omega (arith, room, more); far = rw more (apart_more gap used (passed used s) a h.far difference l) }

    pub walk_near : a < gap → false ≡ apart gap (length used - 1) used
    walk_near l = apart_stop gap used (length used - 1) (passed used s) a room difference l

  pub walk_all : (s t : Windows ℕ) → Walked gap used s → {r : Option (Bor (List ℕ))} → r ≡ None → Steps s t r → true ≡ apart gap (length used - 1) used
  walk_all s t h is step =
      let short : length (windows_rest s) < windows_size s = (rw is at step.1).0 in
      apart_end gap used (length used - 1) (passed used s) h.far h.few (omega (arith, short, h.pairs))

-- the first n of a longer list
module _ (gap n : ℕ) (times : List ℕ) (h : n ≤ length times) where
  first_apart : apart gap (length (take n times) - 1) (take n times) ≡ apart gap (n - 1) times
  unfolding apart
  first_apart =
      let long : length (take n times) ≡ n = simp length-take (omega arith) in
      rw long
      (all_cong _ _ (n - 1)
      (λ i l. let here : i < n = omega arith in let next : i + 1 < n = omega arith in rw (get_or-take n times i 0 here, get_or-take n times (i + 1) 0 next)))

  pub walk_stop : (s t : Windows ℕ) → Walked gap (take n times) s → {r : Option (Bor (List ℕ))} {pair : Bor (List ℕ)} → r ≡ Some pair → Steps s t r → {a : ℕ} → a ≡ get_or pair.now 1 0 - get_or pair.now 0 0 → a < gap → false ≡ apart gap (n - 1) times
  walk_stop s t w is step e l = walk_near gap (take n times) s t w is step e l ∙ first_apart

  pub walk_end : (s t : Windows ℕ) → Walked gap (take n times) s → {r : Option (Bor (List ℕ))} → r ≡ None → Steps s t r → true ≡ apart gap (n - 1) times
  walk_end s t w is step = walk_all gap (take n times) s t w is step ∙ first_apart
