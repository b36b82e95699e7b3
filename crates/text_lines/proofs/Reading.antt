-- Reading more: the unfinished line moves where the buffer is used up, and what comes stands after it. Assumes nothing.
use Prim.Native.Nat.{ℕ, ◌+◌, ◌-◌, ◌^◌, ◌≤◌, ◌<◌, min}
use mathlib.Core.Bool.{Bool}
use mathlib.Core.Path.{◌≡◌, refl, sym, ap, ◌∙◌}
use mathlib.Core.List.{List, ◌++◌}
use native.Mathlib.Omega.{arith}
use borrow.Author.Tests.{eq-eqb, ne_eqb, lt-ltb, le-ltb, eqb-true, eqb-false}
use lib.Dec.{eqb, ltb}
use lib.ListN.{length, take}
use lib.Seq.{length-take-le, take_at}
use Rattle.base.specs.Lists.{shifted}
use Rattle.base.proofs.Choices.{pick_all, by_bool}
use Rattle.text_lines.specs.declared.Cursor.{Cursor}
use Rattle.text_lines.specs.Lines.{moved_down, moved_cursor, moved_bytes, ReadAfter}

-- ---- a part that is written from `to` on leaves what stands before
pub before_stays : (to : ℕ) (s part : List ℕ) → to ≤ length s → take to (take to s ++ part) ≡ take to s
before_stays to s part h = take_at (take to s) part to (length-take-le to s h)

-- ---- where the buffer is used up, the unfinished line moves
module _ (s : List ℕ) (c : Cursor) where
  pub cursor_stays : c.to < length s → c ≡ moved_cursor (length s) c
  unfolding moved_cursor
  cursor_stays h = rw (lt-ltb c.to (length s) h)

  pub bytes_stay : c.to < length s → s ≡ moved_bytes c s
  unfolding moved_bytes
  bytes_stay h = rw (lt-ltb c.to (length s) h)

  pub cursor_moves : {seen to : ℕ} → length s ≤ c.to → seen ≡ c.seen - c.from → to ≡ c.to - c.from →
      record { from = 0; seen = seen; to = to; ended = c.ended; dropped = c.dropped } ≡ moved_cursor (length s) c
  unfolding moved_cursor
  cursor_moves h e f = rw (le-ltb c.to (length s) h, e, f)

  pub bytes_move : {t : List ℕ} → length s ≤ c.to → t ≡ shifted c.from s → t ≡ moved_bytes c s
  unfolding moved_bytes
  bytes_move h q = rw (le-ltb c.to (length s) h) q

-- ---- what comes stands in the buffer, so that its end is a place
-- the end is the same exactly where nothing came
none_came : (from got to : ℕ) → to ≡ from + got → eqb got 0 ≡ eqb to from
none_came from got to e =
    by_bool
    (eqb got 0)
    (λ h. h ∙ sym (eq-eqb to from (omega (arith, eqb-true got 0 h))))
    (λ h. h ∙ sym (ne_eqb to from (λ q. eqb-false got 0 h (omega arith))))

pub reads_after : (m : Cursor) {d : Cursor} (s : List ℕ) {u t : List ℕ} {got to : ℕ} → m ≡ d → s ≡ u → m.to < 2 ^ 64 → length s < 2 ^ 64 →
    (got ≤ length s - m.to) × (take m.to t ≡ take m.to s) → to ≡ min (m.to + got) (2 ^ 64 - 1) →
    ReadAfter d u record { from = m.from; seen = m.seen; to = to; ended = eqb got 0; dropped = m.dropped } t
reads_after m s {t = t} {got = got} {to = to} e f b l g q =
    let exact : to ≡ m.to + got = omega (arith, g.0) in
    rw
    (← e, ← f)
    (record {
      cursor = ap
          (λ (ended : Bool). record { from = m.from; seen = m.seen; to = to; ended = ended; dropped = m.dropped })
          (none_came m.to got to exact);
      onwards = omega arith;
      inside = omega (arith, g.0);
      stays = g.1;
    })

-- a line of which a part was dropped stays dropped
pub reading_keeps : (size : ℕ) (c : Cursor) {s : List ℕ} {r : Cursor} {t : List ℕ} → ReadAfter (moved_cursor size c) s r t → r.dropped ≡ c.dropped
unfolding moved_cursor
reading_keeps size c h =
    let kept = pick_all (λ (m : Cursor). m.dropped ≡ c.dropped) (ltb c.to size) {x = c} {y = moved_down c} refl refl in ap (λ (r : Cursor). r.dropped) h.cursor ∙ kept
