-- A line that was found holds no newline, where none stands in what was looked at before. Assumes nothing.
use Prim.Native.Nat.{ℕ, ◌+◌, ◌-◌, ◌≤◌, ◌<◌}
use mathlib.Core.Path.{◌≡◌, refl, sym, ap, ◌∙◌}
use mathlib.Core.List.{List}
use native.Mathlib.Omega.{arith}
use lib.Dec.{ltb}
use lib.ListN.{length, get_or, take, drop, length-take, length-drop}
use lib.Seq.{get_or-take, get_or-drop}
use Rattle.std.specs.Prelude.{Option, Some, None}
use Rattle.std.proofs.lemmas.Option.{same_Some}
use Rattle.base.proofs.Choices.{pick_all, by_le}
use Rattle.text_scan.specs.Scan.{first_from}
use Rattle.text_scan.proofs.Parts.{looked_to, first_over}
use Rattle.text_lines.specs.declared.Cursor.{Cursor}
use Rattle.text_lines.specs.declared.Found.{Found}
use Rattle.text_lines.specs.Lines.{Looked, looked, longest, dropped_all, seen_all, last_of, unfinished_of, found_at, looked_at, look_of, return_before, text_end, too_long, line_of}

-- no newline (10) stands from the line's begin up to `seen`
abbrev pub Clear : List ℕ → Cursor → Type 0
Clear s c = (j : ℕ) → c.from ≤ j → j < c.seen → get_or s j 0 ≡ 10 → ⊥

-- ---- the bytes of a line are those of the buffer, from where it begins and before where it ends
text_within : (s : List ℕ) (c : Cursor) (f : Found) → text_end s c f ≤ f.end
unfolding text_end
text_within s c f = pick_all (λ n. n ≤ f.end) (return_before s c f) (omega arith) (omega arith)

pub record Byte (s : List ℕ) (c : Cursor) (f : Found) (i : ℕ) (xs : List ℕ) : Type 0 where
  pub before_end : c.from + i < f.end
  pub in_buffer : c.from + i < length s
  pub same : get_or xs i 0 ≡ get_or s (c.from + i) 0

pub line_byte : (s : List ℕ) (c : Cursor) (f : Found) (i : ℕ) → i < length (line_of s c f) → Byte s c f i (line_of s c f)
unfolding line_of
line_byte s c f i = pick_all (λ xs. i < length xs → Byte s c f i xs) (too_long c f) (λ h. absurd (omega arith)) bytes
  where
    bytes : i < length (take (text_end s c f - c.from) (drop c.from s)) → Byte s c f i (take (text_end s c f - c.from) (drop c.from s))
    bytes h =
        let l = simp (length-take, length-drop) at h in
        let n : i < text_end s c f - c.from = omega arith in
        record {
          before_end = omega (arith, text_within s c f);
          in_buffer = omega arith;
          same = get_or-take (text_end s c f - c.from) (drop c.from s) i 0 n ∙ get_or-drop c.from s i 0;
        }

-- ---- a line that was found ends where looking ended
abbrev Told : Cursor → ℕ → Looked → Type 0
Told c end r = (f : Found) → r.found ≡ Some f → (r.cursor.from ≡ c.from) × (f.end ≡ end)

look_told : (s : List ℕ) (c : Cursor) → Told c (looked_to c.to (first_from s c.seen c.to 10)) (look_of s c)
unfolding look_of last_of unfinished_of
look_told s c = at_step (first_from s c.seen c.to 10)
  where
    at : (end next : ℕ) → Told c end (found_at c end next)
    at end next f h = (refl, ap (λ (g : Found). g.end) (sym (same_Some _ _ h)))

    none : (r : Looked) → r.found ≡ None → Told c c.to r
    none r e f h = let z : ◌≡◌ {A = Option Found} None (Some f) = sym e ∙ h in cc

    left : Told c c.to (last_of c)
    left = pick_all (Told c c.to) (ltb c.from c.to) (at c.to c.to) (pick_all (Told c c.to) c.dropped (at c.to c.to) (none (looked c None) refl))

    goes_on : Told c c.to (unfinished_of c)
    goes_on = pick_all (Told c c.to) (ltb longest (c.to - c.from)) (none (dropped_all c) refl) (none (seen_all c) refl)

    at_step : (step : Option ℕ) → Told c (looked_to c.to step) (looked_at c step)
    at_step (Some i) = at i (i + 1)
    at_step None = pick_all (Told c c.to) c.ended left goes_on

pub no_newline : (s : List ℕ) (c : Cursor) → Clear s c → (f : Found) → (look_of s c).found ≡ Some f → (i : ℕ) → i < length (line_of s (look_of s c).cursor f) →
    get_or (line_of s (look_of s c).cursor f) i 0 ≡ 10 → ⊥
no_newline s c none f h i l g =
    let told = look_told s c f h in
    let b = line_byte s (look_of s c).cursor f i l in
    let newline : get_or s (c.from + i) 0 ≡ 10 = ap (λ (from : ℕ). get_or s (from + i) 0) (sym told.0) ∙ sym b.same ∙ g in
    by_le
    c.seen
    (c.from + i)
    (λ q. first_over s c.seen c.to 10 (c.from + i) q (omega (arith, told.0, b.in_buffer)) (omega (arith, told.0, told.1, b.before_end)) newline)
    (λ q. none (c.from + i) (omega arith) q newline)
