-- Where reading stands in the input buffer, the next line of it, and the line's bytes, the buffer as the list of its bytes. Assumes nothing.
use Rattle.std.specs.Prelude.{ℕ, ◌+◌, ◌-◌, ◌≤◌, max, Bool, true, false, ◌≡◌, List, [], Option, Some, None, eqb, leb, ltb, length, take, drop}
use Rattle.base.specs.Choice.{pick}
use Rattle.base.specs.Lists.{shifted}
use Rattle.text_scan.specs.Scan.{has_byte, first_from}
use Rattle.text_lines.specs.declared.Cursor.{Cursor}
use Rattle.text_lines.specs.declared.Found.{Found}

-- 1 MiB: the longest line, without its newline
abbrev pub longest : ℕ
longest = 1_048_576

-- ---- where reading stands
-- nothing was read
abbrev pub at_begin : Cursor
at_begin = record { from = 0; seen = 0; to = 0; ended = false; dropped = false }

-- what looking leaves: where reading stands then, and the line that was found, where one was
pub record Looked : Type 0 where
  pub cursor : Cursor
  pub found : Option Found

abbrev pub looked : (c : Cursor) (found : Option Found) → Looked
looked c found = record { cursor = c; found = found }

-- a line was found: where it ends, and where the next begins
abbrev pub found_at : (c : Cursor) (end next : ℕ) → Looked
found_at c end next = looked c (Some (record { end = end; next = next }))

-- no newline stands in what was read
abbrev pub seen_all : Cursor → Looked
seen_all c = looked (record { from = c.from; seen = c.to; to = c.to; ended = c.ended; dropped = c.dropped }) None

-- what was read is of a line that is too long, and is dropped
abbrev pub dropped_all : Cursor → Looked
dropped_all c = looked (record { from = c.to; seen = c.to; to = c.to; ended = c.ended; dropped = true }) None

-- the line is answered: the next begins after it
abbrev pub passed_by : (f : Found) → Cursor → Cursor
passed_by f c = record { from = f.next; seen = f.next; to = c.to; ended = c.ended; dropped = false }

-- ---- the next line
-- at the end of the input: what is left is a line without a newline, and so is what was dropped
unfoldable pub last_of : Cursor → Looked
last_of c = pick (ltb c.from c.to) (found_at c c.to c.to) (pick c.dropped (found_at c c.to c.to) (looked c None))

-- before the end of the input: the line goes on, and is dropped where it is too long
unfoldable pub unfinished_of : Cursor → Looked
unfinished_of c = pick (ltb longest (c.to - c.from)) (dropped_all c) (seen_all c)

-- the line ends before its newline, where there is one
abbrev pub looked_at : (c : Cursor) → Option ℕ → Looked
looked_at c (Some end) = found_at c end (end + 1)
looked_at c None = pick c.ended (last_of c) (unfinished_of c)

-- the first newline (10) of what was read and not yet looked at ends the line
unfoldable pub look_of : (s : List ℕ) (c : Cursor) → Looked
look_of s c = looked_at c (first_from s c.seen c.to 10)

-- ---- the line's bytes
-- does a carriage return (13) stand before the newline?
unfoldable pub return_before : (s : List ℕ) (c : Cursor) (f : Found) → Bool
return_before s c f = pick (ltb f.end f.next) (pick (ltb c.from f.end) (has_byte s (f.end - 1) 13) false) false

-- a carriage return before the newline is no part of the line
unfoldable pub text_end : (s : List ℕ) (c : Cursor) (f : Found) → ℕ
text_end s c f = pick (return_before s c f) (f.end - 1) f.end

-- dropped, or longer than 1 MiB, a carriage return counted
unfoldable pub too_long : (c : Cursor) (f : Found) → Bool
too_long c f = pick c.dropped true (ltb longest (f.end - c.from))

-- a line that is too long is empty
unfoldable pub line_of : (s : List ℕ) (c : Cursor) (f : Found) → List ℕ
line_of s c f = pick (too_long c f) [] (take (text_end s c f - c.from) (drop c.from s))

-- ---- reading more
-- the unfinished line moves to the buffer's begin
abbrev pub moved_down : Cursor → Cursor
moved_down c = record { from = 0; seen = c.seen - c.from; to = c.to - c.from; ended = c.ended; dropped = c.dropped }

-- only where the buffer, of this size, is used up
unfoldable pub moved_cursor : (size : ℕ) (c : Cursor) → Cursor
moved_cursor size c = pick (ltb c.to size) c (moved_down c)

-- the buffer's bytes move with it: those before the unfinished line go
unfoldable pub moved_bytes : (c : Cursor) (s : List ℕ) → List ℕ
moved_bytes c s = pick (ltb c.to (length s)) s (shifted c.from s)

-- what was read now ends at `to`: the input is at its end exactly where nothing came
abbrev pub read_up_to : (to : ℕ) (c : Cursor) → Cursor
read_up_to to c = record { from = c.from; seen = c.seen; to = to; ended = eqb to c.to; dropped = c.dropped }

-- from a cursor and a buffer to a cursor and a buffer, by one read: what came stands in the buffer after what was read before, which stays. Which bytes come, and whether any do, the contract of `read` does not say of every reader.
pub record ReadAfter (c : Cursor) (s : List ℕ) (r : Cursor) (t : List ℕ) : Type 0 where
  pub cursor : r ≡ read_up_to r.to c
  pub onwards : c.to ≤ r.to
  pub inside : r.to ≤ max c.to (length s)
  pub stays : take c.to t ≡ take c.to s

-- ---- the place for the next words: the buffer begins anew where fewer than 1,024 places are left
unfoldable pub room_at : (length place : ℕ) → ℕ
room_at length place = pick (leb 1_024 (length - place)) place 0
