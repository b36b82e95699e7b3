-- `text_lines::Cursor::look` meets its contract. Assumes nothing.
use native.Mathlib.Omega.{arith}
use Rattle.text_lines.proofs.Looking.{look_found}
use Rattle.text_lines.proofs.Cursor.look.Goals as goal

pub returns-in-Some : goal.returns-in-Some
returns-in-Some c = search (look_found, arith)
