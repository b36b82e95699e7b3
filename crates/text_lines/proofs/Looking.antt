-- The place after a newline that was found is a place. Assumes nothing.
use Prim.Native.Nat.{ℕ, ◌+◌, ◌-◌, ◌^◌, ◌<◌, min}
use mathlib.Core.Path.{◌≡◌, sym, ap, ◌∙◌}
use mathlib.Core.List.{List}
use native.Mathlib.Omega.{arith}
use Rattle.std.specs.Prelude.{Option, Some}
use Rattle.text_scan.specs.Scan.{first_from}
use Rattle.text_scan.proofs.Parts.{first_within}
use Rattle.text_lines.specs.declared.Cursor.{Cursor}
use Rattle.text_lines.specs.Lines.{found_at, look_of}

pub look_found : (s : List ℕ) (c : Cursor) {newline : Option ℕ} (end : ℕ) {next : ℕ} → newline ≡ first_from s c.seen c.to 10 → newline ≡ Some end → c.to < 2 ^ 64 → next ≡ min (end + 1) (2 ^ 64 - 1) → found_at c end next ≡ look_of s c
unfolding look_of
look_found s c end {next} e h b n =
    let within = first_within s c.seen c.to 10 end (sym e ∙ h) in
    let exact : next ≡ end + 1 = omega (arith, within.1) in
    rw (← e, h) (ap (found_at c end) exact)
