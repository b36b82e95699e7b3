-- How far a step may raise the counters of an input. Each of a tick's steps raises another one, and by at most one. Assumes nothing.
use Prim.Native.Nat.{ℕ, ◌+◌, ◌≤◌}
use mathlib.Core.Path.{◌≡◌, sym, subst}
use native.Mathlib.Omega.{arith}
use Rattle.rules_record.specs.declared.Slot.{Slot}

-- the new slot's counters are at most so much above the old one's
pub record Raised (more-reopens more-changes more-lates : ℕ) (old new : Slot) : Type 0 where
  pub reopens : new.reopens ≤ old.reopens + more-reopens
  pub changes : new.delay_changes ≤ old.delay_changes + more-changes
  pub lates : new.late_events ≤ old.late_events + more-lates

pub raised_by : (reopens changes lates : ℕ) (old : Slot) {new same : Slot} → new ≡ same → Raised reopens changes lates old same → Raised reopens changes lates old new
raised_by reopens changes lates old e r = subst (Raised reopens changes lates old) (sym e) r

pub raised_then : (a b c d e f : ℕ) (old between new : Slot) → Raised a b c old between → Raised d e f between new → Raised (a + d) (b + e) (c + f) old new
raised_then a b c d e f old between new p q = record {
  reopens = omega (arith, p.reopens, q.reopens);
  changes = omega (arith, p.changes, q.changes);
  lates = omega (arith, p.lates, q.lates);
}
