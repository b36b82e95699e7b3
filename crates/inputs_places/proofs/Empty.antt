-- Equal to the empty hold or the empty entry of a table is to be unused, in the definitions' words. Assumes nothing.
use Rattle.std.specs.Prelude.{◌≡◌, ℕ, Bool, true, false, ◌&&◌, ◌==◌, not, Option, None, Some}
use Rattle.std.specs.Option.{option_eq}
use mathlib.Core.Bool.{beq}
use mathlib.Core.Path.{refl, ◌∙◌, sym}
use Rattle.base.specs.Choice.{both}
use Rattle.delay_hold.specs.contracts.DelayHoldPartialEq.TheImpl as hold
use Rattle.delay_hold.specs.declared.DelayHold.{DelayHold}
use Rattle.delay_hold.specs.declared.LowerTimer.{LowerTimer}
use Rattle.delay_hold.specs.declared.Seed.{Seed}
use Rattle.delay_hold.specs.Next.{fresh_hold}
use Rattle.rules_record.specs.contracts.FlowEntryPartialEq.TheImpl as entry
use Rattle.rules_record.specs.declared.FlowEntry.{FlowEntry}
use Rattle.rules_record.specs.Flows.{empty_entry}
use Rattle.rules_record.specs.WholePlaces.{never_yet, no_timer, no_seed, no_delay, unused_hold, unused_entry}

and_both : {a b c d : Bool} → a ≡ c → b ≡ d → (a && b) ≡ both c d
unfolding both
and_both {a = true} e f = rw (sym e) f
and_both {a = false} e f = rw (sym e) refl

three : (a b : Bool) {c d : Bool} → c ≡ d → ((a && b) && c) ≡ both a (both b d)
unfolding both
three true true e = e
three true false e = refl
three false b e = refl

moment : (eq : ℕ → ℕ → Bool) (o : Option ℕ) → option_eq eq o None ≡ never_yet o
moment eq None = refl
moment eq (Some time) = refl

timer : (eq : LowerTimer → LowerTimer → Bool) (o : Option LowerTimer) → option_eq eq o None ≡ no_timer o
timer eq None = refl
timer eq (Some one) = refl

seed : (eq : Seed → Seed → Bool) (o : Option Seed) → option_eq eq o None ≡ no_seed o
seed eq None = refl
seed eq (Some one) = refl

delay : (eq : ℕ → ℕ → Bool) (o : Option ℕ) → option_eq eq o None ≡ no_delay o
delay eq None = refl
delay eq (Some samples) = refl

late : (b : Bool) → beq b false ≡ not b
late true = refl
late false = refl

pub hold_empty : (h : DelayHold) → (hold.eq-value).it h fresh_hold ≡ unused_hold h
unfolding unused_hold
hold_empty h = and_both refl (and_both (moment _ h.last_change) (and_both (timer _ h.lower) (and_both (moment _ h.started) (and_both refl (and_both (late h.late_before) (seed _ h.seeded))))))

pub entry_empty : (e : FlowEntry) → (entry.eq-value).it e empty_entry ≡ unused_entry e
unfolding unused_entry empty_entry
entry_empty e = three _ _ (delay _ e.remembered)
