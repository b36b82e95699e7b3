-- An input that is watched: its state, and what `looked` makes of it where its head moved, whatever the record around its slot. Assumes nothing.
use Rattle.std.specs.Prelude.{◌≡◌, ℕ, ◌≤◌, ◌⊎◌}
use mathlib.Core.Path.{sym, ap, ◌∙◌}
use mathlib.Core.Logic.{⊎_elim}
use native.Mathlib.Omega.{arith}
use Rattle.rules_record.specs.declared.State.{State}
use Rattle.rules_record.specs.declared.State.TheVariants.{Running, Stalled}
use Rattle.rules_record.specs.declared.Slot.{Slot}
use Rattle.rules_record.specs.declared.Inputs.{Inputs}
use Rattle.rules_record.specs.States.{state_number}
use Rattle.rules_record.specs.Inputs.{slot_at, put_slot}
use Rattle.rules_record.specs.Commands.{quiet}
use Rattle.rules_routing.specs.Watch.{moved_slot}
use Rattle.rules_tick.specs.declared.Look.{Look}
use Rattle.rules_tick.specs.Tick.{looked}
use Rattle.rules_tick.proofs.Looking.{looked_watches}
use Rattle.inputs_watch.specs.declared.Found.{Found}
use Rattle.inputs_watch.specs.declared.Found.TheVariants.{Moved}
use Rattle.inputs_watch.specs.WatchInPlace.{found_by}
use Rattle.inputs_watch.proofs.Finding.{watch_by}

-- the arm of Running and Stalled
pub watches : (state : State) → (state ≡ Running) ⊎ (state ≡ Stalled) → 2 ≤ state_number state
watches state k = ⊎_elim (λ e. omega (arith, ap state_number e)) (λ e. omega (arith, ap state_number e)) k

pub only_moves : (look : Look) (slot : Slot) {code : ℕ} → code ≡ state_number slot.state → 2 ≤ code
    → {found : Found} → found ≡ found_by slot.route look.seen slot.inode slot.last_head look.world.head → found ≡ Moved
    → (s : Inputs) (i time : ℕ) → slot_at s i ≡ slot → looked i look time s ≡ quiet (put_slot s i (moved_slot slot look.world.head time))
only_moves look slot is_code high is_found moved s i time e =
    looked_watches i look time s (sym e) is_code (λ waits. omega arith) high
    ∙ watch_by slot s i time look.world look.seen (sym e) is_found moved
