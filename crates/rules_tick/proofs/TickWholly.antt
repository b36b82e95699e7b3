-- A whole tick, as the code goes: all inputs, then the instances and the unsaved mark. Assumes nothing.
use Rattle.std.specs.Prelude.{None, Ok}
use Prim.Native.Nat.{ℕ, ◌*◌, ◌≤◌}
use mathlib.Core.Path.{◌≡◌, ap, ◌∙◌}
use mathlib.Core.List.{List}
use native.Mathlib.Omega.{arith}
use lib.ListN.{length, replicate}
use lib.Seq.{sets}
use Rattle.base.specs.Lists.{padded}
use Rattle.base.proofs.Words.{laid}
use Rattle.rules_record.specs.Commands.{Sent}
use Rattle.rules_record.specs.declared.Inputs.{Inputs}
use Rattle.rules_record.specs.Prune.{pruned}
use Rattle.rules_record.specs.Lent.{Lists}
use Rattle.rules_record.specs.Effects.{Effect, Effected}
use Rattle.rules_tick.specs.declared.Look.{Look}
use Rattle.rules_tick.specs.Tick.{ticked_below, ticked_all, saved, lastly, ticked, unsaved_at}
use Rattle.rules_tick.specs.TickAnswer.{told, carried}

module _ (looks : List Look) (lags : List ℕ) (time : ℕ) (s : Inputs) (l : Lists) (commands : List ℕ) (room : s.count * 9 ≤ length commands) {sent : Sent} {kept done : Inputs} {m : Lists} {zeros after : List ℕ}
    (is-zeros : zeros ≡ replicate (length commands) 0)
    (is-sent : Effected (s.count * 9) (ticked_below s.count looks lags time s l) sent m zeros after 0)
    (is-kept : kept ≡ pruned sent.inputs None)
    (is-done : done ≡ saved kept) where
  abbrev below : Effect
  below = ticked_below s.count looks lags time s l

  inputs_are : done ≡ lastly below.inputs
  inputs_are = is-done ∙ ap saved is-kept ∙ ap lastly is-sent.done.inputs

  words_are : after ≡ padded (length commands) below.words
  words_are = is-sent.done.words ∙ ap (λ (x : List ℕ). sets x 0 below.words) is-zeros ∙ laid (length commands) below.words (omega (arith, is-sent.done.room, room))

  pub wholly_by : told s (Ok (record { inputs = done; unsaved = sent.inputs.unsaved })) m after ≡ carried commands (ticked looks lags time s l) (unsaved_at looks lags time s l)
  unfolding ticked unsaved_at ticked_all
  wholly_by = λ t. record { reply = record { number = 0; inputs = inputs_are t; lists = is-sent.lists t; commands = words_are t }; unsaved = (is-sent.done.inputs t).unsaved }
