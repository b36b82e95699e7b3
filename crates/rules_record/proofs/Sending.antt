-- Laws of `Did`: a step that sends nothing, one that sends a command, one after another. Assumes nothing.
use Rattle.std.specs.Prelude.{◌≡◌, ℕ, ◌+◌, ◌≤◌, List, [], ◌∷◌}
use Prim.Native.Nat.{zero-le}
use mathlib.Core.Path.{refl, sym, ◌∙◌, ap, subst}
use native.Mathlib.Nat.{add-zero}
use native.Mathlib.Omega.{arith}
use lib.Seq.{sets}
use Rattle.base.proofs.Words.{sets_append}
use Rattle.rules_record.specs.declared.Inputs.{Inputs}
use Rattle.rules_record.specs.Commands.{Sent, Done, Did, quiet, send_first, changed}

-- what is done may be said by another name
pub did_by : {most : ℕ} {done same : Done} {answer : Sent} {before after : List ℕ} {from : ℕ} → done ≡ same → Did most same answer before after from → Did most done answer before after from
did_by {most} {answer = answer} {before = before} {after = after} {from = from} e h = subst (λ (x : Done). Did most x answer before after from) (sym e) h

pub did_quiet : {most : ℕ} {s z : Inputs} {before : List ℕ} {from : ℕ} → z ≡ s → Did most (quiet s) (record { inputs = z; used = from }) before before from
unfolding quiet
did_quiet {from = from} e = record { inputs = e; used = sym (add-zero from); words = refl; room = zero-le }

-- one command is sent
pub did_sent : (kind input word : ℕ) {most used from : ℕ} {s z : Inputs} {before after : List ℕ} → 3 ≤ most → z ≡ s → used ≡ from + 3 → after ≡ sets before from (kind ∷ input ∷ word ∷ [])
    → Did most (send_first (kind ∷ input ∷ word ∷ []) (quiet s)) (record { inputs = z; used = used }) before after from
unfolding send_first quiet
did_sent kind input word l e u w = record { inputs = e; used = u; words = w; room = l }

-- a command is sent, and then something more
pub did_first : (kind input word : ℕ) {most used from : ℕ} {done : Done} {answer : Sent} {before between after : List ℕ} → used ≡ from + 3 → between ≡ sets before from (kind ∷ input ∷ word ∷ [])
    → Did most done answer between after used → Did (most + 3) (send_first (kind ∷ input ∷ word ∷ []) done) answer before after from
unfolding send_first
did_first kind input word {most} {used} {from} {done} {answer} {before} {between} {after} u w h = record {
  inputs = h.inputs;
  used = h.used ∙ omega (arith, u);
  words =
      h.words
      ∙ ap (λ (l : List ℕ). sets l used done.words) w
      ∙ ap (λ (k : ℕ). sets (sets before from (kind ∷ input ∷ word ∷ [])) k done.words) u
      ∙ sets_append before from (kind ∷ input ∷ word ∷ []) done.words;
  room = omega (arith, h.room);
}

-- the record changes once more
pub did_changed : (f : Inputs → Inputs) {most from : ℕ} {done : Done} {answer : Sent} {z : Inputs} {before after : List ℕ} → Did most done answer before after from → z ≡ f answer.inputs
    → Did most (changed f done) (record { inputs = z; used = answer.used }) before after from
unfolding changed
did_changed f h e = record { inputs = e ∙ ap f h.inputs; used = h.used; words = h.words; room = h.room }
