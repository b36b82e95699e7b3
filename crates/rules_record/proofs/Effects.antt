-- Laws of steps one after another, and of `Effected`: a step that sends nothing, and one that does what a step on the record alone does. Assumes nothing.
use Rattle.std.specs.Prelude.{◌≡◌, ℕ, List, ◌++◌}
use mathlib.Core.Path.{refl, sym, subst}
use Rattle.rules_record.specs.declared.Inputs.{Inputs}
use Rattle.rules_record.specs.Commands.{Sent, Done, Did, quiet}
use Rattle.rules_record.proofs.Sending.{did_quiet}
use Rattle.rules_record.specs.Lent.{Lists}
use Rattle.rules_record.specs.Effects.{Effect, silent, beside, followed_by, Effected}

-- a step after one that did nothing is that step alone
pub after_silence : (s : Inputs) (l : Lists) (next : Inputs → Lists → Effect) → followed_by (silent s l) next ≡ next s l
unfolding followed_by
after_silence s l next = refl

-- the second step begins with what the first left, and "Commands stand in sending order"
pub second_begins_where_first_ended :
    (effect : Effect) (next : Inputs → Lists → Effect)
    → ((followed_by effect next).inputs ≡ (next effect.inputs effect.lists).inputs)
    × ((followed_by effect next).lists ≡ (next effect.inputs effect.lists).lists)
    × ((followed_by effect next).words ≡ effect.words ++ (next effect.inputs effect.lists).words)
unfolding followed_by
second_begins_where_first_ended effect next = (refl, refl, refl)

-- what is done may be said by another name
pub effected_by : {most : ℕ} {effect same : Effect} {answer : Sent} {l : Lists} {before after : List ℕ} {from : ℕ} → effect ≡ same → Effected most same answer l before after from
    → Effected most effect answer l before after from
effected_by {most} {answer = answer} {l = l} {before = before} {after = after} {from = from} e h = subst (λ (x : Effect). Effected most x answer l before after from) (sym e) h

pub effected_silent : {most : ℕ} {s z : Inputs} {l m : Lists} {before : List ℕ} {from : ℕ} → z ≡ s → m ≡ l → Effected most (silent s l) (record { inputs = z; used = from }) m before before from
unfolding quiet
effected_silent e k = record { lists = k; done = did_quiet e }

pub effected_done : {most : ℕ} {done : Done} {answer : Sent} {l m : Lists} {before after : List ℕ} {from : ℕ} → Did most done answer before after from → m ≡ l
    → Effected most (beside l done) answer m before after from
effected_done h k = record { lists = k; done = h }
