-- Laws of `Does`: a step that sends nothing, one that sends a command, one after another. Assumes nothing.
use Rattle.std.specs.Prelude.{◌≡◌, ℕ, ◌+◌, ◌≤◌, List, [], ◌++◌}
use Prim.Native.Nat.{zero-le}
use mathlib.Core.Path.{refl, sym, ap, subst, ◌∙◌}
use native.Mathlib.Nat.{add-zero}
use native.Mathlib.Omega.{arith}
use lib.ListN.{length, length-append}
use lib.Seq.{sets, length-sets}
use Rattle.base.proofs.Words.{sets_append}
use Rattle.rules_record.specs.declared.Inputs.{Inputs}
use Rattle.rules_record.specs.Commands.{Done, quiet, send_first, changed}
use Rattle.rules_record.proofs.Sending.{did_quiet, did_sent, did_first, did_changed}
use Rattle.rules_record.specs.Lent.{Lists}
use Rattle.rules_record.specs.Reply.{Reply}
use Rattle.rules_record.specs.Effects.{Effect, silent, beside}
use Rattle.rules_record.proofs.Effects.{effected_silent, effected_done}
use Rattle.inputs_commands.specs.declared.Command.{Command}
use Rattle.inputs_commands.specs.declared.Command.TheVariants.{SetInput, ClearInput, SetDelay}
use Rattle.inputs_commands.specs.declared.Commands.{Commands}
use Rattle.inputs_commands.specs.Sending.{words_of, Room, Sends, Appends, Does, Affects}

-- what is done may be said by another name
pub does_by : {most : ℕ} {done same : Done} {answer : Inputs} {before after : Commands} → done ≡ same → Does most same answer before after → Does most done answer before after
does_by {most} {answer = answer} {before = before} {after = after} e h = subst (λ (x : Done). Does most x answer before after) (sym e) h

pub does_quiet : {most : ℕ} {s z : Inputs} {c : Commands} → z ≡ s → Does most (quiet s) z c c
does_quiet e = record { did = did_quiet e; same = refl }

-- one command is sent
pub does_sent : (command : Command) {most : ℕ} {s z : Inputs} {before after : Commands} → 3 ≤ most → z ≡ s → Sends command before after → Does most (send_first (words_of command) (quiet s)) z before after
does_sent (SetInput i w) l e h = record { did = did_sent _ _ _ l e h.used h.words; same = h.same }
does_sent (ClearInput i w) l e h = record { did = did_sent _ _ _ l e h.used h.words; same = h.same }
does_sent (SetDelay i w) l e h = record { did = did_sent _ _ _ l e h.used h.words; same = h.same }

-- a command is sent, and then something more
pub does_first : (command : Command) {most : ℕ} {done : Done} {answer : Inputs} {before between after : Commands} → Sends command before between → Does most done answer between after
    → Does (most + 3) (send_first (words_of command) done) answer before after
does_first (SetInput i w) h d = record { did = did_first _ _ _ h.used h.words d.did; same = d.same ∙ h.same }
does_first (ClearInput i w) h d = record { did = did_first _ _ _ h.used h.words d.did; same = d.same ∙ h.same }
does_first (SetDelay i w) h d = record { did = did_first _ _ _ h.used h.words d.did; same = d.same ∙ h.same }

-- the record changes once more
pub does_changed : (f : Inputs → Inputs) {most : ℕ} {done : Done} {answer z : Inputs} {before after : Commands} → Does most done answer before after → z ≡ f answer → Does most (changed f done) z before after
does_changed f h e = record { did = did_changed f h.did e; same = h.same }

-- a step leaves the list as long as it was
pub long_after : {most : ℕ} {done : Done} {answer : Inputs} {before after : Commands} → Does most done answer before after → length after.words.now ≡ length before.words.now
long_after {done = done} {before = before} h = ap length h.did.words ∙ length-sets before.words.now before.used done.words

-- room for a step and more is room for more after it
pub room_after : (n : ℕ) {most : ℕ} {done : Done} {answer : Inputs} {before after : Commands} → Room (most + n) before → Does most done answer before after → Room n after
room_after n r h = omega (arith, r, h.did.used, h.did.room, long_after h)

-- ---- the same of `Affects`
pub affects_by : {most : ℕ} {effect same : Effect} {answer : Inputs} {l : Lists} {before after : Commands} → effect ≡ same → Affects most same answer l before after → Affects most effect answer l before after
affects_by {most} {answer = answer} {l = l} {before = before} {after = after} e h = subst (λ (x : Effect). Affects most x answer l before after) (sym e) h

pub affects_silent : {most : ℕ} {s z : Inputs} {l m : Lists} {c : Commands} → z ≡ s → m ≡ l → Affects most (silent s l) z m c c
affects_silent e k = record { effected = effected_silent e k; same = refl }

pub affects_done : {most : ℕ} {done : Done} {answer : Inputs} {l m : Lists} {before after : Commands} → Does most done answer before after → m ≡ l → Affects most (beside l done) answer m before after
affects_done h k = record { effected = effected_done h.did k; same = h.same }

-- ---- several commands
pub appends_none : {most : ℕ} {c : Commands} → Appends most [] c c
appends_none {c = c} = record { used = sym (add-zero c.used); words = refl; room = zero-le; same = refl }

pub appends_sent : (command : Command) {before after : Commands} → Sends command before after → Appends 3 (words_of command) before after
appends_sent (SetInput i w) h = record { used = h.used; words = h.words; room = omega arith; same = h.same }
appends_sent (ClearInput i w) h = record { used = h.used; words = h.words; room = omega arith; same = h.same }
appends_sent (SetDelay i w) h = record { used = h.used; words = h.words; room = omega arith; same = h.same }

pub appends_after : {few most : ℕ} {first next : List ℕ} {before between after : Commands} → Appends few first before between → Appends most next between after → Appends (few + most) (first ++ next) before after
appends_after {first = first} {next = next} {before = before} {between = between} f n = record {
  used = omega (arith, n.used, f.used, length-append first next);
  words =
      n.words
      ∙ ap (λ (l : List ℕ). sets l between.used next) f.words
      ∙ ap (λ (k : ℕ). sets (sets before.words.now before.used first) k next) f.used
      ∙ sets_append before.words.now before.used first next;
  room = omega (arith, n.room, f.room, length-append first next);
  same = n.same ∙ f.same;
}

-- the first words of a list
pub appends_first : {most : ℕ} {words : List ℕ} {before after : Commands} → before.used ≡ 0 → Appends most words before after → (after.used ≡ length words) × (after.words.now ≡ sets before.words.now 0 words) × (length words ≤ most)
appends_first {words = words} {before = before} e h = (omega (arith, e, h.used), h.words ∙ ap (λ (k : ℕ). sets before.words.now k words) e, h.room)

-- what a call leaves, where the lent list ends as these words
pub left_by : {n : ℕ} {s : Inputs} {l : Lists} {words list : List ℕ} {r : Reply} → record { number = n; inputs = s; lists = l; commands = words } ≡ r → list ≡ words → record { number = n; inputs = s; lists = l; commands = list } ≡ r
left_by {n} {s} {l} h e = ap (λ (c : List ℕ). record { number = n; inputs = s; lists = l; commands = c }) e ∙ h

pub long_effected : {most : ℕ} {effect : Effect} {answer : Inputs} {l : Lists} {before after : Commands} → Affects most effect answer l before after → length after.words.now ≡ length before.words.now
long_effected {effect = effect} {before = before} h = ap length h.effected.done.words ∙ length-sets before.words.now before.used effect.words
