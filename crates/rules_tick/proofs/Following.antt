-- One step after another, as the code goes: what the first sends stands first. Of general use: it belongs to record. Assumes nothing.
use Prim.Native.Nat.{ℕ, ◌+◌}
use mathlib.Core.Path.{◌≡◌, ap, ◌∙◌}
use mathlib.Core.List.{List}
use native.Mathlib.Omega.{arith}
use lib.ListN.{length, length-append}
use lib.Seq.{sets}
use Rattle.base.proofs.Words.{sets_append}
use Rattle.rules_record.specs.Commands.{Sent}
use Rattle.rules_record.specs.declared.Inputs.{Inputs}
use Rattle.rules_record.specs.Lent.{Lists}
use Rattle.rules_record.specs.Effects.{Effect, followed_by, Effected}

module _ (few more : ℕ) (one : Effect) (next : Inputs → Lists → Effect) {between answer : Sent} {l m : Lists} {before middle after : List ℕ} {from : ℕ}
    (h : Effected few one between l before middle from) (g : Effected more (next between.inputs l) answer m middle after between.used) where
  abbrev two : Effect
  two = next one.inputs one.lists

  same : next between.inputs l ≡ two
  same = λ t. next (h.done.inputs t) (h.lists t)

  words_are : after ≡ sets middle between.used two.words
  words_are = g.done.words ∙ ap (λ (x : Effect). sets middle between.used x.words) same

  used_is : answer.used ≡ between.used + length two.words
  used_is = g.done.used ∙ ap (λ (x : Effect). between.used + length x.words) same

  pub effected_then : Effected (few + more) (followed_by one next) answer m before after from
  unfolding followed_by
  effected_then = record {
    lists = g.lists ∙ ap (λ (x : Effect). x.lists) same;
    done =
        record {
          inputs = g.done.inputs ∙ ap (λ (x : Effect). x.inputs) same;
          used = used_is ∙ omega (arith, h.done.used, length-append one.words two.words);
          words =
              words_are
              ∙ ap (λ (x : List ℕ). sets x between.used two.words) h.done.words
              ∙ ap (λ (k : ℕ). sets (sets before from one.words) k two.words) h.done.used
              ∙ sets_append before from one.words two.words;
          room = omega (arith, h.done.room, g.done.room, ap (λ (x : Effect). length x.words) same, length-append one.words two.words);
        };
  }
