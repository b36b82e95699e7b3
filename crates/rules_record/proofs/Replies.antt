-- What a call leaves, by the number of its checks. Assumes nothing.
use Rattle.std.specs.Prelude.{◌≡◌, ℕ, List, length}
use mathlib.Core.Path.{sym, ap, ◌∙◌}
use Rattle.base.specs.Lists.{padded}
use Rattle.base.proofs.Choices.{refused_old, accepted_new}
use Rattle.rules_record.specs.declared.Inputs.{Inputs}
use Rattle.rules_record.specs.Lent.{Lists}
use Rattle.rules_record.specs.Effects.{Effect}
use Rattle.rules_record.specs.Reply.{Reply, carried_out, replied}

module _ (s : Inputs) (l : Lists) (commands : List ℕ) (effect : Effect) {n : ℕ} (number : ℕ) (is_number : n ≡ number) where
  pub reply_refused : (n ≡ 0 → ⊥) → ◌≡◌ {A = Reply} (record { number = n; inputs = s; lists = l; commands = commands }) (replied number s l commands effect)
  reply_refused h =
      (λ t. record { number = is_number t; inputs = s; lists = l; commands = commands })
      ∙ sym (refused_old number _ _ (λ e. h (is_number ∙ e)))

  pub reply_accepted : n ≡ 0 → (same : Effect) {all : Inputs} {m : Lists} {after : List ℕ} → same ≡ effect → all ≡ same.inputs → m ≡ same.lists → after ≡ padded (length commands) same.words
      → ◌≡◌ {A = Reply} (record { number = n; inputs = all; lists = m; commands = after }) (replied number s l commands effect)
  reply_accepted passed same is_same is_all is-lists is-after =
      (λ t. record { number = is_number t; inputs = is_all t; lists = is-lists t; commands = is-after t })
      ∙ ap (carried_out number commands) is_same
      ∙ sym (accepted_new number _ _ (sym is_number ∙ passed))
