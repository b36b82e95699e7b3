-- The settings of `new`, which every call keeps, and the number of an accepted call. Assumes nothing.
use Prim.Native.Nat.{ℕ, zero, suc, ◌<◌}
use mathlib.Core.Path.{◌≡◌, sym, ap, subst}
use mathlib.Core.List.{List}
use Rattle.rules_record.specs.declared.Inputs.{Inputs}
use Rattle.rules_record.specs.Lent.{Lists}
use Rattle.rules_record.specs.Effects.{Effect}
use Rattle.rules_record.specs.Reply.{replied}
use Rattle.rules_routing.proofs.SettingsKept.{SameSettings}
use Rattle.rules_calls.specs.declared.Settings.{Settings}
use Rattle.rules_calls.specs.NewRecord.{policy_of, blank, blank_for}

-- ---- "All calls keep the settings of `new`."
module _ (settings : Settings) (z : Inputs) (given : SameSettings (blank_for settings) z) where
  pub given_count : z.count ≡ settings.count
  unfolding blank_for blank
  given_count = ap (λ (x : Inputs). x.count) given

  pub given_policy : z.policy ≡ policy_of settings
  unfolding blank_for blank
  given_policy = ap (λ (x : Inputs). x.policy) given

  pub given_confirm : z.confirm ≡ settings.confirm
  unfolding blank_for blank
  given_confirm = ap (λ (x : Inputs). x.confirm) given

  pub given_input : (i : ℕ) → i < settings.count → i < z.count
  given_input i h = subst (λ (x : ℕ). i < x) (sym given_count) h

-- an answer's number is that of its checks
pub passed_of : (number : ℕ) (s : Inputs) (l : Lists) (commands : List ℕ) (effect : Effect) → (replied number s l commands effect).number ≡ 0 → number ≡ 0
passed_of zero s l commands effect e = e
passed_of (suc n) s l commands effect e = e
