-- Of distinct keys pruning keeps at most 17: one for each of 16 inputs, and the extra one. Assumes nothing.
use Rattle.std.specs.Prelude.{◌≡◌, ℕ, zero, suc, ◌+◌, ◌≤◌, Bool, true, false, [], ◌∷◌, length, None, Option, Some}
use mathlib.Core.Path.{refl, sym, ◌∙◌, ap, ap₂}
use native.Mathlib.Nat.{le_of_eq}
use native.Mathlib.Omega.{arith}
use lib.ListN.{length-append}
use Rattle.base.specs.Choice.{pick}
use Rattle.base.specs.Lists.{sum}
use Rattle.base.proofs.Choices.{by_bool}
use Rattle.base.proofs.Points.{sum_zero}
use Rattle.rules_record.specs.declared.Slot.{Slot}
use Rattle.rules_record.specs.declared.Instance.{Instance}
use Rattle.rules_record.specs.declared.Inputs.{Inputs}
use Rattle.rules_record.specs.States.{is_shut}
use Rattle.rules_record.specs.Inputs.{slot_at}
use Rattle.base.proofs.Tests.{not_both}
use Rattle.base.specs.Any.{any}
use Rattle.rules_record.specs.Instances.{same_key, key_at, keys_held}
use Rattle.rules_record.specs.Prune.{reads_key, uses_key, any_uses, is_extra, wanted_key, keep_one, kept_keys, pruned}
use Rattle.rules_record.proofs.InstanceKeys.{same_key_law, Distinct, pruned_count}
use Rattle.rules_record.specs.declared.Route.{Route}

-- how many of the first n keys pass a test
abbrev count : (Instance → Bool) → Inputs → ℕ → ℕ
count p s n = sum (λ i. pick (p (key_at s i)) 1 0) n

or : Bool → Bool → Bool
or a b = pick a true b

or_count : (a b : Bool) → pick (or a b) 1 0 ≤ pick a 1 0 + pick b 1 0
unfolding or
or_count true b = omega arith
or_count false b = omega arith

-- a test that holds where one of two does counts at most as both
count_or : (p q r : Instance → Bool) → ((key : Instance) → r key ≡ or (p key) (q key)) → (s : Inputs) (n : ℕ) → count r s n ≤ count p s n + count q s n
unfolding sum
count_or p q r e s zero = omega arith
count_or p q r e s (suc n) =
    omega (arith, count_or p q r e s n, or_count (p (key_at s n)) (q (key_at s n)), ap {B = ℕ} (λ (b : Bool). pick b 1 0) (e (key_at s n)))

fails_count : (b : Bool) → (b ≡ true → ⊥) → ◌≡◌ {A = ℕ} (pick b 1 0) 0
fails_count true h = absurd (h refl)
fails_count false h = refl

-- a test that only one key passes counts at most one, where keys are distinct
module _ (p : Instance → Bool) (only : (a b : Instance) → p a ≡ true → p b ≡ true → a ≡ b) (s : Inputs) where
  count_one : (n : ℕ) → n ≤ keys_held s → Distinct s → count p s n ≤ 1
  unfolding sum Distinct
  count_one zero l d = omega arith
  count_one (suc n) l d =
      let low : count p s n ≤ 1 = count_one n (omega arith) d in
      by_bool (p (key_at s n)) (λ e. last e) (λ e. omega (arith, low, ap {B = ℕ} (λ (b : Bool). pick b 1 0) e))
    where
      last : p (key_at s n) ≡ true → count p s n + pick (p (key_at s n)) 1 0 ≤ 1
      last e =
          let none : count p s n ≡ 0 = sum_zero _ n (λ i m. fails_count (p (key_at s i)) (λ f. let q : i ≡ n = d i n (omega arith) l (only _ _ f e) in omega (arith, q))) in
          omega (arith, none, ap {B = ℕ} (λ (b : Bool). pick b 1 0) e)

-- an input reads one key at most
reads_one : (to : Option Route) (seen : Option ℕ) (a b : Instance) → reads_key to seen a ≡ true → reads_key to seen b ≡ true → a ≡ b
reads_one None seen a b e f = absurd (not_both e refl)
reads_one (Some route) None a b e f = absurd (not_both e refl)
reads_one (Some route) (Some inode) a b e f = sym (same_key_law _ a e) ∙ same_key_law _ b f

uses_one : (slot : Slot) (a b : Instance) → uses_key slot a ≡ true → uses_key slot b ≡ true → a ≡ b
unfolding uses_key
uses_one slot a b e f = go (is_shut slot.state) e f
  where
    go : (t : Bool) → pick t false (reads_key slot.route slot.inode a) ≡ true → pick t false (reads_key slot.route slot.inode b) ≡ true → a ≡ b
    go true e f = absurd (not_both e refl)
    go false e f = reads_one slot.route slot.inode a b e f

module _ (s : Inputs) (d : Distinct s) where
  any_few : (k : ℕ) → count (λ key. any (λ i. uses_key (slot_at s i) key) k) s (keys_held s) ≤ k
  unfolding any or
  any_few zero = le_of_eq (sum_zero _ (keys_held s) (λ i l. refl))
  any_few (suc k) =
      let low : count (λ key. any (λ i. uses_key (slot_at s i) key) k) s (keys_held s) ≤ k = any_few k in
      omega (
        arith,
        low,
        count_or (λ key. any (λ i. uses_key (slot_at s i) key) k) (λ key. uses_key (slot_at s k) key) (λ key. any (λ i. uses_key (slot_at s i) key) (suc k)) (λ key. refl) s (keys_held s),
        count_one (λ key. uses_key (slot_at s k) key) (uses_one (slot_at s k)) s (keys_held s) (omega arith) d,
      )

  extra_few : (extra : Option Instance) → count (is_extra extra) s (keys_held s) ≤ 1
  extra_few None = omega (arith, sum_zero (λ i. 0) (keys_held s) (λ i l. refl))
  extra_few (Some one) = count_one (same_key one) (λ a b e f. sym (same_key_law one a e) ∙ same_key_law one b f) s (keys_held s) (omega arith) d

-- what is kept is what is wanted
kept_count : (s : Inputs) (extra : Option Instance) (n : ℕ) → length (kept_keys s extra n) ≡ count (wanted_key s extra) s n
unfolding kept_keys keep_one sum
kept_count s extra zero = refl
kept_count s extra (suc n) =
    length-append (kept_keys s extra n) (keep_one s extra (key_at s n))
    ∙ ap₂ (λ (a b : ℕ). a + b) (kept_count s extra n) (size (wanted_key s extra (key_at s n)) (key_at s n))
  where
    size : (b : Bool) (key : Instance) → length (pick b (key ∷ []) []) ≡ pick b 1 0
    size true key = refl
    size false key = refl

-- "17 instances at most": the table stays short of its 18 places
pub pruned_few : (s : Inputs) (extra : Option Instance) → Distinct s → (pruned s extra).instance_count ≤ 17
unfolding wanted_key any_uses or
pruned_few s extra d =
    omega (
      arith,
      pruned_count s extra,
      kept_count s extra (keys_held s),
      count_or (is_extra extra) (any_uses s) (wanted_key s extra) (λ key. refl) s (keys_held s),
      extra_few s d extra,
      any_few s d 16,
    )
