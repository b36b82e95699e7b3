-- Keys stay distinct: where one that is not found is made, and where the table is pruned. Assumes nothing.
use Rattle.std.specs.Prelude.{◌≡◌, ℕ, zero, suc, ◌+◌, ◌-◌, ◌<◌, ◌≤◌, true, false, eqb, ltb, List, [], ◌∷◌, ◌++◌, length, get_or, set, replicate, Option}
use mathlib.Core.Path.{refl, sym, ap, ap₂, ◌∙◌}
use mathlib.Core.List.{append-nil}
use mathlib.Core.Logic.{⊎_elim}
use native.Mathlib.Nat.{eq-or-lt_of_le, le_of_suc-le-suc}
use native.Mathlib.Omega.{arith}
use lib.ListN.{length-append, length-set, length-replicate, get_or-append}
use lib.Seq.{get_or-set_same, get_or-set_other, get_or-append_seam}
use borrow.Author.Tests.{eq-eqb, eqb-true, lt-ltb, ltb-false}
use Rattle.base.specs.Choice.{pick}
use Rattle.base.proofs.Choices.{by_bool, lt_rule, pick_all, yes_pick}
use Rattle.base.proofs.Points.{both_true, true_both, all_intro}
use Rattle.rules_record.specs.declared.Instance.{Instance}
use Rattle.rules_record.specs.declared.Inputs.{Inputs}
use Rattle.base.specs.First.{first}
use Rattle.rules_record.specs.Inputs.{with_instances}
use Rattle.base.proofs.First.{first_before, first_missed, first_distinct}
use Rattle.rules_record.specs.Sized.{Sized}
use Rattle.base.proofs.Tests.{not_both}
use Rattle.rules_record.specs.Instances.{same_key, no_key, key_at, keys_held, holds_key, key_below, found_key, new_key_at, distinct_keys, made}
use Rattle.rules_record.specs.Prune.{wanted_key, keep_one, kept_keys, with_keys, pruned}
use Rattle.rules_record.proofs.InstanceCases.{held_most}

-- ---- one key
pub same_key_law : (a b : Instance) → same_key a b ≡ true → a ≡ b
unfolding same_key
same_key_law a b h =
    let e = both_true (eqb a.flow b.flow) (eqb a.inode b.inode) h in
    ap₂ (λ (x y : ℕ). record { flow = x; inode = y }) (eqb-true _ _ e.0) (eqb-true _ _ e.1)

pub key_same : (a : Instance) → same_key a a ≡ true
unfolding same_key
key_same a = true_both (eqb a.flow a.flow) (eqb a.inode a.inode) (eq-eqb a.flow a.flow refl) (eq-eqb a.inode a.inode refl)

-- ---- the test and what it says
unfoldable pub Distinct : Inputs → Type 0
Distinct s = (a b : ℕ) → a < keys_held s → b < keys_held s → key_at s a ≡ key_at s b → a ≡ b

pub keys_distinct : (s : Inputs) → distinct_keys s ≡ true → Distinct s
unfolding Distinct distinct_keys key_below
keys_distinct s h = first_distinct (key_at s) same_key key_same (keys_held s) h

pub distinct_keys_law : (s : Inputs) → Distinct s → distinct_keys s ≡ true
unfolding Distinct distinct_keys key_below
distinct_keys_law s d =
    all_intro (new_key_at s) (keys_held s)
    (λ b m. eq-eqb _ _ (first_missed (holds_key s (key_at s b)) b (λ a l. by_bool (same_key (key_at s a) (key_at s b)) (λ h. absurd (twice a b l m (same_key_law _ _ h))) (λ h. h))))
  where
    twice : (a b : ℕ) → a < b → b < keys_held s → key_at s a ≡ key_at s b → ⊥
    twice a b l m e = omega (arith, d a b (omega arith) m e)

-- ---- found
pub found_none : (s : Inputs) (key : Instance) → found_key s key ≡ false → (place : ℕ) → place < keys_held s → key_at s place ≡ key → ⊥
unfolding found_key key_below
found_none s key h place l e =
    let none : keys_held s ≤ first (holds_key s key) (keys_held s) = ltb-false _ _ h in
    not_both (ap (λ (x : Instance). same_key x key) e ∙ key_same key) (first_before (holds_key s key) (keys_held s) place (omega arith))

pub found_at : (s : Inputs) (key : Instance) (place : ℕ) → place < keys_held s → key_at s place ≡ key → found_key s key ≡ true
found_at s key place l e = by_bool (found_key s key) (λ h. h) (λ h. absurd (found_none s key h place l e))

-- ---- one more key, that was not there
-- a table of one place more, whose last key is new
apart_more : (f : ℕ → Instance) (n : ℕ) → ((a b : ℕ) → a < n → b < n → f a ≡ f b → a ≡ b) → ((a : ℕ) → a < n → f a ≡ f n → ⊥) → (a b : ℕ) → a < suc n → b < suc n → f a ≡ f b → a ≡ b
apart_more f n d new a b l m e =
    ⊎_elim
    (λ p. ⊎_elim (λ q. p ∙ sym q) (λ k. absurd (new b k (sym e ∙ ap f p))) (eq-or-lt_of_le (le_of_suc-le-suc m)))
    (λ j. ⊎_elim (λ q. absurd (new a j (e ∙ ap f q))) (λ k. d a b j k e) (eq-or-lt_of_le (le_of_suc-le-suc m)))
    (eq-or-lt_of_le (le_of_suc-le-suc l))

module _ (s : Inputs) (key : Instance) where
  abbrev next : Inputs
  next = with_instances s (set s.instances s.instance_count key) (s.instance_count + 1)

  next_last : s.instance_count < 18 → Sized s → key_at next s.instance_count ≡ key
  unfolding key_at
  next_last l h = yes_pick _ _ (lt-ltb _ _ l) ∙ get_or-set_same s.instances s.instance_count key no_key (rw h.instances l)

  next_before : (place : ℕ) → place < s.instance_count → key_at next place ≡ key_at s place
  unfolding key_at
  next_before place l = ap (λ (x : Instance). pick (ltb place 18) x no_key) (get_or-set_other s.instances s.instance_count place key no_key (λ e. omega arith))

  next_distinct : s.instance_count < 18 → Sized s → found_key s key ≡ false → Distinct s → Distinct next
  unfolding Distinct keys_held
  next_distinct room h none d a b l m e =
      apart_more (key_at next) s.instance_count
      (λ i j p q f. d i j (omega arith) (omega arith) (sym (next_before i p) ∙ f ∙ next_before j q))
      (λ i p f. found_none s key none i (omega arith) (sym (next_before i p) ∙ f ∙ next_last room h))
      a b (omega arith) (omega arith) e

  pub made_distinct : Sized s → found_key s key ≡ false → Distinct s → Distinct (made s key)
  unfolding made
  made_distinct h none d = lt_rule s.instance_count 18 _ _ Distinct (λ l. next_distinct l h none d) (λ l. d)

  pub made_sized : Sized s → Sized (made s key)
  unfolding made
  made_sized h = pick_all Sized (ltb s.instance_count 18) (record { slots = h.slots; flows = h.flows; instances = length-set s.instances _ _ ∙ h.instances }) h

  -- only the instance table changes
  pub made_rest : made s key ≡ with_instances s (made s key).instances (made s key).instance_count
  unfolding made
  made_rest = pick_all (λ (z : Inputs). z ≡ with_instances s z.instances z.instance_count) (ltb s.instance_count 18) refl refl

-- ---- pruned

module _ (s : Inputs) (extra : Option Instance) where
  -- a place is kept or goes
  pub kept_rule : (n : ℕ) (P : List Instance → Type 0) → P (kept_keys s extra n ++ (key_at s n ∷ [])) → P (kept_keys s extra n) → P (kept_keys s extra (suc n))
  unfolding kept_keys keep_one
  kept_rule n P p q = by_bool (wanted_key s extra (key_at s n)) (λ e. rw e p) (λ e. rw (e, append-nil) q)

  pub kept_length : (n : ℕ) → length (kept_keys s extra n) ≤ n
  unfolding kept_keys
  kept_length zero = omega arith
  kept_length (suc n) =
      let low : length (kept_keys s extra n) ≤ n = kept_length n in
      kept_rule n (λ l. length l ≤ suc n) (simp length-append (omega arith)) (omega arith)

  -- a key that none of the n places holds is not kept of them
  kept_absent : (n : ℕ) (key : Instance) → ((place : ℕ) → place < n → key_at s place ≡ key → ⊥) → (a : ℕ) → a < length (kept_keys s extra n) → get_or (kept_keys s extra n) a no_key ≡ key → ⊥
  unfolding kept_keys
  kept_absent zero key f a l e = absurd (omega arith)
  kept_absent (suc n) key f a l e =
      kept_rule n (λ keys. a < length keys → get_or keys a no_key ≡ key → ⊥)
      (added (kept_absent n key (λ place m. f place (omega arith))))
      (kept_absent n key (λ place m. f place (omega arith)) a)
      l e
    where
      added : ((a : ℕ) → a < length (kept_keys s extra n) → get_or (kept_keys s extra n) a no_key ≡ key → ⊥) → a < length (kept_keys s extra n ++ (key_at s n ∷ [])) → get_or (kept_keys s extra n ++ (key_at s n ∷ [])) a no_key ≡ key → ⊥
      added g m h =
          let most : a ≤ length (kept_keys s extra n) = omega (arith, length-append (kept_keys s extra n) (key_at s n ∷ [])) in
          ⊎_elim
          (λ q. f n (omega arith) (sym (get_or-append_seam (kept_keys s extra n) (key_at s n) [] no_key) ∙ sym (ap (λ (i : ℕ). get_or (kept_keys s extra n ++ (key_at s n ∷ [])) i no_key) q) ∙ h))
          (λ k. g a k (sym (get_or-append (kept_keys s extra n) (key_at s n ∷ []) no_key a k) ∙ h))
          (eq-or-lt_of_le most)

  -- distinct places give distinct keys
  Apart : List Instance → Type 0
  Apart keys = (a b : ℕ) → a < length keys → b < length keys → get_or keys a no_key ≡ get_or keys b no_key → a ≡ b

  apart_snoc : (keys : List Instance) (key : Instance) → Apart keys → ((a : ℕ) → a < length keys → get_or keys a no_key ≡ key → ⊥) → Apart (keys ++ (key ∷ []))
  unfolding Apart
  apart_snoc keys key d new a b l m e =
      let size : length (keys ++ (key ∷ [])) ≡ suc (length keys) = simp length-append (omega arith) in
      apart_more (λ i. get_or (keys ++ (key ∷ [])) i no_key) (length keys)
      (λ i j p q f. d i j p q (sym (get_or-append keys (key ∷ []) no_key i p) ∙ f ∙ get_or-append keys (key ∷ []) no_key j q))
      (λ i p f. new i p (sym (get_or-append keys (key ∷ []) no_key i p) ∙ f ∙ get_or-append_seam keys key [] no_key))
      a b (omega arith) (omega arith) e

  kept_apart : (n : ℕ) → n ≤ keys_held s → Distinct s → Apart (kept_keys s extra n)
  unfolding kept_keys Apart Distinct
  kept_apart zero l d = λ a b p q e. absurd (omega arith)
  kept_apart (suc n) l d =
      let low : Apart (kept_keys s extra n) = kept_apart n (omega arith) d in
      kept_rule n Apart (apart_snoc (kept_keys s extra n) (key_at s n) low (kept_absent n (key_at s n) (λ place m e. omega (arith, d place n (omega arith) l e)))) low

  pub pruned_count : (pruned s extra).instance_count ≡ length (kept_keys s extra (keys_held s))
  unfolding pruned with_keys
  pruned_count = refl

  pruned_most : length (kept_keys s extra (keys_held s)) ≤ 18
  pruned_most = omega (arith, kept_length (keys_held s), held_most s)

  pruned_held : keys_held (pruned s extra) ≡ length (kept_keys s extra (keys_held s))
  unfolding keys_held
  pruned_held = omega (arith, pruned_count, pruned_most)

  pub pruned_at : (place : ℕ) → place < length (kept_keys s extra (keys_held s)) → key_at (pruned s extra) place ≡ get_or (kept_keys s extra (keys_held s)) place no_key
  unfolding key_at pruned with_keys
  pruned_at place l =
      yes_pick _ _ (lt-ltb place 18 (omega (arith, pruned_most)))
      ∙ get_or-append (kept_keys s extra (keys_held s)) (replicate (18 - length (kept_keys s extra (keys_held s))) no_key) no_key place l

  pub pruned_distinct : Distinct s → Distinct (pruned s extra)
  unfolding Distinct Apart
  pruned_distinct d a b l m e =
      let p : a < length (kept_keys s extra (keys_held s)) = rw pruned_held at l in
      let q : b < length (kept_keys s extra (keys_held s)) = rw pruned_held at m in
      kept_apart (keys_held s) (omega arith) d a b p q (sym (pruned_at a p) ∙ e ∙ pruned_at b q)

  pub pruned_sized : Sized s → Sized (pruned s extra)
  unfolding pruned with_keys
  pruned_sized h = record { slots = h.slots; flows = h.flows; instances = simp (length-append, length-replicate) (omega (arith, pruned_most)) }

  -- only the instance table changes
  pub pruned_rest : pruned s extra ≡ with_instances s (pruned s extra).instances (pruned s extra).instance_count
  unfolding pruned with_keys
  pruned_rest = refl
