-- The definitions of the instance table as the code comes to them. Assumes nothing.
use Rattle.std.specs.Prelude.{◌≡◌, ℕ, zero, suc, ◌+◌, ◌-◌, ◌<◌, ◌≤◌, Bool, true, false, not, nat_lt, take, List, [], ◌∷◌, ◌++◌, length, get_or, drop, set, replicate, None, Option, Some}
use Rattle.std.specs.List.{list_any}
use Rattle.std.specs.Option.{option_eq}
use Rattle.std.proofs.lemmas.List.{get_or-take, length-take-le, take-take, take_all}
use mathlib.Core.Path.{refl, sym, ap, ap₂, ◌∙◌}
use mathlib.Core.List.{append-nil}
use native.Mathlib.Nat.{add-zero, zero-add, add-suc, suc-add, sub-zero, zero-sub, suc-sub-suc}
use native.Mathlib.Numerals.{add-one}
use native.Mathlib.Omega.{arith}
use lib.ListN.{length-append, length-replicate}
use lib.Seq.{sets, sets-eq}
use borrow.Author.Tests.{lt-ltb}
use Rattle.base.specs.Choice.{pick}
use Rattle.base.specs.First.{first}
use Rattle.base.specs.Any.{any}
use Rattle.base.proofs.Choices.{yes_pick, no_pick}
use Rattle.base.specs.Lists.{all}
use Rattle.base.proofs.All.{all_more, all_stop, all_end}
use Rattle.base.proofs.Any.{any_cong}
use Rattle.rules_record.specs.contracts.InstancePartialEq.TheImpl as instance
use Rattle.rules_record.proofs.Derived.{key_eq, extra_eq}
use Rattle.rules_record.proofs.Searched.{any_places, first_of_any, any_of_first}
use Rattle.rules_record.specs.declared.Instance.{Instance}
use Rattle.rules_record.specs.declared.Inputs.{Inputs}
use Rattle.rules_record.specs.Inputs.{slot_at, with_instances}
use Rattle.rules_record.specs.Instances.{same_key, no_key, key_at, keys_held, key_below, found_key, distinct_keys, new_key_at}
use Rattle.rules_record.specs.Prune.{uses_key, any_uses, is_extra, wanted_key, keep_one, kept_keys, with_keys, pruned}

pub held_most : (s : Inputs) → keys_held s ≤ 18
unfolding keys_held
held_most s = omega arith

-- the loops read the table alone: of its places the first that holds the key
module _ (s : Inputs) where
  pub table_key : (place : ℕ) → place < 18 → get_or s.instances place no_key ≡ key_at s place
  unfolding key_at
  table_key place l = sym (yes_pick _ _ (lt-ltb _ _ l))

-- what the code's searches tell of the table
module _ (s : Inputs) (wide : length s.instances ≡ 18) {n : ℕ} (e : n ≡ keys_held s) where
  few : n ≤ 18
  few = rw e (held_most s)

  pub found_by : (key : Instance) {r : Bool} → r ≡ list_any (λ (x : Instance). (instance.eq-value).it x key) (take n s.instances) → r ≡ found_key s key
  unfolding found_key key_below
  found_by key h =
      h
      ∙ any_places _ s.instances no_key n (rw wide few)
      ∙ any_cong _ _ n (λ k l. key_eq (get_or s.instances k no_key) key ∙ ap (λ (at : Instance). same_key at key) (table_key s k (omega (arith, few, l))))
      ∙ any_of_first (λ k. same_key (key_at s k) key) n
      ∙ ap (λ (m : ℕ). nat_lt (first (λ k. same_key (key_at s k) key) m) m) e

  module _ {i : ℕ} (l : i < length (take n s.instances)) {r : Bool} (h : r ≡ list_any (λ (x : Instance). (instance.eq-value).it x (get_or (take n s.instances) i no_key)) (take i (take n s.instances))) where
    within : i < n
    within = rw (length-take-le n s.instances (rw wide few)) at l

    here : get_or (take n s.instances) i no_key ≡ key_at s i
    here = get_or-take n s.instances i no_key within ∙ table_key s i (omega (arith, few, within))

    told : new_key_at s i ≡ not r
    unfolding key_below
    told =
        first_of_any _ i
        ∙ ap not
        (sym
        (h
        ∙ ap (list_any (λ (x : Instance). (instance.eq-value).it x (get_or (take n s.instances) i no_key))) (take-take i n s.instances (omega (arith, within)))
        ∙ any_places _ s.instances no_key i (rw wide (omega (arith, few, within)))
        ∙ any_cong _ _ i (λ k m. key_eq (get_or s.instances k no_key) _ ∙ ap₂ same_key (table_key s k (omega (arith, few, within))) here)))

    pub told_new : r ≡ false → all (new_key_at s) i ≡ true → all (new_key_at s) (i + 1) ≡ true
    told_new g before = all_more _ _ before (told ∙ ap not g)

    pub told_twice : r ≡ true → false ≡ distinct_keys s
    unfolding distinct_keys
    told_twice g = all_stop _ _ i (rw (← e) within) (told ∙ ap not g)

  pub told_distinct : {i : ℕ} → all (new_key_at s) i ≡ true → i ≤ length (take n s.instances) → length (take n s.instances) ≤ i → true ≡ distinct_keys s
  unfolding distinct_keys
  told_distinct {i} h k l = all_end _ _ i h (rw (← e, ← length-take-le n s.instances (rw wide few)) k) (rw (← e, ← length-take-le n s.instances (rw wide few)) l)

-- what the code asks of all that the inputs read
pub told_read : (read : List (Option Instance)) → length read ≡ 16 → (key : Instance) {r : Bool} → r ≡ list_any (λ (x : Option Instance). option_eq (instance.eq-value).it x (Some key)) read → r ≡ any (λ i. is_extra (get_or read i None) key) 16
told_read read wide key h =
    h
    ∙ ap (list_any (λ (x : Option Instance). option_eq (instance.eq-value).it x (Some key))) (sym (take_all 16 read (omega (arith, wide))))
    ∙ any_places _ read None 16 (omega (arith, wide))
    ∙ any_cong _ _ 16 (λ i l. extra_eq (get_or read i None) key)

-- ---- what the inputs read
-- what the code asks of a key is whether it is wanted
pub told_wanted : (s : Inputs) (extra : Option Instance) (key : Instance) (read : List (Option Instance)) {r : Bool} → ((i : ℕ) (key : Instance) → i < 16 → is_extra (get_or read i None) key ≡ uses_key (slot_at s i) key) → r ≡ pick (is_extra extra key) true (any (λ i. is_extra (get_or read i None) key) 16) → r ≡ wanted_key s extra key
unfolding wanted_key any_uses
told_wanted s extra key read f h = h ∙ ap (pick (is_extra extra key) true) (any_cong _ _ 16 (λ i l. f i key l))

-- ---- pruning, place by place

-- what is stored after the keys stands after them
sets_more : {A : Type 0} (l : List A) (u : ℕ) (vs : List A) (a : A) → set (sets l u vs) (u + length vs) a ≡ sets l u (vs ++ (a ∷ []))
sets_more l u [] a = rw add-zero
sets_more l u (b ∷ vs) a = rw (add-suc u (length vs), ← suc-add u (length vs)) (sets_more (set l u b) (suc u) vs a)

abbrev unused : List Instance
unused = replicate 18 no_key

pub record Pruning (s : Inputs) (extra : Option Instance) (n i : ℕ) (kept : List Instance) (count : ℕ) : Type 0 where
  pub within : i ≤ n
  pub stored : kept ≡ sets unused 0 (kept_keys s extra i)
  pub counted : count ≡ length (kept_keys s extra i)
  pub few : count ≤ i

pub prune_start : (s : Inputs) (extra : Option Instance) (n : ℕ) → Pruning s extra n 0 unused 0
unfolding kept_keys
prune_start s extra n = record { within = omega arith; stored = refl; counted = refl; few = omega arith }

module _ {s : Inputs} {extra : Option Instance} {n i : ℕ} {kept : List Instance} {count : ℕ} (v : Pruning s extra n i kept count) (l : i < n) {key : Instance} (at : key ≡ key_at s i) {r : Bool} (told : r ≡ wanted_key s extra key) where
  told_here : wanted_key s extra (key_at s i) ≡ r
  told_here = ap (wanted_key s extra) (sym at) ∙ sym told

  pub prune_keeps : r ≡ true → {kept' : List Instance} {count' : ℕ} → kept' ≡ set kept count key → count' ≡ count + 1 → Pruning s extra n (i + 1) kept' count'
  unfolding kept_keys keep_one
  prune_keeps h a b =
      let keys : List Instance = kept_keys s extra i in
      let e : kept_keys s extra (i + 1) ≡ keys ++ (key_at s i ∷ []) = rw (add-one i) (ap (λ (x : List Instance). keys ++ x) (yes_pick _ _ (told_here ∙ h))) in
      record {
        within = omega arith;
        stored =
            a
            ∙ ap (λ (x : List Instance). set x count key) v.stored
            ∙ ap (λ (m : ℕ). set (sets unused 0 keys) m key) (v.counted ∙ sym (zero-add (length keys)))
            ∙ ap (set (sets unused 0 keys) (0 + length keys)) at
            ∙ sets_more unused 0 keys (key_at s i)
            ∙ ap (sets unused 0) (sym e);
        counted = b ∙ ap (λ (m : ℕ). m + 1) v.counted ∙ sym (length-append keys (key_at s i ∷ [])) ∙ ap length (sym e);
        few = omega (arith, b, v.few);
      }

  pub prune_drops : r ≡ false → {kept' : List Instance} {count' : ℕ} → kept' ≡ kept → count' ≡ count → Pruning s extra n (i + 1) kept' count'
  unfolding kept_keys keep_one
  prune_drops h a b =
      let keys : List Instance = kept_keys s extra i in
      let e : kept_keys s extra (i + 1) ≡ keys = rw (add-one i) (ap (λ (x : List Instance). keys ++ x) (no_pick _ _ (told_here ∙ h)) ∙ append-nil keys) in
      record {
        within = omega arith;
        stored = a ∙ v.stored ∙ ap (sets unused 0) (sym e);
        counted = b ∙ v.counted ∙ ap length (sym e);
        few = omega (arith, b, v.few);
      }

drop_unused : (k m : ℕ) → drop k (replicate m no_key) ≡ replicate (m - k) no_key
drop_unused zero m = rw (sub-zero m)
drop_unused (suc k) zero = rw (zero-sub (suc k))
drop_unused (suc k) (suc m) = rw (suc-sub-suc m k) (drop_unused k m)

laid : (keys : List Instance) → length keys ≤ 18 → sets unused 0 keys ≡ keys ++ replicate (18 - length keys) no_key
laid keys h =
    sets-eq keys unused 0 (rw (zero-add (length keys), length-replicate 18 no_key) h)
    ∙ ap (λ (k : ℕ). keys ++ drop k unused) (zero-add (length keys))
    ∙ ap (λ (x : List Instance). keys ++ x) (drop_unused (length keys) 18)

pub prune_ends : {s : Inputs} {extra : Option Instance} {n i : ℕ} {kept : List Instance} {count : ℕ} → Pruning s extra n i kept count → n ≤ i → n ≡ keys_held s → with_instances s kept count ≡ pruned s extra
unfolding pruned with_keys
prune_ends {s} {extra} {n} {i} {kept} {count} v h e =
    let q : i ≡ keys_held s = omega (arith, v.within) in
    let keys : List Instance = kept_keys s extra (keys_held s) in
    let b : count ≡ length keys = v.counted ∙ ap (λ (m : ℕ). length (kept_keys s extra m)) q in
    let a : kept ≡ keys ++ replicate (18 - length keys) no_key = v.stored ∙ ap (λ (m : ℕ). sets unused 0 (kept_keys s extra m)) q ∙ laid keys (omega (arith, v.few, b, q, held_most s)) in
    rw (a, b)
