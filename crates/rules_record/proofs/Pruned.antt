-- Making an instance and pruning: a record that was checked stays so. Assumes nothing.
use Rattle.std.specs.Prelude.{◌≡◌, ℕ, zero, suc, ◌+◌, ◌-◌, ◌<◌, ◌≤◌, false, ltb, List, [], ◌∷◌, ◌++◌, length, get_or, replicate, Option}
use mathlib.Core.Path.{refl, sym, ap, subst, ◌∙◌}
use mathlib.Core.Logic.{⊎_elim}
use native.Mathlib.Nat.{eq-or-lt_of_le, le_of_suc-le-suc}
use native.Mathlib.Omega.{arith}
use lib.ListN.{length-append, get_or-append}
use lib.Seq.{get_or-set_same, get_or-set_other, get_or-append_seam, get_or-append-add}
use borrow.Author.Tests.{lt-ltb}
use Rattle.base.specs.Choice.{pick}
use Rattle.base.proofs.Choices.{lt_rule}
use Rattle.base.proofs.Points.{replicate_at}
use Rattle.rules_record.specs.declared.Instance.{Instance}
use Rattle.rules_record.specs.declared.Inputs.{Inputs}
use Rattle.rules_record.specs.Inputs.{slot_at, with_instances}
use Rattle.rules_record.specs.Sized.{Sized}
use Rattle.rules_record.specs.Flows.{entry_at, flow_at, known, place_below, distinct_flows}
use Rattle.rules_record.specs.Instances.{no_key, key_at, keys_held, found_key, made}
use Rattle.rules_record.specs.Prune.{kept_keys, with_keys, pruned}
use Rattle.rules_record.proofs.InstanceKeys.{Distinct, keys_distinct, distinct_keys_law, pruned_count, pruned_distinct, pruned_sized, pruned_rest, made_distinct, made_sized, made_rest, kept_rule, pruned_at}
use Rattle.rules_record.proofs.FewInstances.{pruned_few}
use Rattle.rules_record.specs.Lent.{Lists, buckets_in}
use Rattle.rules_record.specs.Facts.{WholeInput, WholeFlows, WholeInstances, Checked}

-- ---- the instance table is replaced by a whole one
module _ (s : Inputs) (l : Lists) (c : Checked s l) (instances : List Instance) (n : ℕ) where
  abbrev after : Inputs
  after = with_instances s instances n

  same_inputs : (i : ℕ) → i < s.count → WholeInput after l i
  unfolding slot_at buckets_in
  same_inputs i h =
      let w : WholeInput s l i = c.whole.inputs i h in
      record { window = w.window; sums = w.sums; hold = w.hold; slot = w.slot }

  same_flows : WholeFlows after
  unfolding distinct_flows known flow_at entry_at place_below
  same_flows = record { most = c.whole.flows.most; distinct = c.whole.flows.distinct; unused = c.whole.flows.unused }

  pub instances_keep : length instances ≡ 18 → WholeInstances after → Checked after l
  unfolding slot_at buckets_in
  instances_keep long whole = record {
    fitting = record { allowed = c.fitting.allowed; long = c.fitting.long };
    sized = record { slots = c.sized.slots; flows = c.sized.flows; instances = long };
    whole = record { inputs = same_inputs; unused = c.whole.unused; flows = same_flows; instances = whole };
  }

-- ---- what is kept was in the table

module _ (s : Inputs) (extra : Option Instance) where
  kept_all : (P : Instance → Type 0) (n : ℕ) → ((place : ℕ) → place < n → P (key_at s place)) → (a : ℕ) → a < length (kept_keys s extra n) → P (get_or (kept_keys s extra n) a no_key)
  unfolding kept_keys
  kept_all P zero f a h = absurd (omega arith)
  kept_all P (suc n) f a h =
      let low : (b : ℕ) → b < length (kept_keys s extra n) → P (get_or (kept_keys s extra n) b no_key) = kept_all P n (λ place m. f place (omega arith)) in
      kept_rule s extra n (λ keys. a < length keys → P (get_or keys a no_key)) (added low) (low a) h
    where
      added : ((b : ℕ) → b < length (kept_keys s extra n) → P (get_or (kept_keys s extra n) b no_key)) → a < length (kept_keys s extra n ++ (key_at s n ∷ [])) → P (get_or (kept_keys s extra n ++ (key_at s n ∷ [])) a no_key)
      added low m =
          let most : a ≤ length (kept_keys s extra n) = omega (arith, length-append (kept_keys s extra n) (key_at s n ∷ [])) in
          ⊎_elim
          (λ e. subst P (sym (ap (λ (i : ℕ). get_or (kept_keys s extra n ++ (key_at s n ∷ [])) i no_key) e ∙ get_or-append_seam (kept_keys s extra n) (key_at s n) [] no_key)) (f n (omega arith)))
          (λ k. subst P (sym (get_or-append (kept_keys s extra n) (key_at s n ∷ []) no_key a k)) (low a k))
          (eq-or-lt_of_le most)

  pruned_past : (place : ℕ) → length (kept_keys s extra (keys_held s)) ≤ place → key_at (pruned s extra) place ≡ no_key
  unfolding key_at pruned with_keys
  pruned_past place h =
      lt_rule place 18 _ _ (λ x. x ≡ no_key)
      (λ k.
      let e : length (kept_keys s extra (keys_held s)) + (place - length (kept_keys s extra (keys_held s))) ≡ place = omega arith in
      rw e at (get_or-append-add (kept_keys s extra (keys_held s)) (replicate (18 - length (kept_keys s extra (keys_held s))) no_key) (place - length (kept_keys s extra (keys_held s))) no_key)
      ∙ replicate_at (18 - length (kept_keys s extra (keys_held s))) (place - length (kept_keys s extra (keys_held s))) no_key)
      (λ k. refl)

  -- distinct keys of known flows are whole after a prune
  pub pruned_whole : Distinct s → ((place : ℕ) → place < keys_held s → (key_at s place).flow < s.flow_count) → WholeInstances (pruned s extra)
  pruned_whole d f =
      let count : (pruned s extra).instance_count ≡ length (kept_keys s extra (keys_held s)) = pruned_count s extra in
      let flows : (pruned s extra).flow_count ≡ s.flow_count = ap (λ (z : Inputs). z.flow_count) (pruned_rest s extra) in
      record {
        most = pruned_few s extra d;
        distinct = distinct_keys_law (pruned s extra) (pruned_distinct s extra d);
        known = λ place h. omega (arith, flows, ap (λ (x : Instance). x.flow) (pruned_at s extra place (rw count at h)), kept_all (λ key. key.flow < s.flow_count) (keys_held s) f place (rw count at h));
        unused = λ place h. pruned_past place (rw count at h);
      }

-- ---- an instance is made
module _ (s : Inputs) (key : Instance) (sized : Sized s) (few : s.instance_count < 18) where
  made_here : key_at (made s key) s.instance_count ≡ key
  unfolding key_at made
  made_here = rw (lt-ltb s.instance_count 18 few) (get_or-set_same s.instances s.instance_count key no_key (rw sized.instances few))

  made_before : (place : ℕ) → place < s.instance_count → key_at (made s key) place ≡ key_at s place
  unfolding key_at made
  made_before place h = rw (lt-ltb s.instance_count 18 few) (ap (λ (x : Instance). pick (ltb place 18) x no_key) (get_or-set_other s.instances s.instance_count place key no_key (λ e. omega arith)))

  made_held : keys_held (made s key) ≡ suc s.instance_count
  unfolding keys_held made
  made_held = rw (lt-ltb s.instance_count 18 few) (omega arith)

  made_flows : (made s key).flow_count ≡ s.flow_count
  made_flows = ap (λ (z : Inputs). z.flow_count) (made_rest s key)

  made_known : key.flow < s.flow_count → ((place : ℕ) → place < s.instance_count → (key_at s place).flow < s.flow_count) → (place : ℕ) → place < keys_held (made s key) → (key_at (made s key) place).flow < (made s key).flow_count
  made_known new old place h =
      ⊎_elim
      (λ e. omega (arith, made_flows, new, ap (λ (x : ℕ). (key_at (made s key) x).flow) e, ap (λ (x : Instance). x.flow) made_here))
      (λ k. omega (arith, made_flows, old place k, ap (λ (x : Instance). x.flow) (made_before place k)))
      (eq-or-lt_of_le (le_of_suc-le-suc (rw made_held at h)))

-- ---- the record stays checked
module _ (s : Inputs) (l : Lists) (c : Checked s l) (extra : Option Instance) where
  held_count_law : keys_held s ≡ s.instance_count
  unfolding keys_held
  held_count_law = omega (arith, c.whole.instances.most)

  pub prune_keeps : Checked (pruned s extra) l
  prune_keeps =
      subst (λ (z : Inputs). Checked z l) (sym (pruned_rest s extra))
      (instances_keep s l c (pruned s extra).instances (pruned s extra).instance_count (pruned_sized s extra c.sized).instances
      (subst WholeInstances (pruned_rest s extra)
      (pruned_whole s extra (keys_distinct s c.whole.instances.distinct) (λ place h. c.whole.instances.known place (rw held_count_law at h)))))

  -- a new instance of a known flow, then a prune: between the two there may be 18
  pub make_keeps : (key : Instance) → found_key s key ≡ false → key.flow < s.flow_count → Checked (pruned (made s key) extra) l
  make_keeps key none known =
      let few : s.instance_count < 18 = omega (arith, c.whole.instances.most) in
      let rest : pruned (made s key) extra ≡ with_instances s (pruned (made s key) extra).instances (pruned (made s key) extra).instance_count =
      pruned_rest (made s key) extra ∙ ap (λ (z : Inputs). with_instances z (pruned (made s key) extra).instances (pruned (made s key) extra).instance_count) (made_rest s key) in
      subst (λ (z : Inputs). Checked z l) (sym rest)
      (instances_keep s l c (pruned (made s key) extra).instances (pruned (made s key) extra).instance_count (pruned_sized (made s key) extra (made_sized s key c.sized)).instances
      (subst WholeInstances rest
      (pruned_whole (made s key) extra (made_distinct s key c.sized none (keys_distinct s c.whole.instances.distinct)) (made_known s key c.sized few known c.whole.instances.known))))
