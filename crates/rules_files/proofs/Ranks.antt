-- The remembered delays of a flow table in the order of their flows: each rank is taken, the flows rise. Assumes nothing.
use Rattle.std.specs.Prelude.{None, Option, Some}
use Prim.Native.Nat.{ℕ, zero, suc, ◌+◌, ◌-◌, ◌<◌, ◌≤◌}
use mathlib.Core.Bool.{Bool, true, false}
use mathlib.Core.Path.{◌≡◌, refl, sym, ap, ap₂, ◌∙◌}
use mathlib.Core.Logic.{◌⊎◌, inl, inr, ⊎_elim}
use mathlib.Core.List.{List}
use native.Mathlib.Nat.{eq-or-lt_of_le, le_of_suc-le-suc}
use native.Mathlib.Omega.{arith}
use lib.Dec.{eqb}
use borrow.Author.Tests.{eq-eqb, eqb-true, le-ltb}
use Rattle.base.specs.Choice.{both}
use Rattle.base.specs.Lists.{sum}
use Rattle.base.proofs.Choices.{yes_pick, no_pick, by_le, by_bool}
use Rattle.base.proofs.Points.{both_true, true_both, sum_zero, sum_bump, all_intro}
use Rattle.base.proofs.Tests.{not_both}
use Rattle.rules_record.specs.declared.Flow.{Flow}
use Rattle.rules_record.specs.declared.FlowEntry.{FlowEntry}
use Rattle.rules_record.specs.Flows.{empty_entry}
use Rattle.rules_files.specs.Files.{lower_flow, rises, Widths}
use Rattle.rules_files.specs.Table.{has_delay, delay_of, flow_of, held, one, held_count, held_below, rank, ranked_below, sorted_flow, sorted_delay, TableWidths}
use Rattle.rules_files.proofs.FlowOrder.{lower_trans, lower_by_high, lower_by_low, lower_never, lower_self}

-- two flows are the same, or one is lower
pub three : {C : Type 0} (a b : Flow) → (lower_flow a b ≡ true → C) → (a ≡ b → C) → (lower_flow b a ≡ true → C) → C
three a b f g h =
    by_le a.high b.high
    (λ l. ⊎_elim
    (λ e. by_le a.low b.low
    (λ m. ⊎_elim (λ q. g (ap₂ (λ (x y : ℕ). record { high = x; low = y }) e q)) (λ q. f (lower_by_low a b e q)) (eq-or-lt_of_le m))
    (λ m. h (lower_by_low b a (sym e) m)))
    (λ m. f (lower_by_high a b m)) (eq-or-lt_of_le l))
    (λ l. h (lower_by_high b a l))

sum_mono : (f g : ℕ → ℕ) (n : ℕ) → ((q : ℕ) → f q ≤ g q) → sum f n ≤ sum g n
unfolding sum
sum_mono f g zero h = omega arith
sum_mono f g (suc n) h = omega (arith, sum_mono f g n h, h n)

sum_less : (f g : ℕ → ℕ) (n j : ℕ) → ((q : ℕ) → f q ≤ g q) → j < n → f j < g j → sum f n < sum g n
unfolding sum
sum_less f g zero j h l m = absurd (omega arith)
sum_less f g (suc n) j h l m = ⊎_elim (λ e. let w : f n < g n = rw e at m in omega (arith, sum_mono f g n h, w)) (λ k. omega (arith, sum_less f g n j h k m, h n)) (eq-or-lt_of_le (le_of_suc-le-suc l))

-- the greatest of the places below m that pass a test
record Greatest (table : List FlowEntry) (p : ℕ → Bool) (m : ℕ) : Type 0 where
  pub place : ℕ
  pub within : place < m
  pub passes : p place ≡ true
  pub top : (q : ℕ) → q < m → p q ≡ true → lower_flow (flow_of table place) (flow_of table q) ≡ false

greatest : (table : List FlowEntry) (p : ℕ → Bool) (m : ℕ) → ((q : ℕ) → q < m → p q ≡ false) ⊎ Greatest table p m
greatest table p zero = inl (λ q l. absurd (omega arith))
greatest table p (suc m) =
    by_bool (p m)
    (λ y. ⊎_elim (λ none. inr (alone y none)) (λ g. inr (joined y g)) (greatest table p m))
    (λ n. ⊎_elim (λ none. inl (λ q l. ⊎_elim (λ e. ap p e ∙ n) (λ k. none q k) (eq-or-lt_of_le (le_of_suc-le-suc l)))) (λ g. inr (kept n g)) (greatest table p m))
  where
    alone : p m ≡ true → ((q : ℕ) → q < m → p q ≡ false) → Greatest table p (suc m)
    alone y none = record { place = m; within = omega arith; passes = y; top = λ q l t. ⊎_elim (λ e. rw e (lower_self (flow_of table m))) (λ k. absurd (not_both t (none q k))) (eq-or-lt_of_le (le_of_suc-le-suc l)) }

    kept : p m ≡ false → Greatest table p m → Greatest table p (suc m)
    kept n g = record { place = g.place; within = omega (arith, g.within); passes = g.passes; top = λ q l t. ⊎_elim (λ e. absurd (not_both t (ap p e ∙ n))) (λ k. g.top q k t) (eq-or-lt_of_le (le_of_suc-le-suc l)) }

    joined : p m ≡ true → Greatest table p m → Greatest table p (suc m)
    joined y g =
        by_bool (lower_flow (flow_of table g.place) (flow_of table m))
        (λ up. record { place = m; within = omega arith; passes = y; top = λ q l t. ⊎_elim (λ e. rw e (lower_self (flow_of table m))) (λ k. under up q k t) (eq-or-lt_of_le (le_of_suc-le-suc l)) })
        (λ no. record { place = g.place; within = omega (arith, g.within); passes = g.passes; top = λ q l t. ⊎_elim (λ e. rw e no) (λ k. g.top q k t) (eq-or-lt_of_le (le_of_suc-le-suc l)) })
      where
        under : lower_flow (flow_of table g.place) (flow_of table m) ≡ true → (q : ℕ) → q < m → p q ≡ true → lower_flow (flow_of table m) (flow_of table q) ≡ false
        under up q k t = by_bool (lower_flow (flow_of table m) (flow_of table q)) (λ z. absurd (not_both (lower_trans _ _ _ up z) (g.top q k t))) (λ z. z)

-- no two places with a delay have one flow
abbrev pub Apart : List FlowEntry → Type 0
Apart table = (p q : ℕ) → p < 64 → q < 64 → held table p ≡ true → held table q ≡ true → flow_of table p ≡ flow_of table q → p ≡ q

-- a place of this rank
pub record Ranked (table : List FlowEntry) (k : ℕ) : Type 0 where
  pub place : ℕ
  pub within : place < 64
  pub there : held table place ≡ true
  pub is : rank table (flow_of table place) ≡ k

-- only a place of the table has a delay
inside : (table : List FlowEntry) (q : ℕ) → held table q ≡ true → q < 64
unfolding held empty_entry
inside table q h = by_le 64 q (λ l. absurd (not_both h (ap (λ (x : FlowEntry). has_delay x.remembered) (no_pick _ _ (le-ltb q 64 l))))) (λ l. l)

module _ (table : List FlowEntry) (apart : Apart table) where
  -- of a test that passes with a place every lower one, each rank below the number that pass is taken
  taken : (m : ℕ) (p : ℕ → Bool) → ((q : ℕ) → p q ≡ true → held table q ≡ true) → ((q r : ℕ) → p q ≡ true → held table r ≡ true → lower_flow (flow_of table r) (flow_of table q) ≡ true → p r ≡ true)
      → sum (λ q. one (p q)) 64 ≡ m → (k : ℕ) → k < m → Ranked table k
  unfolding rank
  taken zero p sub down e k l = absurd (omega arith)
  taken (suc m) p sub down e k l =
      ⊎_elim
      (λ none. absurd (omega (arith, e, sum_zero (λ q. one (p q)) 64 (λ q i. ap one (none q i)))))
      (λ g. ⊎_elim (λ i. found g i) (λ i. taken m (held_below table (flow_of table g.place)) (λ q t. (both_true _ _ t).0) (λ q r t h u. true_both _ _ h (lower_trans _ _ _ u (both_true _ _ t).1)) (size g) k i) (eq-or-lt_of_le (le_of_suc-le-suc l)))
      (greatest table p 64)
    where
      others : (g : Greatest table p 64) → (q : ℕ) → (q ≡ g.place → ⊥) → one (p q) ≡ one (held_below table (flow_of table g.place) q)
      others g q off =
          by_bool (p q)
          (λ y. let hq : held table q ≡ true = sub q y in
          let qi : q < 64 = inside table q hq in
          three (flow_of table q) (flow_of table g.place)
          (λ u. ap one (y ∙ sym (true_both _ _ hq u)))
          (λ e. absurd (off (apart q g.place qi g.within hq (sub g.place g.passes) e)))
          (λ u. absurd (not_both u (g.top q qi y))))
          (λ n. by_bool (held_below table (flow_of table g.place) q)
          (λ t. let w = both_true _ _ t in absurd (not_both (down g.place q g.passes w.0 w.1) n))
          (λ t. ap one (n ∙ sym t)))

      own : (g : Greatest table p 64) → held_below table (flow_of table g.place) g.place ≡ false
      own g = by_bool (held_below table (flow_of table g.place) g.place) (λ t. absurd (lower_never _ (both_true _ _ t).1)) (λ t. t)

      size : (g : Greatest table p 64) → sum (λ q. one (held_below table (flow_of table g.place) q)) 64 ≡ m
      size g =
          let bump = sum_bump (λ q. one (held_below table (flow_of table g.place) q)) (λ q. one (p q)) 64 g.place g.within (ap one g.passes ∙ ap (λ (b : Bool). one b + 1) (sym (own g))) (λ q off. others g q off) in
          omega (arith, bump, e)

      found : Greatest table p 64 → k ≡ m → Ranked table k
      found g i = record { place = g.place; within = g.within; there = sub g.place g.passes; is = size g ∙ sym i }

  pub each_rank : (k : ℕ) → k < held_count table → Ranked table k
  unfolding held_count
  each_rank k l = taken (held_count table) (held table) (λ q t. t) (λ q r t h u. h) refl k l

  -- the place that the writer finds has the rank
  finds : (m k : ℕ) (r : Ranked table k) → r.place < m → (ranked_below m table k < m) × (held table (ranked_below m table k) ≡ true) × (rank table (flow_of table (ranked_below m table k)) ≡ k)
  unfolding ranked_below
  finds zero k r l = absurd (omega arith)
  finds (suc m) k r l =
      by_bool (both (held table m) (eqb (rank table (flow_of table m)) k))
      (λ y. let w = both_true _ _ y in rw (yes_pick {A = ℕ} {b = both (held table m) (eqb (rank table (flow_of table m)) k)} m (ranked_below m table k) y) (omega arith, w.0, eqb-true _ _ w.1))
      (λ n. let i = finds m k r (⊎_elim (λ e. absurd (not_both (true_both _ _ (ap (held table) (sym e) ∙ r.there) (eq-eqb _ _ (ap (λ (x : ℕ). rank table (flow_of table x)) (sym e) ∙ r.is))) n)) (λ j. j) (eq-or-lt_of_le (le_of_suc-le-suc l))) in
      rw (no_pick {A = ℕ} {b = both (held table m) (eqb (rank table (flow_of table m)) k)} m (ranked_below m table k) n) (omega (arith, i.0), i.1, i.2))

  lower_rank : (p q : ℕ) → rank table (flow_of table p) < rank table (flow_of table q) → lower_flow (flow_of table p) (flow_of table q) ≡ true
  unfolding rank
  lower_rank p q l =
      three (flow_of table p) (flow_of table q) (λ u. u)
      (λ e. absurd (let w : rank table (flow_of table p) ≡ rank table (flow_of table q) = ap (λ (f : Flow). sum (λ r. one (held_below table f r)) 64) e in omega (arith, w, l)))
      (λ u. absurd (let w : rank table (flow_of table q) ≤ rank table (flow_of table p) = sum_mono (λ r. one (held_below table (flow_of table q) r)) (λ r. one (held_below table (flow_of table p) r)) 64 (λ r. fewer r u) in omega (arith, w, l)))
    where
      fewer : (r : ℕ) → lower_flow (flow_of table q) (flow_of table p) ≡ true → one (held_below table (flow_of table q) r) ≤ one (held_below table (flow_of table p) r)
      fewer r u =
          by_bool (held_below table (flow_of table q) r)
          (λ t. let w = both_true _ _ t in let z : held_below table (flow_of table p) r ≡ true = true_both _ _ w.0 (lower_trans _ _ _ w.1 u) in omega (arith, ap one t, ap one z))
          (λ t. omega (arith, ap one t))

  less_rank : (p q : ℕ) → held table p ≡ true → p < 64 → lower_flow (flow_of table p) (flow_of table q) ≡ true → rank table (flow_of table p) < rank table (flow_of table q)
  unfolding rank
  less_rank p q h i u = sum_less (λ r. one (held_below table (flow_of table p) r)) (λ r. one (held_below table (flow_of table q) r)) 64 p fewer i (omega (arith, ap one own, ap one up))
    where
      fewer : (r : ℕ) → one (held_below table (flow_of table p) r) ≤ one (held_below table (flow_of table q) r)
      fewer r =
          by_bool (held_below table (flow_of table p) r)
          (λ t. let w = both_true _ _ t in let z : held_below table (flow_of table q) r ≡ true = true_both _ _ w.0 (lower_trans _ _ _ w.1 u) in omega (arith, ap one t, ap one z))
          (λ t. omega (arith, ap one t))

      own : held_below table (flow_of table p) p ≡ false
      own = by_bool (held_below table (flow_of table p) p) (λ t. absurd (lower_never _ (both_true _ _ t).1)) (λ t. t)

      up : held_below table (flow_of table q) p ≡ true
      up = true_both _ _ h u

  -- the flows that the writer writes rise strictly
  pub sorted_rises : rises (sorted_flow table) (held_count table) ≡ true
  unfolding rises sorted_flow
  sorted_rises =
      all_intro _ (held_count table - 1)
      (λ k l.
      let a = each_rank k (omega arith) in
      let b = each_rank (k + 1) (omega arith) in
      lower_rank (ranked_below 64 table k) (ranked_below 64 table (k + 1)) (omega (arith, (finds 64 k a a.within).2, (finds 64 (k + 1) b b.within).2)))

  -- every remembered delay is written: at its rank
  pub sorted_at : (p : ℕ) → held table p ≡ true → (rank table (flow_of table p) < held_count table) × (ranked_below 64 table (rank table (flow_of table p)) ≡ p)
  unfolding rank held_count
  sorted_at p h = (ranks_within, same)
    where
      i : p < 64
      i = inside table p h

      fewer : (q : ℕ) → one (held_below table (flow_of table p) q) ≤ one (held table q)
      fewer q = by_bool (held_below table (flow_of table p) q) (λ t. omega (arith, ap one t, ap one (both_true _ _ t).0)) (λ t. omega (arith, ap one t))

      own : held_below table (flow_of table p) p ≡ false
      own = by_bool (held_below table (flow_of table p) p) (λ t. absurd (lower_never _ (both_true _ _ t).1)) (λ t. t)

      ranks_within : rank table (flow_of table p) < held_count table
      ranks_within = sum_less (λ q. one (held_below table (flow_of table p) q)) (λ q. one (held table q)) 64 p fewer i (omega (arith, ap one own, ap one h))

      same : ranked_below 64 table (rank table (flow_of table p)) ≡ p
      same =
          let f = finds 64 (rank table (flow_of table p)) (record { place = p; within = i; there = h; is = refl }) i in
          three (flow_of table (ranked_below 64 table (rank table (flow_of table p)))) (flow_of table p)
          (λ u. absurd (omega (arith, f.2, less_rank (ranked_below 64 table (rank table (flow_of table p))) p f.1 f.0 u)))
          (λ e. apart _ _ f.0 i f.1 h e)
          (λ u. absurd (omega (arith, f.2, less_rank p (ranked_below 64 table (rank table (flow_of table p))) h i u)))

  -- and nothing else is: each place that is written has a delay
  pub sorted_held : (k : ℕ) → k < held_count table → held table (ranked_below 64 table k) ≡ true
  sorted_held k l = let a = each_rank k l in (finds 64 k a a.within).1

-- at most 64 delays, the most that a file holds
ones_most : (table : List FlowEntry) (n : ℕ) → sum (λ q. one (held table q)) n ≤ n
unfolding sum
ones_most table zero = omega arith
ones_most table (suc n) = by_bool (held table n) (λ y. omega (arith, ones_most table n, ap one y)) (λ z. omega (arith, ones_most table n, ap one z))

pub held_most : (table : List FlowEntry) → held_count table ≤ 64
unfolding held_count
held_most table = ones_most table 64

pub delay_held : (r : Option ℕ) → has_delay r ≡ true → r ≡ Some (delay_of r)
delay_held None h = absurd (not_both h refl)
delay_held (Some delay) h = refl

pub sorted_widths : (table : List FlowEntry) → TableWidths table → Widths (held_count table) (sorted_flow table) (sorted_delay table)
unfolding sorted_flow sorted_delay
sorted_widths table t = record { high = λ k l. t.high (ranked_below 64 table k); low = λ k l. t.low (ranked_below 64 table k); delay = λ k l. t.delay (ranked_below 64 table k) }
