-- A table whose flows already rise is written in the order of its places. Assumes nothing.
use Rattle.std.specs.Prelude.{None, Some}
use Prim.Native.Nat.{ℕ, zero, suc, ◌+◌, ◌-◌, ◌*◌, ◌/◌, ◌%◌, ◌<◌, ◌≤◌}
use mathlib.Core.Bool.{true, false}
use mathlib.Core.Path.{◌≡◌, refl, sym, ap, ap₂, ◌∙◌}
use mathlib.Core.Logic.{⊎_elim}
use mathlib.Core.List.{List}
use native.Mathlib.Nat.{eq-or-lt_of_le, le_of_suc-le-suc}
use native.Mathlib.Omega.{arith}
use lib.Dec.{eqb, ltb}
use borrow.Author.Tests.{eq-eqb, ne_eqb}
use Rattle.base.specs.Choice.{pick, both}
use Rattle.base.specs.Lists.{sum}
use Rattle.base.proofs.Choices.{yes_pick, no_pick, by_le, lt_yes}
use Rattle.rules_record.specs.declared.Flow.{Flow}
use Rattle.rules_record.specs.declared.FlowEntry.{FlowEntry}
use Rattle.rules_record.specs.Flows.{entry_in}
use Rattle.rules_files.specs.Files.{lower_flow, rises, head_byte, entry_byte, file_byte, file_of}
use Rattle.rules_files.specs.Table.{has_delay, delay_of, flow_of, held, one, held_count, held_below, rank, ranked_below, sorted_flow, sorted_delay}
use Rattle.rules_files.specs.WriteFile.{table_file}
use Rattle.base.proofs.Listed.{listed_cong}
use Rattle.rules_files.proofs.FlowOrder.{rises_below, lower_back, lower_self}

-- a sum of ones below p and zeros from p on
sum_full : (f : ℕ → ℕ) (m : ℕ) → ((q : ℕ) → q < m → f q ≡ 1) → sum f m ≡ m
unfolding sum
sum_full f zero g = refl
sum_full f (suc m) g = omega (arith, sum_full f m (λ q i. g q (omega arith)), g m (omega arith))

sum_ones : (f : ℕ → ℕ) (p m : ℕ) → p ≤ m → ((q : ℕ) → q < p → f q ≡ 1) → ((q : ℕ) → p ≤ q → f q ≡ 0) → sum f m ≡ p
unfolding sum
sum_ones f p zero l g h = omega arith
sum_ones f p (suc m) l g h =
    by_le p m
    (λ k. omega (arith, sum_ones f p m k g h, h m k))
    (λ k. omega (arith, sum_full f m (λ q i. g q (omega arith)), g m k))

-- the first n places have these flows and delays, and no other has a delay
pub record Stands (n : ℕ) (flows : ℕ → Flow) (delays : ℕ → ℕ) (table : List FlowEntry) : Type 0 where
  pub most : n ≤ 64
  pub flow : (k : ℕ) → k < n → flow_of table k ≡ flows k
  pub delay : (k : ℕ) → k < n → (entry_in table k).remembered ≡ Some (delays k)
  pub none : (k : ℕ) → n ≤ k → (entry_in table k).remembered ≡ None

-- a file tells only of its entries
pub file_cong : (version head rate n : ℕ) (f g : ℕ → Flow) (d e : ℕ → ℕ) → ((k : ℕ) → k < n → f k ≡ g k) → ((k : ℕ) → k < n → d k ≡ e k) → file_of version head rate n f d ≡ file_of version head rate n g e
unfolding file_of file_byte
file_cong version head rate n f g d e h k =
    listed_cong _ _ (head + n * 20)
    (λ i l. by_le head i
    (λ m. let a : (i - head) / 20 < n = omega arith in ap₂ (λ (x : Flow) (v : ℕ). pick (ltb i head) (head_byte version rate n i) (entry_byte x v ((i - head) % 20))) (h ((i - head) / 20) a) (k ((i - head) / 20) a))
    (λ m. lt_yes _ _ _ _ m ∙ sym (lt_yes _ _ _ _ m)))

module _ (n : ℕ) (flows : ℕ → Flow) (delays : ℕ → ℕ) (table : List FlowEntry) (h : Stands n flows delays table) where
  held_there : (k : ℕ) → k < n → held table k ≡ true
  unfolding held
  held_there k l = ap has_delay (h.delay k l)

  held_not : (k : ℕ) → n ≤ k → held table k ≡ false
  unfolding held
  held_not k l = ap has_delay (h.none k l)

  pub stands_count : held_count table ≡ n
  unfolding held_count
  stands_count = sum_ones (λ q. one (held table q)) n 64 h.most (λ q l. ap one (held_there q l)) (λ q l. ap one (held_not q l))

  module _ (up : rises flows n ≡ true) where
    stands_rank : (p : ℕ) → p < n → rank table (flow_of table p) ≡ p
    unfolding rank both
    stands_rank p m = sum_ones (λ q. one (held_below table (flow_of table p) q)) p 64 (omega (arith, h.most)) lower higher
      where
        lower : (q : ℕ) → q < p → one (held_below table (flow_of table p) q) ≡ 1
        lower q l = rw (held_there q (omega arith), h.flow q (omega arith), h.flow p m, rises_below flows n up q p l m)

        below_not : (q : ℕ) → p ≤ q → q < n → lower_flow (flows q) (flows p) ≡ false
        below_not q l i = ⊎_elim (λ e. rw e (lower_self (flows q))) (λ k. lower_back _ _ (rises_below flows n up p q k i)) (eq-or-lt_of_le l)

        higher : (q : ℕ) → p ≤ q → one (held_below table (flow_of table p) q) ≡ 0
        higher q l =
            by_le n q
            (λ i. rw (held_not q i))
            (λ i. rw (held_there q i, h.flow q i, h.flow p m, below_not q l i))

    stands_ranked : (m k : ℕ) → k < m → k < n → ranked_below m table k ≡ k
    unfolding ranked_below both
    stands_ranked zero k l i = absurd (omega arith)
    stands_ranked (suc m) k l i =
        ⊎_elim
        (λ e. let w : both (held table m) (eqb (rank table (flow_of table m)) k) ≡ true = yes e in yes_pick _ _ w ∙ sym e)
        (λ g. let w : both (held table m) (eqb (rank table (flow_of table m)) k) ≡ false = no g in no_pick _ _ w ∙ stands_ranked m k g i)
        (eq-or-lt_of_le (le_of_suc-le-suc l))
      where
        yes : k ≡ m → both (held table m) (eqb (rank table (flow_of table m)) k) ≡ true
        yes e = let j : m < n = omega arith in rw (held_there m j, stands_rank m j) (eq-eqb m k (sym e))

        no : k < m → both (held table m) (eqb (rank table (flow_of table m)) k) ≡ false
        no g = by_le n m (λ j. rw (held_not m j)) (λ j. rw (held_there m j, stands_rank m j) (ne_eqb m k (λ e. omega arith)))

    pub stands_flow : (k : ℕ) → k < n → sorted_flow table k ≡ flows k
    unfolding sorted_flow
    stands_flow k l = ap (flow_of table) (stands_ranked 64 k (omega (arith, h.most)) l) ∙ h.flow k l

    pub stands_delay : (k : ℕ) → k < n → sorted_delay table k ≡ delays k
    unfolding sorted_delay
    stands_delay k l = ap (λ (p : ℕ). delay_of (entry_in table p).remembered) (stands_ranked 64 k (omega (arith, h.most)) l) ∙ ap delay_of (h.delay k l)

    -- its file is that of the flows and delays
    pub stands_file : (version head rate : ℕ) → table_file version head rate table ≡ file_of version head rate n flows delays
    unfolding table_file
    stands_file version head rate = ap (λ (c : ℕ). file_of version head rate c (sorted_flow table) (sorted_delay table)) stands_count ∙ file_cong version head rate n (sorted_flow table) flows (sorted_delay table) delays stands_flow stands_delay
