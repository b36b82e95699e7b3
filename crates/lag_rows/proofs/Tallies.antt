-- Sums of all rows and columns at once in 32 bits, as the loops go, and where they are the sums themselves. Assumes nothing.
use Rattle.std.proofs.Common.{◌≡◌, ℕ, ◌+◌, ◌*◌, ◌%◌, ◌<◌, ◌≤◌, Bool, true, false, ◌&&◌, eqb, leb, List, [], length, get_or, set, replicate, sym, refl, ap, ◌∙◌, ⊎_elim, le_antisymm, eq-or-lt_of_le, add-one, arith, w64, Fits, eq-eqb, ne_eqb, le-leb}
use borrow.Author.Tests.{lt-leb}
use lib.Bits.{bit_or, bit_xor}
use Rattle.std.proofs.lemmas.Nat.{le_or_l, le_or_r}
use Rattle.base.specs.Choice.{pick, both}
use Rattle.base.specs.Limits.{buckets_limit}
use Rattle.base.specs.Lists.{all, sum_from, row_sum, sum}
use Rattle.base.proofs.All.{all_none, all_more, all_stop, all_end, from_none, from_more, or_zero, both_no, both_yes}
use Rattle.base.proofs.Choices.{by_le}
use Rattle.base.proofs.Differ.{xor_same}
use Rattle.base.proofs.Flat.{flat_lt}
use Rattle.base.proofs.Listed.{listed_length, listed_at, listed_is}
use Rattle.base.proofs.Points.{zeros_at}
use Rattle.base.proofs.Tests.{all_cong, all_split}
use Rattle.base.proofs.Toward.{toward, toward_ahead, toward_more, toward_all}
use Rattle.rules_window.specs.Window.{windowed}
use Rattle.rules_window.specs.WholeWindow.{summed, tallies_right}
use Rattle.rules_window.specs.Quantile.{column}
use Rattle.rules_window.specs.ColumnSums.{right_sums}
use Rattle.rules_window.proofs.Reaching.{column_none, column_more}
use Rattle.rules_window.proofs.Sums.{sum_bound}
use Rattle.lag_rows.proofs.Parts.{set_next}
use Rattle.lag_rows.specs.Tallies.{row_places, rows_to, Covered, Columns, alike, alike_to, totals_are}

-- ---- a sum modulo 2^32 and one number more
wraps : (s v r x : ℕ) → s ≡ x % 4294967296 → r ≡ (s + v) % 4294967296 → r ≡ (x + v) % 4294967296
wraps s v r x e h = omega arith

-- ---- where the rows begin
module _ (B r b : ℕ) (xs : List ℕ) (e : xs ≡ row_places B) (l : r < 11) (h : b < B) where
  pub place_is : get_or xs r 0 + b ≡ r * B + b
  unfolding row_places
  place_is = ap (λ (y : ℕ). y + b) (ap (λ (y : List ℕ). get_or y r 0) e ∙ listed_at _ 11 r l)

  pub place_in : get_or xs r 0 + b < 11 * B
  place_in = rw place_is (flat_lt r 11 B b l h)

  pub place_fits : B ≤ buckets_limit → Fits w64 (get_or xs r 0 + b)
  place_fits k = omega (arith, place_in)

-- ---- one column: each count goes to its row and to the column
module _ (B b : ℕ) (cs : List ℕ) where
  pub sum_none : 0 ≡ column B b 0 cs % 4294967296
  sum_none = omega (arith, column_none B b cs)

  pub sum_next : (r s x v : ℕ) → s ≡ column B b r cs % 4294967296 → x ≡ get_or cs (r * B + b) 0 → v ≡ (s + x) % 4294967296 → v ≡ column B b (r + 1) cs % 4294967296
  sum_next r s x v e h w = wraps s x v (column B b r cs) e w ∙ ap (λ (y : ℕ). y % 4294967296) (column_more B b cs r (column B b r cs) x refl h)

  rows_long : (k : ℕ) → length (rows_to B k cs) ≡ 11
  unfolding rows_to
  rows_long k = listed_length _ 11

  rows_at : (k r : ℕ) → r < 11 → get_or (rows_to B k cs) r 0 ≡ sum_from (r * B) k cs % 4294967296
  unfolding rows_to
  rows_at k r l = listed_at _ 11 r l

  pub row_next : (r : ℕ) (rows : List ℕ) (x v : ℕ) → rows ≡ toward (rows_to B (b + 1) cs) (rows_to B b cs) r → r < 11 → x ≡ get_or cs (r * B + b) 0 → v ≡ (get_or rows r 0 + x) % 4294967296 → set rows r v ≡ toward (rows_to B (b + 1) cs) (rows_to B b cs) (r + 1)
  row_next r rows x v e l h w =
      rw e (toward_more (rows_to B (b + 1) cs) (rows_to B b cs) same r v (rw (rows_long b) l) (rows_at (b + 1) r l ∙ sym (next ∙ more)))
    where
      same : length (rows_to B (b + 1) cs) ≡ length (rows_to B b cs)
      same = rows_long (b + 1) ∙ sym (rows_long b)

      before : get_or rows r 0 ≡ sum_from (r * B) b cs % 4294967296
      before = ap (λ (y : List ℕ). get_or y r 0) e ∙ (toward_ahead (rows_to B (b + 1) cs) (rows_to B b cs) same r r (omega arith) (omega (arith, rows_long b)) ∙ rows_at b r l)

      next : v ≡ (sum_from (r * B) b cs + x) % 4294967296
      next = wraps (get_or rows r 0) x v (sum_from (r * B) b cs) before w

      more : (sum_from (r * B) b cs + x) % 4294967296 ≡ sum_from (r * B) (b + 1) cs % 4294967296
      more = ap (λ (y : ℕ). y % 4294967296) (from_more (r * B) cs b (sum_from (r * B) b cs) x refl h)

  pub rows_end : (r : ℕ) (rows : List ℕ) → rows ≡ toward (rows_to B (b + 1) cs) (rows_to B b cs) r → 11 ≤ r → rows ≡ rows_to B (b + 1) cs
  rows_end r rows e l = e ∙ toward_all (rows_to B (b + 1) cs) (rows_to B b cs) (rows_long (b + 1) ∙ sym (rows_long b)) r (rw (rows_long b) l)

-- none of the first r counts of bucket b is larger than bits
pub record Passed (B b r bits : ℕ) (cs : List ℕ) : Type 0 where
  pub before : Covered B b bits cs
  pub at : (q : ℕ) → q < r → get_or cs (q * B + b) 0 ≤ bits

module _ (B b : ℕ) (cs : List ℕ) where
  pub passed_none : (bits : ℕ) → Covered B b bits cs → Passed B b 0 bits cs
  passed_none bits h = record { before = h; at = λ q l. absurd (omega arith) }

  pub passed_next : (r bits x : ℕ) → Passed B b r bits cs → x ≡ get_or cs (r * B + b) 0 → Passed B b (r + 1) (bit_or bits x) cs
  passed_next r bits x h e =
      record {
        before = record { at = λ q i l k. omega (arith, h.before.at q i l k, le_or_l bits x) };
        at = λ q l. ⊎_elim (λ (z : q ≡ r). omega (arith, le_or_r bits x, ap (λ (y : ℕ). get_or cs (y * B + b) 0) z)) (λ k. omega (arith, h.at q k, le_or_l bits x)) (eq-or-lt_of_le (omega arith));
      }

  pub passed_end : (r bits : ℕ) → Passed B b r bits cs → 11 ≤ r → Covered B (b + 1) bits cs
  passed_end r bits h l =
      record { at = λ q i k m. ⊎_elim (λ (z : i ≡ b). rw z (h.at q (omega arith))) (λ g. h.before.at q i k g) (eq-or-lt_of_le (omega arith)) }

-- ---- k columns from a bucket on
module _ (B from : ℕ) (cs : List ℕ) where
  pub columns_none : (xs : List ℕ) → Columns B from 0 cs xs
  columns_none xs = record { at = λ i l. absurd (omega arith) }

  pub columns_next : (i v : ℕ) (xs : List ℕ) → Columns B from i cs xs → i < length xs → v ≡ column B (from + i) 11 cs % 4294967296 → Columns B from (i + 1) cs (set xs i v)
  columns_next i v xs h l e =
      record { at = set_next (λ j. column B (from + j) 11 cs % 4294967296) i v xs h.at l e }

-- ---- columns compared with the sums
module _ (from : ℕ) (xs us : List ℕ) where
  pub alike_none : (wrong : ℕ) → eqb wrong 0 ≡ both (eqb wrong 0) (alike from 0 xs us)
  unfolding alike all both
  alike_none wrong = last (eqb wrong 0)
    where
      last : (a : Bool) → a ≡ both a true
      last true = refl
      last false = refl

  pub alike_next : (i wrong bits x y : ℕ) → eqb bits 0 ≡ both (eqb wrong 0) (alike from i xs us) → x ≡ get_or us (from + i) 0 → y ≡ get_or xs i 0 → eqb (bit_or bits (bit_xor x y)) 0 ≡ both (eqb wrong 0) (alike from (i + 1) xs us)
  unfolding alike all both
  alike_next i wrong bits x y e h g = or_zero bits (bit_xor x y) ∙ rw (xor_same x y, e, h, g, add-one) (nested (eqb wrong 0) (all (λ j. eqb (get_or us (from + j) 0) (get_or xs j 0)) i))
    where
      nested : (a rest : Bool) → (pick a rest false && eqb (get_or us (from + i) 0) (get_or xs i 0)) ≡ pick a (pick rest (eqb (get_or us (from + i) 0) (get_or xs i 0)) false) false
      nested true true = refl
      nested true false = refl
      nested false rest = refl

-- ---- blocks of columns
module _ (B : ℕ) (cs : List ℕ) where
  pub rows_start : (xs : List ℕ) → xs ≡ replicate 11 0 → xs ≡ rows_to B 0 cs
  unfolding rows_to
  rows_start xs e = listed_is _ 11 xs (ap length e) (λ r l. ap (λ (y : List ℕ). get_or y r 0) e ∙ (zeros_at 11 r ∙ omega (arith, from_none (r * B) cs)))

  pub covered_none : Covered B 0 0 cs
  covered_none = record { at = λ r i l k. absurd (omega arith) }

module _ (B : ℕ) (cs us : List ℕ) where
  pub alike_to_none : true ≡ alike_to B 0 cs us
  unfolding alike_to
  alike_to_none = sym (all_none _)

  pub alike_to_more : (b k wrong bits : ℕ) (xs : List ℕ) → eqb wrong 0 ≡ alike_to B b cs us → Columns B b k cs xs → eqb bits 0 ≡ both (eqb wrong 0) (alike b k xs us) → eqb bits 0 ≡ alike_to B (b + k) cs us
  unfolding alike_to alike
  alike_to_more b k wrong bits xs e h w =
      w
      ∙ (rw e (ap (both (all (λ i. eqb (get_or us i 0) (column B i 11 cs % 4294967296)) b)) (all_cong _ _ k (λ i l. ap (eqb (get_or us (b + i) 0)) (h.at i l))))
      ∙ sym (all_split (λ i. eqb (get_or us i 0) (column B i 11 cs % 4294967296)) b k))

-- all buckets are summed
pub record Summed (B : ℕ) (cs us rows : List ℕ) (bits wrong : ℕ) : Type 0 where
  pub covered : Covered B B bits cs
  pub each_row : rows ≡ rows_to B B cs
  pub alike : eqb wrong 0 ≡ alike_to B B cs us

pub all_summed : (B b : ℕ) (cs us rows : List ℕ) (bits wrong : ℕ) → b ≡ B → Covered B b bits cs → rows ≡ rows_to B b cs → eqb wrong 0 ≡ alike_to B b cs us → Summed B cs us rows bits wrong
all_summed B b cs us rows bits wrong e h f g = record { covered = rw e at h; each_row = rw e at f; alike = rw e at g }

-- ---- totals compared with rows
module _ (rows ts : List ℕ) where
  pub totals_none : totals_are 0 rows ts ≡ true
  unfolding totals_are
  totals_none = all_none _

  pub totals_more : (i v : ℕ) → totals_are i rows ts ≡ true → v ≡ get_or rows i 0 → v ≡ get_or ts i 0 → totals_are (i + 1) rows ts ≡ true
  unfolding totals_are
  totals_more i v h e q = all_more _ i h (eq-eqb _ _ (sym e ∙ q))

  pub totals_stop : (m i v : ℕ) → i < m → v ≡ get_or rows i 0 → (v ≡ get_or ts i 0 → ⊥) → false ≡ totals_are m rows ts
  unfolding totals_are
  totals_stop m i v l e q = all_stop _ m i l (ne_eqb _ _ (λ z. q (e ∙ z)))

  pub totals_end : (m i : ℕ) → totals_are i rows ts ≡ true → i ≤ m → m ≤ i → true ≡ totals_are m rows ts
  unfolding totals_are
  totals_end m i h l k = all_end _ m i h l k

-- ---- counts below 2^20: nothing wrapped
module _ (B : ℕ) (ts cs us rows : List ℕ) (b bits : ℕ) (few : B ≤ buckets_limit) (l : b ≤ B) (m : B ≤ b) (small : bits < 1048576) (covered : Covered B b bits cs) (er : rows ≡ rows_to B b cs) where
  same : b ≡ B
  same = le_antisymm l m

  row_small : (r : ℕ) → r < 11 → row_sum B cs r ≤ 4294967295
  unfolding sum_from
  row_small r g =
      let most : sum (λ i. get_or cs (r * B + i) 0) B ≤ B * 1048575 = sum_bound (λ i. get_or cs (r * B + i) 0) 1048575 B (λ i k. omega (arith, covered.at r i g (omega arith))) in
      let all : B * 1048575 ≤ buckets_limit * 1048575 = omega arith in
      omega arith

  column_small : (i : ℕ) → i < B → column B i 11 cs ≤ 4294967295
  unfolding column
  column_small i g = omega (arith, sum_bound (λ r. get_or cs (r * B + i) 0) 1048575 11 (λ r k. omega (arith, covered.at r i k (omega arith))))

  row_is : (r : ℕ) → r < 11 → get_or rows r 0 ≡ row_sum B cs r
  row_is r g = ap (λ (y : List ℕ). get_or y r 0) er ∙ (rows_at B b cs b r g ∙ (ap (λ (y : ℕ). sum_from (r * B) y cs % 4294967296) same ∙ omega (arith, row_small r g)))

  columns_are : alike_to B b cs us ≡ right_sums (windowed 11 B 0 [] [] cs) us
  unfolding alike_to right_sums
  columns_are = rw same (all_cong _ _ B (λ i g. ap (eqb (get_or us i 0)) (omega (arith, column_small i g))))

  row_told : (r : ℕ) → r < 11 → eqb (get_or rows r 0) (get_or ts r 0) ≡ both (leb (get_or ts r 0) 4294967295) (eqb (row_sum B cs r) (get_or ts r 0))
  unfolding both
  row_told r g =
      by_le (get_or ts r 0) 4294967295
      (λ h. rw (le-leb (get_or ts r 0) 4294967295 h, row_is r g))
      (λ h. rw (lt-leb (get_or ts r 0) 4294967295 h) (ne_eqb (get_or rows r 0) (get_or ts r 0) (λ e. omega (arith, row_is r g, row_small r g))))

  rows_are : totals_are 11 rows ts ≡ summed 11 B ts cs
  unfolding totals_are summed
  rows_are = all_cong _ _ 11 row_told

  module _ (wrong : ℕ) (ew : eqb wrong 0 ≡ alike_to B b cs us) where
    pub columns_fail : (wrong ≡ 0 → ⊥) → false ≡ tallies_right B ts cs us
    unfolding both
    columns_fail h = rw (← columns_are, ← ew, ne_eqb wrong 0 h) (none (summed 11 B ts cs))
      where
        none : (a : Bool) → false ≡ pick a false false
        none true = refl
        none false = refl

    pub totals_tell : (wrong ≡ 0) → (q : Bool) → q ≡ totals_are 11 rows ts → q ≡ tallies_right B ts cs us
    unfolding both
    totals_tell z q e = rw (← columns_are, ← ew, eq-eqb wrong 0 z) (e ∙ (rows_are ∙ last (summed 11 B ts cs)))
      where
        last : (a : Bool) → a ≡ pick a true false
        last true = refl
        last false = refl

-- ---- the same in 64 bits
pub long_fails : (a b q : Bool) → q ≡ a → q ≡ false → false ≡ both a b
long_fails a b q e h = both_no a b (sym e ∙ h)

pub long_tells : (a b q r : Bool) → q ≡ a → q ≡ true → r ≡ b → r ≡ both a b
long_tells a b q r e h f = both_yes a b r (sym e ∙ h) f
