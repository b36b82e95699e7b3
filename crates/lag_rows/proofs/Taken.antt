-- Rows taken off the sums, as the loops go. Assumes nothing.
use Rattle.std.proofs.Common.{◌≡◌, ℕ, ◌+◌, ◌-◌, ◌*◌, ◌<◌, ◌≤◌, List, length, get_or, set, sym, refl, ap, ◌∙◌, arith}
use Rattle.base.proofs.All.{sum_more}
use Rattle.base.proofs.Listed.{listed_length, listed_at}
use Rattle.base.proofs.Toward.{toward, toward_ahead, toward_more, toward_all}
use Rattle.rules_window.specs.Quantile.{column}
use Rattle.rules_window.specs.InPlace.{less_row, less_rows}
use Rattle.rules_window.proofs.Sums.{sum_rises}

-- ---- row r, over the first b buckets
module _ (B r : ℕ) (cs us : List ℕ) (long : length us ≡ B) where
  same : length (less_row B r cs us) ≡ length us
  unfolding less_row
  same = listed_length _ B ∙ sym long

  module _ (b : ℕ) (xs : List ℕ) (e : xs ≡ toward (less_row B r cs us) us b) (l : b < B) where
    -- a sum that is not written yet
    ahead : get_or xs b 0 ≡ get_or us b 0
    ahead = ap (λ (y : List ℕ). get_or y b 0) e ∙ toward_ahead (less_row B r cs us) us same b b (omega arith) (omega arith)

    pub take_next : (x : ℕ) → x ≡ get_or cs (r * B + b) 0 → set xs b (get_or xs b 0 - x) ≡ toward (less_row B r cs us) us (b + 1)
    unfolding less_row
    take_next x ex = rw (ahead, e) (toward_more (less_row B r cs us) us same b (get_or us b 0 - x) (omega arith) (listed_at _ B b l ∙ ap (λ (y : ℕ). get_or us b 0 - y) (sym ex)))

  pub take_end : (b : ℕ) (xs : List ℕ) → xs ≡ toward (less_row B r cs us) us b → B ≤ b → xs ≡ less_row B r cs us
  take_end b xs e l = e ∙ toward_all (less_row B r cs us) us same b (omega arith)

-- ---- row after row
module _ (B : ℕ) (cs us : List ℕ) where
  -- a sum has the lags of the next row
  pub row_in_sums : (r k : ℕ) (xs : List ℕ) → xs ≡ less_rows B r cs us → r < k → ((b : ℕ) → b < B → column B b k cs ≤ get_or us b 0) → (b : ℕ) → b < B → get_or cs (r * B + b) 0 ≤ get_or xs b 0
  unfolding less_rows column
  row_in_sums r k xs e g h b l =
      omega (
        arith,
        ap (λ (y : List ℕ). get_or y b 0) e ∙ listed_at _ B b l,
        h b l,
        sum_more (λ q. get_or cs (q * B + b) 0) r _ _ refl refl,
        sum_rises (λ q. get_or cs (q * B + b) 0) (r + 1) k (omega arith),
      )
