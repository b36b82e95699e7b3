-- Lists of a line, read one after the other: what is left to be read gives the same as the whole. Assumes nothing.
use Rattle.std.specs.Prelude.{Option, None, Some, option_and_then, leb}
use Prim.Native.Nat.{ℕ, suc, ◌+◌, ◌-◌, ◌<◌, ◌≤◌}
use mathlib.Core.Path.{◌≡◌, sym, ◌∙◌}
use mathlib.Core.List.{List, [], ◌∷◌, ◌++◌, append_assoc, append-nil}
use native.Mathlib.Numerals.{add-one}
use native.Mathlib.Omega.{arith}
use Rattle.std.proofs.Math.Nat.{sub-zero}
use lib.ListN.{length, take, set}
use lib.Seq.{take-suc-set}
use Rattle.base.specs.Choice.{pick}
use Rattle.text_scan.specs.declared.Word.{Word}
use Rattle.text_scan.specs.Scan.{word, has_byte, ends_at}
use Rattle.text_words.specs.Words.{u32_at}
use Rattle.text_requests.specs.Forms.{space, comma}
use Rattle.text_requests.specs.Lists.{times, listed, lags_after, cell_at, cells_after, cells_end, row_at, rows_after}

left_suc : (n i : ℕ) → i < n → n - i ≡ suc (n - (i + 1))
left_suc n i h = omega arith

left_none : (n i : ℕ) → n ≤ i → n - i ≡ 0
left_none n i h = omega arith

-- ---- so many
module _ {A : Type 0} (one : ℕ → Option (Word A)) (n i at : ℕ) where
  pub times_end : n ≤ i → times one (n - i) at ≡ Some at
  unfolding times
  times_end h = rw (left_none n i h)

  pub times_step : i < n → times one (n - i) at ≡ option_and_then (λ w. times one (n - (i + 1)) w.next) (one at)
  unfolding times
  times_step h = rw (left_suc n i h)

-- one more was stored
pub stored : {A : Type 0} (heard : List A) (i : ℕ) (value : A) → i < length heard → take (i + 1) (set heard i value) ≡ take i heard ++ (value ∷ [])
stored heard i value h = rw add-one (take-suc-set heard i value h)

-- ---- so many, listed: those that were read, with what is left in the line from `at` on, are all from `start` on
pub record Listing {A : Type 0} (one : ℕ → A) (after : ℕ → ℕ) (m start : ℕ) (read : List A) (at i : ℕ) : Type 0 where
  pub within : i ≤ m
  pub gives : read ++ listed one after (m - i) at ≡ listed one after m start

module _ {A : Type 0} {one : ℕ → A} {after : ℕ → ℕ} {m start : ℕ} where
  pub listing_none : Listing one after m start [] start 0
  listing_none = record { within = omega arith; gives = rw (sub-zero m) }

  module _ {read : List A} {at i : ℕ} (inv : Listing one after m start read at i) where
    pub listing_more : i < m → {value : A} {next : ℕ} → value ≡ one at → next ≡ after at → {more : List A} → more ≡ read ++ (value ∷ []) → Listing one after m start more next (i + 1)
    listing_more h e f q = record { within = omega arith; gives = rw (q, append_assoc, e, f) (rw (left_suc m i h) at inv.gives) }

    pub listing_done : m ≤ i → read ≡ listed one after m start
    listing_done h = sym (append-nil read) ∙ rw (left_none m i h) at inv.gives

-- ---- lags up to the end of the line
module _ (s : List ℕ) (n i at : ℕ) (read : List ℕ) where
  pub lags_end : n ≤ i → lags_after s (n - i) at read ≡ None
  unfolding lags_after
  lags_end h = rw (left_none n i h)

  pub lags_step : i < n → lags_after s (n - i) at read ≡
      pick (ends_at s at) (Some (word (record { count = length read; list = read }) at)) (option_and_then (λ lag. lags_after s (n - (i + 1)) lag.next (read ++ (lag.value ∷ []))) (u32_at s at space))
  unfolding lags_after
  lags_step h = rw (left_suc n i h)

-- ---- the cells of a row
module _ (s : List ℕ) (buckets n i at : ℕ) where
  pub cells_last : n ≤ i → cells_after s buckets (n - i) at ≡ None
  unfolding cells_after
  cells_last h = rw (left_none n i h)

  pub cells_step : i < n → cells_after s buckets (n - i) at ≡
      pick (has_byte s at comma) (option_and_then (λ cell. pick (leb buckets cell.value.bucket) None (cells_after s buckets (n - (i + 1)) cell.next)) (cell_at s at)) (Some at)
  unfolding cells_after
  cells_step h = rw (left_suc n i h)

-- ---- rows up to the end of the line
module _ (s : List ℕ) (buckets n i at : ℕ) where
  pub rows_end : n ≤ i → rows_after s buckets (n - i) at i ≡ None
  unfolding rows_after
  rows_end h = rw (left_none n i h)

  pub rows_step : i < n → rows_after s buckets (n - i) at i ≡
      pick (ends_at s at) (Some (word i at)) (option_and_then (λ row. option_and_then (λ next. rows_after s buckets (n - (i + 1)) next (i + 1)) (cells_end s row.next buckets)) (row_at s at))
  unfolding rows_after
  rows_step h = rw (left_suc n i h)
