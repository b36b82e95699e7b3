-- What is kept of a list: while no word is wrong, each element as it is read; after a wrong word, nothing. Assumes nothing.
use Rattle.std.specs.Prelude.{Option, None, Some, option_and_then, unwrap_or}
use Prim.Native.Nat.{ℕ, zero, suc, ◌≤◌}
use mathlib.Core.Path.{◌≡◌, refl, ap}
use mathlib.Core.List.{List, ◌∷◌}
use native.Mathlib.Omega.{arith}
use lib.ListN.{length}
use Rattle.std.proofs.lemmas.Bool.Decides.{nat_tests}
use Rattle.rules_record.specs.declared.AutoTag.TheVariants.{Auto as auto-tag}
use Rattle.rules_record.specs.declared.ExtraDelay.{ExtraDelay}
use Rattle.rules_record.specs.declared.ExtraDelay.TheVariants.{Auto}
use Rattle.rules_tick.specs.declared.Look.{Look}
use Rattle.text_scan.specs.declared.Word.{Word}
use Rattle.text_scan.specs.Scan.{word, after_byte}
use Rattle.text_words.specs.Words.{number_after, mark_after, or_none, u64_in, u64_at, u32_at, bit_at, flow_at, maybe_u64_at, maybe_u32_at, manual_at, kind_at}
use Rattle.text_requests.specs.declared.lists.Load.{Load}
use Rattle.text_requests.specs.Lists.{lost, or_lost, kind_one, look_at, load_at, kind_kept, look_kept, load_kept, times, in_line, nothing_seen}
use Rattle.text_requests.specs.Parts.{flow_of, kind_of}

-- ---- an element
-- where all of an element is found, its next word is, and is the one that is kept
found : {A B : Type 0} (none : A) (o : Option (Word A)) (f : Word A → Option B) {w : B} → option_and_then f o ≡ Some w → f (or_lost none o) ≡ Some w
found none None f h = cc
found none (Some x) f h = h

module _ (s : List ℕ) (at : ℕ) where
  pub kept_kind : (w : Word ExtraDelay) → kind_one s at ≡ Some w → kind_kept s at ≡ w
  unfolding kind_one kind_kept
  kept_kind w h = grind (arith, found)

  pub kept_look : (w : Word Look) → look_at s at ≡ Some w → look_kept s at ≡ w
  unfolding look_at look_kept
  kept_look w h = grind (arith, found)

  pub kept_load : (w : Word Load) → load_at s at ≡ Some w → load_kept s at ≡ w
  unfolding load_at load_kept
  kept_load w h = grind (arith, found)

-- ---- so many of them
module _ {A B : Type 0} (f : A → B) (one : ℕ → Option (Word A)) (kept : ℕ → Word A) (same : (at : ℕ) (w : Word A) → one at ≡ Some w → kept at ≡ w) (none : A) where
  abbrev read : ℕ → Word A
  read at = unwrap_or (one at) (word none at)

  more : (n at : ℕ) {next : ℕ} → ((after : ℕ) → times one n after ≡ Some next → in_line f kept n after ≡ in_line f read n after) → (o : Option (Word A)) → one at ≡ o
      → option_and_then (λ w. times one n w.next) o ≡ Some next → in_line f kept (suc n) at ≡ in_line f read (suc n) at
  more n at rest None e h = cc
  more n at rest (Some w) e h = rw (same at w e, e) (ap (λ (l : List B). f w.value ∷ l) (rest w.next h))

  pub kept_line : (n at : ℕ) {next : ℕ} → times one n at ≡ Some next → in_line f kept n at ≡ in_line f read n at
  unfolding times
  kept_line zero at h = refl
  kept_line (suc n) at h = more n at (λ after e. kept_line n after e) (one at) refl h

-- ---- at the place lost no word stands: nothing more is kept
module _ (s : List ℕ) (h : length s ≤ lost) where
  no_byte : (b : ℕ) → after_byte s lost b ≡ None
  unfolding after_byte
  no_byte b = grind (arith, nat_tests)

  pub lost_kind : kind_kept s lost ≡ word (Auto auto-tag) lost
  unfolding kind_kept kind_at mark_after manual_at or_none kind_of
  lost_kind = simp no_byte

  pub lost_look : look_kept s lost ≡ word nothing_seen lost
  unfolding look_kept maybe_u64_at maybe_u32_at mark_after or_none bit_at u64_at u32_at u64_in number_after
  lost_look = simp no_byte

  pub lost_load : load_kept s lost ≡ word (record { flow = record { high = 0; low = 0 }; delay = 0 }) lost
  unfolding load_kept flow_at u32_at number_after flow_of
  lost_load = simp no_byte
