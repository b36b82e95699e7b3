-- A text laid into a buffer, byte by byte and one after another, and digits as a loop writes them from the last to the first. Assumes nothing.
use Prim.Native.Nat.{ℕ, suc, ◌+◌, ◌-◌, ◌/◌, ◌%◌, ◌<◌, ◌≤◌, min}
use mathlib.Core.Bool.{Bool, true, false}
use mathlib.Core.Path.{◌≡◌, refl, sym, ap, ◌∙◌, subst}
use mathlib.Core.List.{List, [], ◌∷◌, ◌++◌, append_assoc}
use native.Mathlib.Omega.{arith}
use borrow.Rule.Slice.PartMut.{put_mid}
use borrow.Author.Tests.{eq-eqb, ne_eqb}
use lib.Dec.{leb}
use lib.ListN.{length, set, take, drop, length-set, length-take, length-drop, length-append, take-append-drop}
use Rattle.std.proofs.Common.{drop-drop}
use lib.Seq.{drop-cons, sets, sets-eq, set_out, take_all, length-sets, get_or-set_same, drop-set-lt}
use Rattle.base.proofs.Choices.{by_le}
use Rattle.base.proofs.Words.{sets_append}
use Rattle.text_print.specs.Print.{Page, page, printed, glyph_of, spells, spelled, digits_text, hex_text, whole_hex_text, byte_text, flow_text}

-- ---- a text in a buffer
-- past the end nothing is written
pub sets_out : (l : List ℕ) (i : ℕ) (vs : List ℕ) → length l ≤ i → sets l i vs ≡ l
sets_out l i [] h = refl
sets_out l i (v ∷ vs) h = rw (set_out l i v h) (sets_out l (suc i) vs (omega arith))

same_page : {i j : ℕ} {xs ys : List ℕ} → i ≡ j → xs ≡ ys → page i xs ≡ page j ys
same_page p q = rw (p, q)

-- one text after another is the two as one text
pub printed_after : (a b : List ℕ) (p : Page) → printed b (printed a p) ≡ printed (a ++ b) p
unfolding printed
printed_after a b p = by_le (p.place + length a) (length p.bytes) inside beyond
  where
    first : ℕ
    first = min (p.place + length a) (length p.bytes)

    laid : List ℕ
    laid = sets p.bytes p.place a

    Same : Type 0
    Same = page (min (first + length b) (length laid)) (sets laid first b) ≡ page (min (p.place + length (a ++ b)) (length p.bytes)) (sets p.bytes p.place (a ++ b))

    long : length (sets p.bytes p.place a) ≡ length p.bytes
    long = length-sets p.bytes p.place a

    inside : p.place + length a ≤ length p.bytes → Same
    inside h =
        let e : min (p.place + length a) (length p.bytes) ≡ p.place + length a = omega arith in
        same_page (rw (long, length-append a b, e) (omega arith)) (rw e (sets_append p.bytes p.place a b))

    beyond : length p.bytes < p.place + length a → Same
    beyond h =
        let e : min (p.place + length a) (length p.bytes) ≡ length p.bytes = omega arith in
        same_page
        (rw (long, length-append a b, e) (omega arith))
        (rw e (sets_out laid (length p.bytes) b (omega (arith, long))) ∙ sym (sym (sets_append p.bytes p.place a b) ∙ sets_out laid (p.place + length a) b (omega (arith, long))))

-- what fits of a text is laid into its part of the buffer
module _ (s text : List ℕ) (place : ℕ) where
  inside : (vs : List ℕ) → place + length vs ≤ length s → sets s place vs ≡ put_mid place (length vs) s vs
  inside vs h = sets-eq vs s place h ∙ append_assoc (take place s) vs (drop (place + length vs) s) ∙ ap (λ (r : List ℕ). take place s ++ (vs ++ r)) (sym (drop-drop (length vs) place s))

  in_two : (k : ℕ) → sets s place text ≡ sets (sets s place (take k text)) (place + length (take k text)) (drop k text)
  in_two k = ap (sets s place) (sym (take-append-drop k text)) ∙ sym (sets_append s place (take k text) (drop k text))

  -- what fits is laid, and the rest changes nothing
  cut_off : (k : ℕ) → length s ≤ place + length (take k text) → sets s place text ≡ sets s place (take k text)
  cut_off k h = in_two k ∙ sets_out (sets s place (take k text)) (place + length (take k text)) (drop k text) (rw (length-sets s place (take k text)) h)

  pub laid : (at fitting k : ℕ) (ys : List ℕ) → at ≡ min place (length s) → fitting ≡ min (length text) (length s - at) → k ≡ fitting → ys ≡ take fitting text → page (at + fitting) (put_mid at k s ys) ≡ printed text (page place s)
  unfolding printed
  laid at fitting k ys a f e y = rw (e, y) (by_le (place + length text) (length s) fits (λ u. by_le place (length s) (cut u) beyond))
    where
      kept : List ℕ
      kept = take fitting text

      Same : Type 0
      Same = page (at + fitting) (put_mid at fitting s kept) ≡ page (min (place + length text) (length s)) (sets s place text)

      long : length kept ≡ fitting
      long = rw length-take (omega arith)

      fits : place + length text ≤ length s → Same
      fits u =
          let p : at ≡ place = omega arith in
          let n : fitting ≡ length text = omega arith in
          same_page (omega arith) (rw (n, p, take_all (length text) text (omega arith)) (sym (inside text u)))

      cut : length s < place + length text → place ≤ length s → Same
      cut u h =
          let p : at ≡ place = omega arith in
          same_page (omega arith) (sym (cut_off fitting (rw long (omega arith)) ∙ inside kept (rw long (omega arith)) ∙ rw (long, p)))

      beyond : length s < place → Same
      beyond h =
          let p : at ≡ length s = omega arith in
          let n : fitting ≡ 0 = omega arith in
          same_page (omega arith) (rw (n, p) (take-append-drop (length s) s ∙ sym (sets_out s place text (omega arith))))

-- ---- digits
module _ (rest count least : ℕ) where
  pub spells_last : rest ≡ 0 → leb least count ≡ spells rest count least
  unfolding spells
  spells_last h = rw (eq-eqb rest 0 h)

  pub spells_more : (rest ≡ 0 → ⊥) → false ≡ spells rest count least
  unfolding spells
  spells_more h = rw (ne_eqb rest 0 h)

-- std's `drop-set`, where the place after k is `suc k`, as digits are spelled
drop_set : (bytes : List ℕ) (k g : ℕ) → k < length bytes → drop k (set bytes k g) ≡ g ∷ drop (suc k) bytes
drop_set bytes k g h =
    let l : k < length (set bytes k g) = simp length-set (omega arith) in
    rw (drop-cons (set bytes k g) k 0, get_or-set_same bytes k g 0 h, drop-set-lt (suc k) bytes k g (omega arith))

module _ (bytes : List ℕ) (base least rest g k : ℕ) {x : List ℕ} (e : x ≡ spelled base least (suc k) rest (drop (suc k) bytes)) (u : suc k ≤ 20) (l : length bytes ≡ 20) (q : g ≡ glyph_of (rest % base)) {b : Bool} (t : b ≡ spells (rest / base) (20 - k) least) where
  count_of : suc (length (drop (suc k) bytes)) ≡ 20 - k
  count_of = rw length-drop (omega arith)

  stop_at : b ≡ true → drop k (set bytes k g) ≡ x
  stop_at h = drop_set bytes k g (omega arith) ∙ sym (rw (e, count_of, ← t, h, ← q))

  more_at : b ≡ false → x ≡ spelled base least k (rest / base) (drop k (set bytes k g))
  more_at h = rw (drop_set bytes k g (omega arith)) (rw (e, count_of, ← t, h, ← q))

module _ (bytes : List ℕ) (base least rest g i : ℕ) {x : List ℕ} (e : x ≡ spelled base least i rest (drop i bytes)) (z : 0 < i) (u : i ≤ 20) (l : length bytes ≡ 20) (q : g ≡ glyph_of (rest % base)) {b : Bool} (t : b ≡ spells (rest / base) (20 - (i - 1)) least) where
  one_less : i ≡ suc (i - 1)
  one_less = omega arith

  pub digits_stop : b ≡ true → take (20 - (i - 1)) (drop (i - 1) (set bytes (i - 1) g)) ≡ x
  digits_stop h = take_all (20 - (i - 1)) (drop (i - 1) (set bytes (i - 1) g)) (rw (length-drop, length-set) (omega arith)) ∙ stop_at bytes base least rest g (i - 1) (subst (λ (m : ℕ). x ≡ spelled base least m rest (drop m bytes)) one_less e) (omega arith) l q t h

  pub digits_more : b ≡ false → x ≡ spelled base least (i - 1) (rest / base) (drop (i - 1) (set bytes (i - 1) g))
  digits_more = more_at bytes base least rest g (i - 1) (subst (λ (m : ℕ). x ≡ spelled base least m rest (drop m bytes)) one_less e) (omega arith) l q t

pub digits_end_law : (bytes : List ℕ) (base least rest i : ℕ) {x : List ℕ} → x ≡ spelled base least i rest (drop i bytes) → i ≤ 0 → bytes ≡ x
digits_end_law bytes base least rest i {x = x} e h =
    let z : i ≡ 0 = omega arith in sym (subst (λ (m : ℕ). x ≡ spelled base least m rest (drop m bytes)) z e)

-- a byte has its leading zero
pub byte_both_digits : byte_text 10 ≡ 48 ∷ 97 ∷ []
unfolding digits_text spells glyph_of
byte_both_digits = refl

-- ---- one text after another
module _ (p : Page) {i j : ℕ} {xs ys : List ℕ} where
  pub print_two : (a b : List ℕ) → page i xs ≡ printed a p → page j ys ≡ printed b (page i xs) → page j ys ≡ printed (a ++ b) p
  print_two a b e q = q ∙ ap (printed b) e ∙ printed_after a b p

  pub print_after : (sep : ℕ) (b : List ℕ) → page i xs ≡ printed (sep ∷ []) p → page j ys ≡ printed b (page i xs) → page j ys ≡ printed (sep ∷ b) p
  print_after sep b e q = print_two (sep ∷ []) b e q

pub print_same : (p : Page) {q : Page} (a b : List ℕ) → q ≡ printed a p → a ≡ b → q ≡ printed b p
print_same p a b e h = e ∙ ap (λ (text : List ℕ). printed text p) h

-- ---- a flow
module _ (p : Page) (high low : ℕ) where
  pub print_low : {q : Page} → high ≡ 0 → q ≡ printed (hex_text low) p → q ≡ printed (flow_text high low) p
  unfolding flow_text
  print_low h e = rw (eq-eqb high 0 h) e

  pub print_high : {i j : ℕ} {xs ys : List ℕ} → (high ≡ 0 → ⊥) → page i xs ≡ printed (hex_text high) p → page j ys ≡ printed (whole_hex_text low) (page i xs) → page j ys ≡ printed (flow_text high low) p
  unfolding flow_text
  print_high h e q = rw (ne_eqb high 0 h) (print_two p (hex_text high) (whole_hex_text low) e q)

-- the place that printing answers lies within the buffer, whose length stays
pub printed_within : (text : List ℕ) (p : Page) (i : ℕ) (xs : List ℕ) → page i xs ≡ printed text p → (i ≤ length xs) × (length xs ≡ length p.bytes)
unfolding printed
printed_within text p i xs e =
    let l : length xs ≡ length p.bytes = ap (λ (q : Page). length q.bytes) e ∙ length-sets p.bytes p.place text in
    let m : i ≡ min (p.place + length text) (length p.bytes) = ap (λ (q : Page). q.place) e in
    (omega arith, l)
