-- What is printed is read back: the text of a number, scanned in its base, is that number. Assumes nothing.
use Prim.Native.Nat.{ℕ, zero, suc, ◌+◌, ◌-◌, ◌*◌, ◌/◌, ◌%◌, ◌^◌, ◌<◌, ◌≤◌}
use mathlib.Core.Bool.{true, false}
use mathlib.Core.Path.{◌≡◌, sym, ap, ◌∙◌}
use mathlib.Core.List.{List, [], ◌∷◌}
use native.Mathlib.Numerals.{add-one}
use native.Mathlib.Nat.{pow-zero, pow-suc, add-suc, suc-add, div-add-mod', mod-lt, div-eq_of_lt, div-le_self, div-lt_iff_lt-mul}
use native.Mathlib.Omega.{arith}
use borrow.Author.Tests.{eqb-true, eqb-false, lt-ltb, le-ltb, le-leb}
use lib.Dec.{eqb}
use lib.ListN.{length}
use Rattle.base.proofs.Choices.{by_le, by_bool}
use Rattle.std.specs.Prelude.{Some}
use Rattle.text_scan.specs.Scan.{word, digit_of, digits_of, number_from}
use Rattle.text_print.specs.Print.{glyph_of, spells, spelled, digits_text, decimal_text, hex_text}
use Rattle.text_scan.proofs.Scanning.{digit_decimal, digit_letter, closed_some}
use Rattle.text_print.proofs.Printing.{spells_last, spells_more}

-- a digit's byte has the digit's value
pub digit_of_glyph : (d base : ℕ) → d < base → base ≤ 16 → digit_of (glyph_of d) base ≡ Some d
unfolding glyph_of
digit_of_glyph d base h k =
    by_le
    10
    d
    (λ l. let e : 87 + d - 87 ≡ d = omega arith in rw (le-ltb d 10 l) (sym (digit_letter (87 + d) base (omega arith) (omega arith) (omega arith)) ∙ ap (λ (n : ℕ). Some n) e))
    (λ l. let e : 48 + d - 48 ≡ d = omega arith in rw (lt-ltb d 10 l) (sym (digit_decimal (48 + d) base (omega arith) (omega arith) (omega arith)) ∙ ap (λ (n : ℕ). Some n) e))

module _ (base most : ℕ) (large : 1 < base) (small : base ≤ 16) where
  -- scanning takes one more digit
  taken : (value i d : ℕ) (xs : List ℕ) → d < base → value * base + d ≤ most → digits_of base most 0 value i (glyph_of d ∷ xs) ≡ digits_of base most 0 (value * base + d) (suc i) xs
  taken value i d xs h k = rw (digit_of_glyph d base h small, le-leb (value * base + d) most k)

  -- the digits of n before others: scanning comes to those with the value n, c places on
  pub record Read (n i : ℕ) (text xs : List ℕ) : Type 0 where
    pub count : ℕ
    pub some : 0 < count
    pub long : length text ≡ count + length xs
    pub value : digits_of base most 0 0 i text ≡ digits_of base most 0 n (i + count) xs

  part_of : (n : ℕ) → n / base * base + n % base ≡ n
  part_of n = div-add-mod' n base

  last_digit : (n : ℕ) → n % base < base
  last_digit n = mod-lt n {m = base} (omega arith)

  -- whether the digits end
  ends_so : (n : ℕ) (xs : List ℕ) → n / base ≡ 0 → spells (n / base) (suc (length xs)) 1 ≡ true
  ends_so n xs e = sym (spells_last (n / base) (suc (length xs)) 1 e) ∙ le-leb 1 (suc (length xs)) (omega arith)

  goes_on : (n : ℕ) (xs : List ℕ) → (n / base ≡ 0 → ⊥) → spells (n / base) (suc (length xs)) 1 ≡ false
  goes_on n xs e = sym (spells_more (n / base) (suc (length xs)) 1 e)

  one_digit : (n i : ℕ) (xs : List ℕ) → n ≤ most → n / base ≡ 0 → Read n i (glyph_of (n % base) ∷ xs) xs
  one_digit n i xs m e =
      let p : 0 * base + n % base ≡ n = rw e at (part_of n) in
      record {
        count = 1;
        some = omega arith;
        long = omega arith;
        value = taken 0 i (n % base) xs (last_digit n) (rw p m) ∙ ap (λ (v : ℕ). digits_of base most 0 v (suc i) xs) p ∙ ap (λ (j : ℕ). digits_of base most 0 n j xs) (sym (add-one i));
      }

  digit_more : (n i : ℕ) (text xs : List ℕ) → n ≤ most → Read (n / base) i text (glyph_of (n % base) ∷ xs) → Read n i text xs
  digit_more n i text xs m r =
      let p : n / base * base + n % base ≡ n = part_of n in
      record {
        count = suc r.count;
        some = omega arith;
        long = r.long ∙ add-suc r.count (length xs) ∙ sym (suc-add r.count (length xs));
        value =
            r.value ∙ taken (n / base) (i + r.count) (n % base) xs (last_digit n) (rw p m) ∙ ap (λ (v : ℕ). digits_of base most 0 v (suc (i + r.count)) xs) p ∙ ap (λ (j : ℕ). digits_of base most 0 n j xs) (sym (add-suc i r.count));
      }

  one_left : (k n i : ℕ) (xs : List ℕ) → n ≤ most → n / base ≡ 0 → Read n i (spelled base 1 (suc k) n xs) xs
  one_left k n i xs m e = rw (ends_so n xs e) (one_digit n i xs m e)

  many_left : (k n i : ℕ) (xs : List ℕ) → n ≤ most → (n / base ≡ 0 → ⊥) → Read (n / base) i (spelled base 1 (suc k) (n / base) (glyph_of (n % base) ∷ xs)) (glyph_of (n % base) ∷ xs) → Read n i (spelled base 1 (suc (suc k)) n xs) xs
  many_left k n i xs m e r = rw (goes_on n xs e) (digit_more n i (spelled base 1 (suc k) (n / base) (glyph_of (n % base) ∷ xs)) xs m r)

  none_left : (n : ℕ) → n < base ^ 1 → n / base ≡ 0
  none_left n l =
      let p : n < 1 * base = rw (pow-suc base 0, pow-zero base) at l in
      let q : n < base = omega arith in
      div-eq_of_lt q

  fewer : (k n : ℕ) → n < base ^ suc (suc k) → n / base < base ^ suc k
  fewer k n l = (div-lt_iff_lt-mul {k = base} {x = n} {y = base ^ suc k} (omega arith)).1 (rw (pow-suc base (suc k)) at l)

  pub read_back : (k n i : ℕ) (xs : List ℕ) → n < base ^ suc k → n ≤ most → Read n i (spelled base 1 (suc k) n xs) xs
  read_back zero n i xs h m = one_left zero n i xs m (none_left n h)
  read_back (suc k) n i xs h m =
      by_bool
      (eqb (n / base) 0)
      (λ e. one_left (suc k) n i xs m (eqb-true (n / base) 0 e))
      (λ e. many_left k n i xs m (eqb-false (n / base) 0 e) (read_back k (n / base) i (glyph_of (n % base) ∷ xs) (fewer k n h) (omega (arith, div-le_self n base))))

  -- the whole text of a number is read as that number, up to the text's end
  pub text_read_back : (n : ℕ) → n < base ^ 20 → n ≤ most → number_from (digits_text base 1 n) 0 base most ≡ Some (word n (length (digits_text base 1 n)))
  unfolding number_from digits_text
  text_read_back n h m =
      let r : Read n 0 (spelled base 1 20 n []) [] = read_back 19 n 0 [] h m in
      let c : 0 + r.count ≡ length (spelled base 1 20 n []) = omega (arith, r.long) in
      r.value ∙ sym (closed_some 0 n (0 + r.count) (omega (arith, r.some))) ∙ ap (λ (to : ℕ). Some (word n to)) c

-- 64 bits in decimal and in hex
pub decimal_read_back : (n most : ℕ) → n < 18446744073709551616 → n ≤ most → number_from (decimal_text n) 0 10 most ≡ Some (word n (length (decimal_text n)))
decimal_read_back n most h m = text_read_back 10 most (omega arith) (omega arith) n (omega arith) m

pub hex_read_back : (n most : ℕ) → n < 18446744073709551616 → n ≤ most → number_from (hex_text n) 0 16 most ≡ Some (word n (length (hex_text n)))
hex_read_back n most h m = text_read_back 16 most (omega arith) (omega arith) n (omega arith) m
