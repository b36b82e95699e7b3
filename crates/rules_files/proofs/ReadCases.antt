-- The reader's checks and replies, case by case. Assumes nothing.
use Prim.Native.Nat.{ℕ, ◌*◌, ◌<◌, ◌≤◌}
use mathlib.Core.Bool.{true, false}
use mathlib.Core.Path.{◌≡◌, refl, sym, ap, ◌∙◌}
use mathlib.Core.List.{List}
use native.Mathlib.Omega.{arith}
use lib.ListN.{length}
use borrow.Author.Tests.{eq-eqb, ne_eqb, eqb-true}
use Rattle.base.specs.Lists.{padded, listed}
use Rattle.base.proofs.Choices.{yes_ask, no_ask, asked, refused_old, accepted_new, accepted_all}
use Rattle.rules_files.specs.Files.{rises, count_in, flow_in, delay_in, headed}
use Rattle.rules_files.specs.ReadFile.{read_number, flow_byte_in, flows_read, delays_read, LeftByReader, read_reply}
use Rattle.rules_files.proofs.Heads.{Headed, headed_of, of_headed, unheaded}

-- what the reader's checks let through
pub record Readable (version head : ℕ) (file : List ℕ) (bytes delays : ℕ) : Type 0 where
  pub headed : Headed version head file
  pub bytes_long : bytes ≡ 1024
  pub delays_long : delays ≡ 64
  pub rising : rises (flow_in file head) (count_in file) ≡ true

module _ (version head : ℕ) (file : List ℕ) (bytes delays : ℕ) where
  pub read_first : headed version head file ≡ false → 19 ≡ read_number version head file bytes delays
  unfolding read_number
  read_first h = sym (no_ask 19 _ h)

  -- a file longer than any edition can be, a head of at most 11 bytes and 64 entries, is refused by 19 whatever its bytes
  pub too_long : head ≤ 11 → 1291 < length file → 19 ≡ read_number version head file bytes delays
  too_long low far = read_first (sym (unheaded version head file (λ h. omega (arith, h.few, h.long))))

  module _ (h : headed version head file ≡ true) where
    pub read_bytes : (bytes ≡ 1024 → ⊥) → 5 ≡ read_number version head file bytes delays
    unfolding read_number
    read_bytes n = sym (yes_ask 19 _ h ∙ no_ask 5 _ (ne_eqb _ _ n))

    module _ (b : bytes ≡ 1024) where
      pub read_delays_long : (delays ≡ 64 → ⊥) → 5 ≡ read_number version head file bytes delays
      unfolding read_number
      read_delays_long n = sym (yes_ask 19 _ h ∙ yes_ask 5 _ (eq-eqb _ _ b) ∙ no_ask 5 _ (ne_eqb _ _ n))

      module _ (d : delays ≡ 64) where
        pub read_falls : rises (flow_in file head) (count_in file) ≡ false → 20 ≡ read_number version head file bytes delays
        unfolding read_number
        read_falls n = sym (yes_ask 19 _ h ∙ yes_ask 5 _ (eq-eqb _ _ b) ∙ yes_ask 5 _ (eq-eqb _ _ d) ∙ no_ask 20 0 n)

        pub read_rises : rises (flow_in file head) (count_in file) ≡ true → 0 ≡ read_number version head file bytes delays
        unfolding read_number
        read_rises n = sym (yes_ask 19 _ h ∙ yes_ask 5 _ (eq-eqb _ _ b) ∙ yes_ask 5 _ (eq-eqb _ _ d) ∙ yes_ask 20 0 n)

  -- number 0 says all of it, and is said of all of it
  pub readable : read_number version head file bytes delays ≡ 0 → Readable version head file bytes delays
  unfolding read_number
  readable e =
      let a = asked 18 _ _ e in
      let b = asked 4 _ _ a.1 in
      let c = asked 4 _ _ b.1 in
      let d = asked 19 _ _ c.1 in
      record { headed = headed_of version head file a.0; bytes_long = eqb-true _ _ b.0; delays_long = eqb-true _ _ c.0; rising = d.0 }

  pub accepts : Readable version head file bytes delays → read_number version head file bytes delays ≡ 0
  accepts r = sym (read_rises (of_headed version head file r.headed) r.bytes_long r.delays_long r.rising)

-- ---- the replies
module _ (version head : ℕ) (file flows delays : List ℕ) where
  pub read_reply_number : (read_reply version head file flows delays).number ≡ read_number version head file (length flows) (length delays)
  unfolding read_reply
  read_reply_number = accepted_all (λ (r : LeftByReader). r.number ≡ number) number _ _ refl (λ z. sym z)
    where
      number : ℕ
      number = read_number version head file (length flows) (length delays)

  pub read_reply_accepted : read_number version head file (length flows) (length delays) ≡ 0
      → read_reply version head file flows delays ≡ record { number = 0; count = count_in file; flows = flows_read file head; delays = delays_read file head }
  unfolding read_reply
  read_reply_accepted z = accepted_new (read_number version head file (length flows) (length delays)) _ _ z

module _ (version head : ℕ) (file flows delays : List ℕ) {number : ℕ} (e : number ≡ read_number version head file (length flows) (length delays)) where
  pub read_refused : (number ≡ 0 → ⊥) → ◌≡◌ {A = LeftByReader} (record { number = number; count = 0; flows = flows; delays = delays }) (read_reply version head file flows delays)
  unfolding read_reply
  read_refused h =
      ap (λ (n : ℕ). let left : LeftByReader = record { number = n; count = 0; flows = flows; delays = delays } in left) e
      ∙ sym (refused_old (read_number version head file (length flows) (length delays)) _ _ (λ z. h (e ∙ z)))

  pub read_accepted : number ≡ 0 → {count : ℕ} → count ≡ count_in file → {fs ds : List ℕ} → fs ≡ padded 1024 (listed (flow_byte_in file head) (count * 16)) → ds ≡ padded 64 (listed (delay_in file head) count)
      → ◌≡◌ {A = LeftByReader} (record { number = number; count = count; flows = fs; delays = ds }) (read_reply version head file flows delays)
  unfolding read_reply flows_read delays_read
  read_accepted h {count} c {fs} {ds} f d =
      rw (f, d, c, h) (sym (read_reply_accepted version head file flows delays (sym e ∙ h)))
