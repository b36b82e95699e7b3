-- The head of a file: what check 19 says of mark, version, count and length, as facts. Assumes nothing.
use Prim.Native.Nat.{ℕ, ◌+◌, ◌*◌, ◌≤◌}
use mathlib.Core.Bool.{true, false}
use mathlib.Core.Path.{◌≡◌, refl, sym}
use mathlib.Core.List.{List}
use lib.Dec.{eqb}
use lib.ListN.{length, get_or}
use borrow.Author.Tests.{eq-eqb, eqb-true, le-leb, leb-true}
use Rattle.base.specs.Choice.{both}
use Rattle.base.proofs.Choices.{by_bool}
use Rattle.base.proofs.Points.{both_true, true_both}
use Rattle.byte_order.specs.Bytes.{little_at}
use Rattle.rules_files.specs.Files.{count_in, headed}

pub record Headed (version head : ℕ) (file : List ℕ) : Type 0 where
  pub first : get_or file 0 0 ≡ 68
  pub second : get_or file 1 0 ≡ 76
  pub third : get_or file 2 0 ≡ 89
  pub edition : little_at file 3 2 ≡ version
  pub few : count_in file ≤ 64
  pub long : length file ≡ head + count_in file * 20

module _ (version head : ℕ) (file : List ℕ) where
  pub headed_of : headed version head file ≡ true → Headed version head file
  unfolding headed
  headed_of h =
      let a = both_true _ _ h in
      let b = both_true _ _ a.1 in
      let c = both_true _ _ b.1 in
      let d = both_true _ _ c.1 in
      let e = both_true _ _ d.1 in
      record { first = eqb-true _ _ a.0; second = eqb-true _ _ b.0; third = eqb-true _ _ c.0; edition = eqb-true _ _ d.0; few = leb-true _ _ e.0; long = eqb-true _ _ e.1 }

  pub of_headed : Headed version head file → headed version head file ≡ true
  unfolding headed
  of_headed h =
      true_both _ _ (eq-eqb _ _ h.first)
      (true_both _ _ (eq-eqb _ _ h.second)
      (true_both _ _ (eq-eqb _ _ h.third)
      (true_both _ _ (eq-eqb _ _ h.edition)
      (true_both _ _ (le-leb _ _ h.few) (eq-eqb _ _ h.long)))))

  pub unheaded : (Headed version head file → ⊥) → false ≡ headed version head file
  unheaded f = by_bool (headed version head file) (λ yes. absurd (f (headed_of yes))) (λ no. sym no)

  -- all is right but for the length
  pub headed_last : get_or file 0 0 ≡ 68 → get_or file 1 0 ≡ 76 → get_or file 2 0 ≡ 89 → little_at file 3 2 ≡ version → {count : ℕ} → count ≡ count_in file → count ≤ 64
      → eqb (length file) (head + count * 20) ≡ headed version head file
  unfolding headed both
  headed_last a b c d {count} e f = rw (a, b, c, d, ← e, eq-eqb version version refl, le-leb count 64 f)
