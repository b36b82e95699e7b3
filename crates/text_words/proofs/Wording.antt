-- A word of a line, told by what its field was found to be. Assumes nothing.
use mathlib.Core.Path.{◌≡◌, ap, sym, ◌∙◌}

-- what was found is the field, and has this form
module _ {A B : Type 0} (f : A → B) {r : B} where
  pub told : {field form : A} → field ≡ form → r ≡ f form → r ≡ f field
  told h q = q ∙ ap f (sym h)

  pub carried : {field found : A} → found ≡ field → r ≡ f found → r ≡ f field
  carried e q = q ∙ ap f e

  pub told_by_law : {field found form : A} → found ≡ field → found ≡ form → r ≡ f form → r ≡ f field
  told_by_law e h q = carried e (told h q)
