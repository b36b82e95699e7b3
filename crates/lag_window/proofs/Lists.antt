-- The lists lent for a window: what keeps them the same keeps them so after what came before. Assumes nothing.
use mathlib.Core.Path.{refl, ◌∙◌}
use Rattle.rules_window.specs.declared.WindowLists.{WindowLists}
use Rattle.rules_window.specs.Lending.{SameWindow}

pub same_none : (l : WindowLists) → SameWindow l l
same_none l = record { starts = refl; totals = refl; counts = refl; sums = refl }

pub same_more : (a b c : WindowLists) → SameWindow a b → SameWindow b c → SameWindow a c
same_more a b c f g = record { starts = g.starts ∙ f.starts; totals = g.totals ∙ f.totals; counts = g.counts ∙ f.counts; sums = g.sums ∙ f.sums }
