-- Lent lists that stand as they were lent, after no call and after one more. Assumes nothing.
use mathlib.Core.Path.{refl, ◌∙◌}
use Rattle.rules_record.specs.declared.AllLists.{AllLists}
use Rattle.rules_record.specs.Lending.{SameLists}

pub same_none : (lists : AllLists) → SameLists lists lists
same_none lists = record { starts = refl; totals = refl; counts = refl; sums = refl; times = refl; peaks = refl }

pub same_more : {before now after : AllLists} → SameLists before now → SameLists now after → SameLists before after
same_more before now =
    record {
      starts = now.starts ∙ before.starts;
      totals = now.totals ∙ before.totals;
      counts = now.counts ∙ before.counts;
      sums = now.sums ∙ before.sums;
      times = now.times ∙ before.times;
      peaks = now.peaks ∙ before.peaks;
    }
