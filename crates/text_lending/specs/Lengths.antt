-- How much of each list a call of the program is lent. Assumes nothing.
use Rattle.std.specs.Prelude.{ℕ, ◌+◌, ◌-◌, ◌*◌, ◌^◌, min, Bool, nat_le}
use Rattle.base.specs.Choice.{pick}
use Rattle.buckets.specs.Ranges.{reaches_allowed, buckets_of}
use Rattle.text_lending.specs.declared.FileSizes.{FileSizes}
use Rattle.text_lending.specs.declared.Places.{Places}
use Rattle.text_lending.specs.declared.Sizes.{Sizes}
use Rattle.text_lending.specs.declared.Span.{Span}

-- the buckets a second of windows with these settings; none where no supervisor has such an offset or maximum, or the width is 0
unfoldable pub buckets_lent : (offset maximum width : ℕ) → ℕ
buckets_lent offset maximum width =
    pick (reaches_allowed offset maximum) (pick (nat_le 1 width) (buckets_of offset maximum width) 0) 0

-- no length is above the largest place
abbrev pub countable : ℕ → ℕ
countable n = min n (2 ^ 64 - 1)

-- after `!5` each list is one place short
abbrev pub cut_to : (length : ℕ) (short : Bool) → ℕ
cut_to length short = pick short (length - 1) length

-- 11 seconds an input with a count for each bucket, a sum for each bucket, 600 peaks and 12 words an input
unfoldable pub lengths_for : (n buckets : ℕ) (short : Bool) → Sizes
lengths_for n buckets short =
    record {
      seconds = cut_to (countable (n * 11)) short;
      counts = cut_to (countable (countable (n * 11) * buckets)) short;
      sums = cut_to (countable (n * buckets)) short;
      peaks = cut_to (countable (n * 600)) short;
      words = cut_to (countable (n * 12)) short;
    }

-- document 02: "The reader fills 1,024 flow bytes and 64 delays", "The writer's list is 1,287 bytes"
unfoldable pub files_lent : (short : Bool) → FileSizes
files_lent short = record { file = cut_to 1287 short; flows = cut_to 1024 short; delays = cut_to 64 short }

-- the places of input i begin after those of the inputs before it
unfoldable pub places_of : (i buckets : ℕ) → Places
places_of i buckets =
    record {
      seconds = countable (i * 11);
      counts = countable (countable (i * 11) * buckets);
      sums = countable (i * buckets);
      peaks = countable (i * 600);
    }

-- `count` places from `first` on, as far as the list has them
unfoldable pub places_from : (first count most : ℕ) → Span
places_from first count most =
    record { from = min first most; to = min (countable (first + count)) most }
