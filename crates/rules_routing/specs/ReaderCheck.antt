-- Document 01's check 10, of a reader. Assumes nothing.
use Rattle.std.specs.Prelude.{ℕ, Bool, true, leb, None, Option, Some}

-- 10: "channels at most 64", where the reader opens
abbrev pub reader_fits : Option ℕ → Bool
reader_fits None = true
reader_fits (Some channels) = leb channels 64
