-- Files as words, computed at the edges of the definition. Assumes nothing.
use mathlib.Core.Path.{◌≡◌, refl}
use mathlib.Core.List.{[], ◌∷◌}
use Rattle.text_scan.specs.Scan.{word, after_byte, digit_of}
use Rattle.text_scan.specs.Text.{text}
use Rattle.std.specs.Prelude.{None, Some}
use Rattle.text_words.specs.Words.{mark_after}
use Rattle.text_files.specs.Files.{pair_of, bytes_from, digits_end, file_at, kept_from}

-- two digits a byte, the first weighing most
pub mark_read : bytes_from (text "444c59") ≡ 68 ∷ 76 ∷ 89 ∷ []
unfolding pair_of digit_of
mark_read = refl

-- digits are 0 to 9 and a to f
pub digits_from_0_to_f : bytes_from (text "090afa9f") ≡ 9 ∷ 10 ∷ 250 ∷ 159 ∷ []
unfolding pair_of digit_of
digits_from_0_to_f = refl

-- upper case is no digit, and a digit alone is no byte
pub upper_case_ends : bytes_from (text "0a0B0c") ≡ 10 ∷ []
unfolding pair_of digit_of
upper_case_ends = refl

pub odd_digit_left : bytes_from (text "0af") ≡ 10 ∷ []
unfolding pair_of digit_of
odd_digit_left = refl

-- the word's digits, and the place after them
pub digits_found : file_at (text "dread1 0aff") 6 32 ≡ Some (word 7 11)
unfolding file_at mark_after after_byte digits_end pair_of digit_of
digits_found = refl

pub dash_is_none : file_at (text "dread1 -") 6 32 ≡ Some (word 8 8)
unfolding file_at mark_after after_byte digits_end pair_of digit_of
dash_is_none = refl

pub nothing_is_no_word : file_at (text "dread1 ") 6 32 ≡ None
unfolding file_at mark_after after_byte digits_end pair_of digit_of
nothing_is_no_word = refl

pub dash_keeps_nothing : kept_from (text "dread1 -") 8 ≡ []
unfolding kept_from pair_of digit_of
dash_keeps_nothing = refl

pub file_kept : kept_from (text "dread1 0aff") 7 ≡ 10 ∷ 255 ∷ []
unfolding kept_from pair_of digit_of
file_kept = refl
