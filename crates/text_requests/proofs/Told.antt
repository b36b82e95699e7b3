-- What the calls take a word for, by the tests that tell it. Assumes nothing.
use Rattle.std.specs.Prelude.{◌≡◌, ℕ, Option, Some}
use Rattle.std.specs.Float.{binary64}
use Rattle.std.specs.Float.Ieee.{of_bits}
use Rattle.rules_calls.specs.declared.DelaySetting.TheVariants.{Ms as set-ms}
use Rattle.text_requests.specs.Parts.{setting_of}

pub setting_manual : (manual : Option ℕ) {bits : ℕ} → manual ≡ Some bits → {d : _} → d ≡ of_bits binary64 bits → set-ms d ≡ setting_of manual
unfolding setting_of
setting_manual manual h e = rw (h, e)
