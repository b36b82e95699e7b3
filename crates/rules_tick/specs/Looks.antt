-- What a tick brings: a look at each input, and the lags of all inputs in one list, those of input 0 first. Assumes nothing.
use Rattle.std.specs.Prelude.{ℕ, false, List, get_or, None}
use Rattle.base.specs.Lists.{sum, part}
use Rattle.rules_tick.specs.declared.Look.{Look}

-- nothing is seen
unfoldable pub no_look : Look
no_look = record { seen = None; world = record { inode = None; made = false; reader = None; head = 0 }; applied = 0; lags = 0 }

-- the look at input i
unfoldable pub look_at : (looks : List Look) (i : ℕ) → Look
look_at looks i = get_or looks i no_look

-- how many lags the first n inputs have
unfoldable pub lags_before : (looks : List Look) (n : ℕ) → ℕ
lags_before looks n = sum (λ i. (look_at looks i).lags) n

-- the lags of input i
unfoldable pub lags_of : (looks : List Look) (lags : List ℕ) (i : ℕ) → List ℕ
lags_of looks lags i = part (lags_before looks i) (look_at looks i).lags lags
