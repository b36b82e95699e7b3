-- Rounding with halves away from zero, and what document 02's §3 says of it, each at its edge, computed on the definitions. Assumes nothing.
use Rattle.std.proofs.Common.{◌≡◌, true, false, [], ◌∷◌, pos, negsuc, refl}
use lib.Ieee.{fin, le}
use Rattle.doubles.specs.Doubles.{half_away}
use Rattle.doubles.specs.Nearest.{distance, InRange}

-- 0.5, 1.5 and 2.5 go to the larger neighbour, the double before 0.5 goes to 0
pub halfway_to_the_larger :
    half_away (fin false 1 (negsuc 0)) ∷ half_away (fin false 3 (negsuc 0)) ∷ half_away (fin false 5 (negsuc 0)) ∷ half_away (fin false 9007199254740991 (negsuc 53)) ∷ []
    ≡ 1 ∷ 2 ∷ 3 ∷ 0 ∷ []
unfolding half_away
halfway_to_the_larger = refl

-- 1.5 lies one half from 1 and from 2, three from 0, five from -1
pub distances_in_halves :
    distance (fin false 3 (negsuc 0)) (pos 1) ∷ distance (fin false 3 (negsuc 0)) (pos 2) ∷ distance (fin false 3 (negsuc 0)) (pos 0) ∷ distance (fin false 3 (negsuc 0)) (negsuc 0) ∷ []
    ≡ 1 ∷ 1 ∷ 3 ∷ 5 ∷ []
unfolding distance
distances_in_halves = refl

-- 0, -0 and 4,294,967,295 are in range
pub ends_in_range : InRange (fin false 0 (pos 0)) × InRange (fin true 0 (pos 0)) × InRange (fin false 4294967295 (pos 0))
ends_in_range = (
  record { low = unfold le in tt; high = unfold le in tt },
  record { low = unfold le in tt; high = unfold le in tt },
  record { low = unfold le in tt; high = unfold le in tt },
)
