-- `lag_window::inner::place` meets its contract. Assumes nothing.
use native.Mathlib.Omega.{arith}
use Rattle.lag_window.proofs.Pushing.{place_fits, place_add_fits, place_lt}
use Rattle.lag_window.proofs.inner.place.Goals as goal

pub overflow_mul-result : goal.overflow_mul-result
overflow_mul-result c = search place_fits

pub overflow_add-result : goal.overflow_add-result
overflow_add-result c = search place_add_fits

pub returns : goal.returns
returns c = (omega arith, search place_lt)
