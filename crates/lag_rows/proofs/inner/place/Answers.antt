-- `lag_rows::inner::place` meets its contract. Assumes nothing.
use Rattle.lag_rows.proofs.Tallies.{place_is, place_in, place_fits}
use Rattle.lag_rows.proofs.inner.place.Goals as goal

pub overflow_add-result : goal.overflow_add-result
overflow_add-result c = place_fits _ _ _ _ c.args.places.now.begin c.requires.0 c.requires.1 c.args.places.now.few

pub returns : goal.returns
returns c = (place_is _ _ _ _ c.args.places.now.begin c.requires.0 c.requires.1, place_in _ _ _ _ c.args.places.now.begin c.requires.0 c.requires.1)
