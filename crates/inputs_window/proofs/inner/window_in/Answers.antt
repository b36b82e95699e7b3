-- `inputs_window::inner::window_in` meets its contract. Assumes nothing.
use Rattle.inputs_window.proofs.inner.window_in.Goals as goal

pub returns : goal.returns
returns c = rw c.buckets_of-buckets.ensures
