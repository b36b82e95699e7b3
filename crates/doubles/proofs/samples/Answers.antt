-- `doubles::samples` meets its contract. Assumes nothing.
use Rattle.std.proofs.Common.{sym, ◌∙◌, arith}
use lib.Ieee.{of_bits, binary64, mul, div}
use Rattle.doubles.specs.Doubles.{thousand, rate, samples_of}
use Rattle.doubles.proofs.Values.{is, isnt}
use Rattle.doubles.proofs.Halves.{small_cast, small_is, large_is, none_is, wide}
use Rattle.doubles.proofs.samples.Goals as goal

pub round_half_away-requires : goal.round_half_away-requires
unfolding of_bits
round_half_away-requires c = wide (div binary64 (mul binary64 c.args.m rate) thousand) (is c.if-x.true) (is c.if-x-2.true)

pub overflow_cast-result : goal.overflow_cast-result
unfolding of_bits
overflow_cast-result c =
    omega (arith, small_cast (div binary64 (mul binary64 c.args.m rate) thousand) (is c.if-x.true) (is c.if-x-2.true))

pub returns-then-x-2 : goal.returns-then-x-2
unfolding of_bits samples_of
returns-then-x-2 c =
    c.round_half_away.ensures ∙ sym (small_is (div binary64 (mul binary64 c.args.m rate) thousand) (is c.if-x.true) (is c.if-x-2.true))

pub returns-then-x : goal.returns-then-x
unfolding of_bits samples_of
returns-then-x c = sym (large_is (div binary64 (mul binary64 c.args.m rate) thousand) (is c.if-x.true) (isnt c.if-x-2.false))

pub returns : goal.returns
unfolding of_bits samples_of
returns c = sym (none_is (div binary64 (mul binary64 c.args.m rate) thousand) (isnt c.if-x.false))
