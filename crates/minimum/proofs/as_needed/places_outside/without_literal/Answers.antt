use Rattle.std.proofs.Common.{arith}
use Rattle.minimum.proofs.as_needed.places_outside.without_literal.Goals as goal

pub with_symbol-requires : goal.with_symbol-requires
with_symbol-requires c = let long = c.requires.cube.has_size.0 in let lt = c.requires.input in omega (arith, long, lt)
